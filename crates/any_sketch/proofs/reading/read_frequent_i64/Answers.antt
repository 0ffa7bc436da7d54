use Rattle.std.proofs.Common.{refl, rules}
use Rattle.counter_table.specs.Bytes.{table_bytes}
use Rattle.sketch_frequencies.specs.Items.{i64_codec}
use Rattle.any_sketch.specs.Reading.{i64_row}
use Rattle.any_sketch.proofs.SoundImages.{sound_items}
use Rattle.any_sketch.proofs.reading.read_frequent_i64.Goals as goal

-- the bytes of a slot are those of the type
pub returns-in-Ok : goal.returns-in-Ok
unfolding table_bytes
returns-in-Ok c = record {
  read = (
    (
      record {
        of_image = c.in-Ok.ensures.image;
        sample = c.in-Ok.ensures.sample;
        keyed = c.in-Ok.ensures.key;
        purges = c.in-Ok.ensures.purges;
        stands = c.in-Ok.ensures.stands;
        budget = c.in-Ok.ensures.budget;
        within = c.in-Ok.ensures.within;
        accepted = c.in-Ok.ensures.accepted refl;
      },
      c.in-Ok.ensures.front,
    ),
    c.in-Ok.ensures.used,
  );
  there = c.in-Ok.ensures.there;
  sound = sound_items i64_row i64_codec (λ n. n) c.args.options.max_bytes c.args.image.now c.in-Ok.sketch c.in-Ok.ensures.image (c.in-Ok.ensures.accepted refl);
  refused = tt;
}

pub returns-in-Err : goal.returns-in-Err
unfolding table_bytes
returns-in-Err c = search rules
