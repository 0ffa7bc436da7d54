use Rattle.sketch_text.specs.Records.{records_by}
use Rattle.sketches.proofs.ItemWeights.{keys_none, keys_more}
use Rattle.sketches.proofs.weight.key_weights.append_lines.Goals as goal

pub each-init : goal.each-init
each-init c = keys_none c.args.style c.args.part c.args.sketch.now (records_by c.args.part c.args.bytes.now) c.args.written.now.items

pub each-preserved : goal.each-preserved
each-preserved c =
    keys_more c.args.style c.args.part c.args.sketch.now (records_by c.args.part c.args.bytes.now) (records_by c.args.part c.each.rest.now) (records_by c.args.part c.in-Some.after.now) c.in-Some.row.now c.args.written.now.items c.each.written.items c.append_key.new.written.items c.each.invariant c.in-Some.ensures.taken.0 c.in_ok-append_key.ensures
