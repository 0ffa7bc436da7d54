use Rattle.std.proofs.Common.{◌≡◌, ℕ, ◌+◌, ◌-◌, List, take, drop, ap, ◌∙◌, arith}
use Rattle.std.specs.Int.{w64, to_le_bytes}
use Rattle.std.proofs.Math.Seq.{take-add}
use Rattle.sketch_base.specs.Fields.{bytes_of_words}
use Rattle.sketch_base.proofs.Writing.{piece_written}
use Rattle.sketch_bloom.proofs.image.append_words.Goals as goal

pub appends-preserved : goal.appends-preserved
appends-preserved c =
    let words : List ℕ = c.args.words.now in
    let start : ℕ = c.appends.start in
    let count : ℕ = c.min-count.result in
    let part : List ℕ = take count (drop start words) in
    let same : start + count - start ≡ count = omega arith in
    let bytes : List ℕ = c.write_words.new.out in
    let bytes_are : bytes ≡ bytes_of_words part = c.write_words.ensures ∙ ap (λ (n : ℕ). bytes_of_words (take n (drop start words))) same in
    record {
      within = omega (arith, c.appends-test.true, c.min-count.ensures);
      written =
          piece_written (to_le_bytes w64) (take start words) part (take (start + count) words) c.args.image.now.items c.appends.image.items _ bytes
          (take-add start count words) c.appends.invariant.written bytes_are c.in_ok-extend_from_slice.ensures.items;
    }
