use Rattle.std.proofs.Common.{◌∙◌, take, drop, ap, sym, arith}
use Rattle.std.proofs.lemmas.Simd.{length-chunk}
use Rattle.std.specs.List.{position_or_len}
use Rattle.sketch_base.proofs.Searching.{range_by_length}
use Rattle.sketch_base.proofs.byte_set.first_member_in_16.Goals as goal

pub returns : goal.returns
returns g c =
    let long = length-chunk c.args.at 16 c.args.bytes.now c.requires in
    c.lowest_mark.ensures (g.S.ByteSet.member c.args.set) (take 16 (drop c.args.at c.args.bytes.now)) long (omega arith) c.marks_of_16.ensures
    ∙ ap (position_or_len (g.S.ByteSet.member c.args.set)) (sym (range_by_length c.args.bytes.now c.args.at 16))
