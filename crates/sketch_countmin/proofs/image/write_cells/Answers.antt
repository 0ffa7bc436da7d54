use Rattle.std.proofs.Common.{◌≡◌, ℕ, ◌+◌, ◌*◌, ◌≤◌, List, [], length, map, take, sym, ap, ◌∙◌, arith}
use Rattle.std.specs.List.{flat_map}
use Rattle.std.proofs.lemmas.List.{take_all}
use Rattle.std.proofs.lemmas.Slice.{take-put_mid}
use Rattle.sketch_countmin.specs.Values.{bytes_of}
use Rattle.sketch_countmin.proofs.Writing.{bytes_long, written_more}
use Rattle.sketch_countmin.proofs.image.write_cells.Goals as goal

pub loop-i-preserved : goal.loop-i-preserved
loop-i-preserved g c =
    let number = g.T.CountMinValue.number in
    let i : ℕ = c.loop-i.i in
    let x = c.index-counts-i.result in
    let bytes : List ℕ = c.copy_from_slice.new.self in
    let bytes_are : bytes ≡ bytes_of (number x) = c.copy_from_slice.ensures.after ∙ c.to_bytes.ensures.value in
    let long : length bytes ≡ 8 = bytes_long (number x) bytes bytes_are in
    let room : 8 * i ≤ length c.loop-i.out = omega (arith, c.loop-i-test.true, c.loop-i.auto.out, c.requires) in
    written_more number c.args.counts.now i x [] (take (8 * i) c.loop-i.out) _ bytes c.loop-i-test.true c.index-counts-i.is bytes_are (take-put_mid (8 * i) _ c.loop-i.out bytes (8 * (i + 1)) (omega arith) room) c.loop-i.invariant

pub returns : goal.returns
returns g c =
    let number = g.T.CountMinValue.number in
    let counts = c.args.counts.now in
    let all_bytes : take (8 * c.loop-i.i) c.loop-i.out ≡ c.loop-i.out = take_all (8 * c.loop-i.i) c.loop-i.out (omega (arith, c.loop-i-test.false, c.loop-i.auto.out, c.requires)) in
    let all_cells : take c.loop-i.i counts ≡ counts = take_all c.loop-i.i counts (omega (arith, c.loop-i-test.false)) in
    sym all_bytes ∙ (c.loop-i.invariant ∙ ap (λ xs. flat_map bytes_of (map number xs)) all_cells)
