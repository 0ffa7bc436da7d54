use Rattle.std.proofs.Common.{◌≡◌, ℕ, ◌+◌, ◌-◌, ◌++◌, List, map, take, drop, ap, ◌∙◌, arith}
use Rattle.std.specs.List.{flat_map}
use Rattle.std.proofs.Math.Seq.{take-add}
use Rattle.std.proofs.lemmas.List.{map-append}
use Rattle.sketch_base.proofs.Writing.{piece_written}
use Rattle.sketch_countmin.specs.Values.{bytes_of}
use Rattle.sketch_countmin.proofs.image.append_cells.Goals as goal

pub appends-preserved : goal.appends-preserved
appends-preserved g c =
    let number = g.T.CountMinValue.number in
    let counts = c.args.counts.now in
    let start : ℕ = c.appends.start in
    let count : ℕ = c.min-count.result in
    let part = take count (drop start counts) in
    let split : map number (take (start + count) counts) ≡ map number (take start counts) ++ map number part =
    ap (map number) (take-add start count counts) ∙ map-append number (take start counts) part in
    let same : start + count - start ≡ count = omega arith in
    let bytes : List ℕ = c.write_cells.new.out in
    let bytes_are : bytes ≡ flat_map bytes_of (map number part) = c.write_cells.ensures ∙ ap (λ (n : ℕ). flat_map bytes_of (map number (take n (drop start counts)))) same in
    record {
      within = omega (arith, c.appends-test.true, c.min-count.ensures);
      written =
          piece_written bytes_of (map number (take start counts)) (map number part) (map number (take (start + count) counts)) c.args.image.now.items c.appends.image.items _ bytes
          split c.appends.invariant.written bytes_are c.in_ok-extend_from_slice.ensures.items;
    }
