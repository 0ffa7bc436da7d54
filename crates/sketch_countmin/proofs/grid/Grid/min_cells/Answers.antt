use Rattle.std.proofs.Common.{List, ℕ, ℤ, [], map, get_or, pos, subst}
use Rattle.sketch_base.specs.Hashes.{fed_bytes}
use Rattle.sketch_countmin.specs.Grid.{GridState, IsMinIn}
use Rattle.sketch_countmin.proofs.grid.Grid.min_cells.Goals as goal

pub returns : goal.returns
returns g c = λ j lt.
    let number = g.T.CountMinValue.number in
    let bytes : List ℕ = get_or (map (fed_bytes g.I.Hash.hash_input) c.args.items.now) j [] in
    let z : ℤ = get_or (map number c.min_cells.new.least) j (pos 0) in
    let new = c.new-cells.ensures in
    subst (λ (s : GridState). IsMinIn s bytes z) c.self.view_is
    (rw (new.cells, new.buckets, new.seeds, c.as_slice.ensures.value, c.deref.ensures.value) at (c.min_cells.ensures j lt))
