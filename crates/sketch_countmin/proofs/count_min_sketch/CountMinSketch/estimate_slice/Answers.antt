use Rattle.std.proofs.Common.{subst, List, ℕ, ℤ, [], map, get_or, pos}
use Rattle.sketch_base.specs.Hashes.{fed_bytes}
use Rattle.sketch_countmin.specs.State.{CountState, IsMinCell}
use Rattle.sketch_countmin.proofs.Estimates.{least_here}
use Rattle.sketch_countmin.proofs.count_min_sketch.CountMinSketch.estimate_slice.Goals as goal

pub returns-clause-least : goal.returns-clause-least
returns-clause-least g c = λ j lt.
    let number = g.T.CountMinValue.number in
    let bytes : List ℕ = get_or (map (fed_bytes g.I.Hash.hash_input) c.args.items.now) j [] in
    let z : ℤ = get_or (map number c.min_cells.new.least) j (pos 0) in
    subst (λ (s : CountState). IsMinCell s bytes z) c.self.view_is
    (least_here _ _ _ _ _ _ bytes z c.self.invariant (c.min_cells.ensures j lt))
