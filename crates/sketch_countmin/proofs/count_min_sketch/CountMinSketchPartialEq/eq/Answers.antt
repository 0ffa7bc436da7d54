use Rattle.std.proofs.Common.{arith, refl, subst, ◌≡◌}
use Rattle.std.specs.Prelude.{IsTrue, ◌↔◌}
use Rattle.std.proofs.lemmas.Int.{ints}
use Rattle.std.proofs.lemmas.Bool.Decides.{same_from_decides}
use Rattle.sketch_countmin.specs.Equality.{same_state, same_state-Decides}
use Rattle.sketch_countmin.specs.State.{CountState, SameShape}
use Rattle.sketch_countmin.specs.Table.{state_of}
use Rattle.sketch_countmin.proofs.Merges.{shape_own}
use Rattle.sketch_countmin.proofs.States.{same_here}
use Rattle.sketch_countmin.proofs.count_min_sketch.CountMinSketchPartialEq.eq.Goals as goal

pub returns-clause-same : goal.returns-clause-same
returns-clause-same g c =
    let number = g.T.CountMinValue.number in
    let i = c.self.inside in
    let o = c.other.inside in
    let first : CountState = state_of i.grid.row_seeds i.grid.buckets i.seed (number i.total) i.grid.cells in
    let second : CountState = state_of o.grid.row_seeds o.grid.buckets o.seed (number o.total) o.grid.cells in
    let shape : SameShape first second = shape_own first c.args.self.now second c.args.other.now c.self.view_is c.other.view_is (c.if-not-has_shape_of.ensures.0 refl) in
    let total : number i.total ≡ number o.total =
    omega (arith, ints, c.if-to_number.false, c.to_number.ensures.narrow, c.to_number.ensures.value, c.to_number-else-not-has_shape_of.ensures.narrow, c.to_number-else-not-has_shape_of.ensures.value) in
    subst (λ (s : CountState). IsTrue c.has_cells_of.result ↔ (s ≡ c.args.other.now)) c.self.view_is
    (subst (λ (s : CountState). IsTrue c.has_cells_of.result ↔ (first ≡ s)) c.other.view_is
    (same_here _ _ _ _ _ _ _ _ _ _ _ c.has_cells_of.result c.self.invariant c.other.invariant shape.hashes shape.buckets shape.seed total c.has_cells_of.ensures))

pub returns-clause-value : goal.returns-clause-value
returns-clause-value g c = same_from_decides c.has_cells_of.result (same_state c.args.self.now c.args.other.now) (returns-clause-same g c) (same_state-Decides c.args.self.now c.args.other.now)
