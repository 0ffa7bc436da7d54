use Rattle.std.proofs.Common.{arith, subst, ℕ, ◌<◌, List}
use Rattle.sketch_countmin.specs.State.{CountState, IsMinCell}
use Rattle.sketch_countmin.proofs.Estimates.{least_here}
use Rattle.sketch_countmin.proofs.Histories.{enclosed, raised_by_others}
use Rattle.sketch_countmin.proofs.count_min_sketch.CountMinSketch.estimate_item.Goals as goal

pub returns-clause-least : goal.returns-clause-least
returns-clause-least g c =
    let number = g.T.CountMinValue.number in
    let i = c.self.inside in
    let bytes : List ℕ = g.R.Item.bytes c.args.item in
    subst (λ (s : CountState). IsMinCell s bytes (number c.min_cell.result)) c.self.view_is
    (least_here _ _ _ _ _ _ bytes (number c.min_cell.result) c.self.invariant c.min_cell.ensures)

pub returns-clause-encloses : goal.returns-clause-encloses
returns-clause-encloses g c =
    let buckets : 0 < c.args.self.now.buckets = subst (λ (s : CountState). 0 < s.buckets) c.self.view_is (omega (arith, c.self.invariant.some_buckets)) in
    λ h stands nonnegative. enclosed c.args.self.now h (g.R.Item.bytes c.args.item) (g.T.CountMinValue.number c.min_cell.result) buckets (returns-clause-least g c) stands nonnegative

pub returns-clause-raised : goal.returns-clause-raised
returns-clause-raised g c =
    let buckets : 0 < c.args.self.now.buckets = subst (λ (s : CountState). 0 < s.buckets) c.self.view_is (omega (arith, c.self.invariant.some_buckets)) in
    λ h stands exact. raised_by_others c.args.self.now h (g.R.Item.bytes c.args.item) (g.T.CountMinValue.number c.min_cell.result) buckets (returns-clause-least g c) stands exact
