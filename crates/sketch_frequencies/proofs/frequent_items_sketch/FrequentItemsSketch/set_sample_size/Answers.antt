use Rattle.std.proofs.Common.{ℕ, arith, ap, subst, sym}
use Rattle.std.specs.Prelude.{IsTrue}
use Rattle.std.specs.Int.{is_power_of_two}
use Rattle.sketch_frequencies.specs.History.FrequentHistory.{New, Merge}
use Rattle.sketch_frequencies.specs.Stands.{StandsFor, KeepsTailBudget}
use Rattle.sketch_frequencies.specs.State.{FrequentState, IsSampleSize}
use Rattle.sketch_frequencies.proofs.Resampling.{resampled, stands_resampled, budget_resampled}
use Rattle.sketch_frequencies.proofs.frequent_items_sketch.FrequentItemsSketch.set_sample_size.Goals as goal

pub returns-clause-stands : goal.returns-clause-stands
returns-clause-stands g c = λ h stands.
    let old = c.args.self.now in
    let n = c.args.sample_size in
    let size = ap (λ (s : FrequentState g.row.T.Denot). s.max_size) c.self.view_is in
    subst (λ (s : FrequentState g.row.T.Denot). StandsFor g.T.PartialEq.eq (resampled s n) (Merge (New old.max_size n) h)) (sym c.self.view_is)
    (stands_resampled g.T.PartialEq.eq old n h (omega (arith, c.self.invariant.least, c.self.invariant.within, size))
    (subst (λ (m : ℕ). IsTrue (is_power_of_two m)) size c.self.invariant.max_size_power)
    (subst (λ (m : ℕ). IsSampleSize m n) size c.in_ok-check_sample_size.ensures.sample) stands)

pub returns-clause-budget : goal.returns-clause-budget
returns-clause-budget g c = λ h stands keeps.
    let old = c.args.self.now in
    let n = c.args.sample_size in
    subst (λ (s : FrequentState g.row.T.Denot). KeepsTailBudget g.T.PartialEq.eq (resampled s n) (Merge (New old.max_size n) h)) (sym c.self.view_is)
    (budget_resampled g.T.PartialEq.eq old n h keeps)
