use Rattle.std.proofs.Common.{◌≡◌, ap, sym, subst, arith}
use Rattle.sketch_frequencies.specs.ManyMerges.{states_of, total_of_all, ExtendsAllBudgets}
use Rattle.sketch_frequencies.specs.State.{FrequentState, IsState}
use Rattle.sketch_frequencies.proofs.ManyMerges.{joins_empty, stands_empty, budget_empty}
use Rattle.sketch_frequencies.proofs.frequent_items_sketch.FrequentItemsSketch.merge_all.Goals as goal

-- the others are empty

pub returns-then-total-self-clause-joins : goal.returns-then-total-self-clause-joins
returns-then-total-self-clause-joins g c =
    let same = ap (λ (s : FrequentState g.row.T.Denot). s.total) c.self.view_is in
    let none : total_of_all (states_of c.args.others.now) ≡ 0 = omega (arith, c.in_ok-total.ensures.sum, c.if-total-self.true, same) in
    joins_empty g.met.T.Eq.laws c.args.self.now (states_of c.args.others.now) none

pub returns-then-total-self-clause-stands : goal.returns-then-total-self-clause-stands
returns-then-total-self-clause-stands g c =
    let same = ap (λ (s : FrequentState g.row.T.Denot). s.total) c.self.view_is in
    let none : total_of_all (states_of c.args.others.now) ≡ 0 = omega (arith, c.in_ok-total.ensures.sum, c.if-total-self.true, same) in
    stands_empty g.met.T.Eq.laws c.args.self.now (states_of c.args.others.now) (subst (λ s. IsState g.T.PartialEq.eq s) c.self.view_is c.self.invariant) c.in_ok-total.ensures.states none

pub returns-then-total-self-clause-budget : goal.returns-then-total-self-clause-budget
returns-then-total-self-clause-budget g c =
    let same = ap (λ (s : FrequentState g.row.T.Denot). s.total) c.self.view_is in
    let none : total_of_all (states_of c.args.others.now) ≡ 0 = omega (arith, c.in_ok-total.ensures.sum, c.if-total-self.true, same) in
    budget_empty g.met.T.Eq.laws c.args.self.now (states_of c.args.others.now) (subst (λ s. IsState g.T.PartialEq.eq s) c.self.view_is c.self.invariant) c.in_ok-total.ensures.states none

-- the sketch is the merged one

pub returns-clause-budget : goal.returns-clause-budget
returns-clause-budget g c = subst (λ (s : FrequentState g.row.T.Denot). ExtendsAllBudgets g.T.PartialEq.eq c.args.self.now (states_of c.args.others.now) s) (sym c.drop.view_is) c.in_ok-merged.ensures.budget
