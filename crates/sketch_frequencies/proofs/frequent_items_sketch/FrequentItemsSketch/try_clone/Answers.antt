use Rattle.std.proofs.Common.{subst, refl}
use Rattle.sketch_frequencies.specs.State.{FrequentState, IsState, state_of}
use Rattle.sketch_frequencies.specs.Steps.{IsSameState}
use Rattle.sketch_frequencies.proofs.SameStates.{state_alike, stands_alike, budget_alike}
use Rattle.sketch_frequencies.proofs.frequent_items_sketch.FrequentItemsSketch.try_clone.Goals as goal

pub invariant_of-result : goal.invariant_of-result
invariant_of-result g c =
    let new : FrequentState g.row.T.Denot = state_of c.in_ok-map.map c.self.inside.error c.self.inside.total c.self.inside.max_size c.self.inside.sample_size in
    let same : IsSameState g.T.PartialEq.eq c.args.self.now new = subst (λ s. IsSameState g.T.PartialEq.eq s new) c.self.view_is (record { holds = record { counters = c.in_ok-map.ensures.entries; error = refl; total = refl; max_size = refl; size = c.in_ok-map.ensures.size }; sample_size = refl; key = c.in_ok-map.ensures.key; purges = c.in_ok-map.ensures.purges }) in
    state_alike g.met.T.Eq.laws c.args.self.now new (subst (λ s. IsState g.T.PartialEq.eq s) c.self.view_is c.self.invariant) same

pub returns-clause-state : goal.returns-clause-state
returns-clause-state g c = invariant_of-result g c

pub returns-clause-stands : goal.returns-clause-stands
returns-clause-stands g c =
    let new : FrequentState g.row.T.Denot = state_of c.in_ok-map.map c.self.inside.error c.self.inside.total c.self.inside.max_size c.self.inside.sample_size in
    let same : IsSameState g.T.PartialEq.eq c.args.self.now new = subst (λ s. IsSameState g.T.PartialEq.eq s new) c.self.view_is (record { holds = record { counters = c.in_ok-map.ensures.entries; error = refl; total = refl; max_size = refl; size = c.in_ok-map.ensures.size }; sample_size = refl; key = c.in_ok-map.ensures.key; purges = c.in_ok-map.ensures.purges }) in
    λ h s. stands_alike g.met.T.Eq.laws c.args.self.now new (subst (λ s. IsState g.T.PartialEq.eq s) c.self.view_is c.self.invariant) same h s

pub returns-clause-budget : goal.returns-clause-budget
returns-clause-budget g c =
    let new : FrequentState g.row.T.Denot = state_of c.in_ok-map.map c.self.inside.error c.self.inside.total c.self.inside.max_size c.self.inside.sample_size in
    let same : IsSameState g.T.PartialEq.eq c.args.self.now new = subst (λ s. IsSameState g.T.PartialEq.eq s new) c.self.view_is (record { holds = record { counters = c.in_ok-map.ensures.entries; error = refl; total = refl; max_size = refl; size = c.in_ok-map.ensures.size }; sample_size = refl; key = c.in_ok-map.ensures.key; purges = c.in_ok-map.ensures.purges }) in
    λ h keeps. budget_alike g.met.T.Eq.laws c.args.self.now new same.holds h keeps
