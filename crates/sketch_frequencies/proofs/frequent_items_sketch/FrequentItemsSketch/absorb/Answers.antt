use Rattle.std.proofs.Common.{◌+◌, ◌<◌, arith, ap, sym, ◌∙◌, subst}
use Rattle.sketch_frequencies.specs.State.{IsState, FrequentState}
use Rattle.sketch_frequencies.proofs.Merges.{settle_fits, joins_equal, joins_nothing, stands_joins_equal, budget_joins_equal}
use Rattle.sketch_frequencies.proofs.SameStates.{same_state_refl}
use Rattle.sketch_frequencies.proofs.frequent_items_sketch.FrequentItemsSketch.absorb.Goals as goal

-- the other is empty

pub returns-then-other-eq0-clause-join : goal.returns-then-other-eq0-clause-join
returns-then-other-eq0-clause-join g c = joins_nothing g.met.T.Eq.laws c.args.self.now c.args.other.now (sym (ap (λ s. s.total) c.other.view_is) ∙ c.if-other-eq0.true)

pub returns-then-other-eq0-clause-state : goal.returns-then-other-eq0-clause-state
returns-then-other-eq0-clause-state g c = subst (λ s. IsState g.T.PartialEq.eq s) c.self.view_is c.self.invariant

pub returns-then-other-eq0-clause-stands : goal.returns-then-other-eq0-clause-stands
returns-then-other-eq0-clause-stands g c =
    let other = c.args.other.now in
    let other_ok : IsState g.T.PartialEq.eq other = subst (λ s. IsState g.T.PartialEq.eq s) c.other.view_is c.other.invariant in
    λ h h' s t. stands_joins_equal g.met.T.Eq.laws c.args.self.now other c.args.self.now (subst (λ s. IsState g.T.PartialEq.eq s) c.self.view_is c.self.invariant) other_ok (returns-then-other-eq0-clause-join g c) h h' s t

pub returns-then-other-eq0-clause-budget : goal.returns-then-other-eq0-clause-budget
returns-then-other-eq0-clause-budget g c =
    let other = c.args.other.now in
    let other_ok : IsState g.T.PartialEq.eq other = subst (λ s. IsState g.T.PartialEq.eq s) c.other.view_is c.other.invariant in
    λ h h' s t keeps more. budget_joins_equal g.met.T.Eq.laws c.args.self.now other c.args.self.now (subst (λ s. IsState g.T.PartialEq.eq s) c.self.view_is c.self.invariant) other_ok (returns-then-other-eq0-clause-join g c) h h' s t keeps more

-- the other is not

pub settle-requires-clause-sum : goal.settle-requires-clause-sum
settle-requires-clause-sum g c =
    let other = c.args.other.now in
    let other_ok : IsState g.T.PartialEq.eq other = subst (λ s. IsState g.T.PartialEq.eq s) c.other.view_is c.other.invariant in
    let fits = settle_fits g.met.T.Eq.laws c.args.self.now other c.args.self.now c.add_counters.new.self other_ok c.add_counters.ensures.state (same_state_refl g.met.T.Eq.laws c.args.self.now) c.in_ok-add_counters.ensures.ok in
    omega (arith, fits, ap (λ s. s.total) c.other.view_is, ap (λ s. s.error) c.other.view_is, ap (λ s. s.total) c.self.view_is)

pub returns-clause-join : goal.returns-clause-join
returns-clause-join g c =
    let old = c.args.self.now in
    let other = c.args.other.now in
    let last = c.add_counters.new.self in
    let of_other = ap (λ (o : FrequentState g.row.T.Denot). record last { error = last.error + o.error; total = c.self.inside.total + o.total }) c.other.view_is in
    let of_own = ap (λ (s : FrequentState g.row.T.Denot). record last { error = last.error + other.error; total = s.total + other.total }) c.self.view_is in
    let some : 0 < other.total = omega (arith, c.if-other-eq0.false, ap (λ s. s.total) c.other.view_is) in
    joins_equal g.met.T.Eq.laws old other old last c.settle.new.self some (same_state_refl g.met.T.Eq.laws old) c.in_ok-add_counters.ensures.ok (c.settle.ensures.settled ∙ (of_other ∙ of_own))

pub returns-clause-stands : goal.returns-clause-stands
returns-clause-stands g c =
    let other = c.args.other.now in
    let other_ok : IsState g.T.PartialEq.eq other = subst (λ s. IsState g.T.PartialEq.eq s) c.other.view_is c.other.invariant in
    λ h h' s t. stands_joins_equal g.met.T.Eq.laws c.args.self.now other _ (subst (λ s. IsState g.T.PartialEq.eq s) c.self.view_is c.self.invariant) other_ok (returns-clause-join g c) h h' s t

pub returns-clause-budget : goal.returns-clause-budget
returns-clause-budget g c =
    let other = c.args.other.now in
    let other_ok : IsState g.T.PartialEq.eq other = subst (λ s. IsState g.T.PartialEq.eq s) c.other.view_is c.other.invariant in
    λ h h' s t keeps more. budget_joins_equal g.met.T.Eq.laws c.args.self.now other _ (subst (λ s. IsState g.T.PartialEq.eq s) c.self.view_is c.self.invariant) other_ok (returns-clause-join g c) h h' s t keeps more
