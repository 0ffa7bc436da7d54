use Rattle.std.proofs.Common.{◌<◌, ◌*◌, arith, ap, sym, ◌∙◌, refl, subst}
use Rattle.std.proofs.lemmas.Bool.{false≢true}
use Rattle.sketch_frequencies.specs.State.{FrequentState, IsState, must_grow, state_of}
use Rattle.sketch_frequencies.specs.Growth.{MakesRoom}
use Rattle.sketch_frequencies.proofs.UpdateParts.{grow_from_parts}
use Rattle.sketch_frequencies.proofs.Powers.{power_twice, doubled_fits}
use Rattle.sketch_frequencies.proofs.UpdateStates.{state_made, length_le_sum}
use Rattle.sketch_frequencies.proofs.frequent_items_sketch.FrequentItemsSketch.make_room.Goals as goal

pub resize-requires-clause-power : goal.resize-requires-clause-power
resize-requires-clause-power g c = rw c.len-size.ensures.size (power_twice c.self.inside.map.size c.self.invariant.size_power)

pub resize-requires-clause-limit : goal.resize-requires-clause-limit
resize-requires-clause-limit g c =
    let below : c.self.inside.map.size < c.self.inside.max_size = omega (arith, c.if-size-self.false, c.len-size.ensures.size, c.self.invariant.within) in
    omega (arith, doubled_fits c.self.inside.map.size c.self.inside.max_size c.self.invariant.size_power c.self.invariant.max_size_power below, c.len-size.ensures.size, c.self.invariant.greatest)

pub returns-in_err-resize-clause-succeeds : goal.returns-in_err-resize-clause-succeeds
returns-in_err-resize-clause-succeeds g c = λ not_due.
    let old = state_of c.self.inside.map c.self.inside.error c.self.inside.total c.self.inside.max_size c.self.inside.sample_size in
    let due = grow_from_parts old (omega (arith, c.if-num_active-capacity.false, c.num_active.ensures.active, c.capacity.ensures)) (omega (arith, c.if-size-self.false, c.len-size.ensures.size, c.self.invariant.within)) in
    absurd (false≢true (sym not_due ∙ (ap (λ (s : FrequentState g.row.T.Denot). must_grow s) (sym c.self.view_is) ∙ due)))

pub invariant_of-self-2 : goal.invariant_of-self-2
invariant_of-self-2 g c =
    let old = state_of c.self.inside.map c.self.inside.error c.self.inside.total c.self.inside.max_size c.self.inside.sample_size in
    let below : old.size < old.max_size = omega (arith, c.if-size-self.false, c.len-size.ensures.size, c.self.invariant.within) in
    let fits = doubled_fits old.size old.max_size c.self.invariant.size_power c.self.invariant.max_size_power below in
    state_made g.met.T.Eq.laws old c.resize.new.self c.self.invariant c.resize.ensures.entries (c.in_ok-resize.ensures.ok ∙ ap (λ n. 2 * n) c.len-size.ensures.size) fits (omega (arith, c.if-num_active-capacity.false, c.num_active.ensures.active, c.capacity.ensures, length_le_sum old.counters c.self.invariant.positive, c.self.invariant.sum, c.self.invariant.least))

pub returns-clause-ok : goal.returns-clause-ok
returns-clause-ok g c =
    let old = state_of c.self.inside.map c.self.inside.error c.self.inside.total c.self.inside.max_size c.self.inside.sample_size in
    let t = c.resize.new.self in
    let new : FrequentState g.row.T.Denot = state_of t old.error old.total old.max_size old.sample_size in
    let due = grow_from_parts old (omega (arith, c.if-num_active-capacity.false, c.num_active.ensures.active, c.capacity.ensures)) (omega (arith, c.if-size-self.false, c.len-size.ensures.size, c.self.invariant.within)) in
    let made : MakesRoom old new = record {
      counters = c.resize.ensures.entries;
      error = refl;
      total = refl;
      max_size = refl;
      sample_size = refl;
      key = c.resize.ensures.key;
      purges = c.resize.ensures.purges;
      doubled = λ _. c.in_ok-resize.ensures.ok ∙ ap (λ n. 2 * n) c.len-size.ensures.size;
      stays = λ not_due. absurd (false≢true (sym not_due ∙ due));
    } in
    subst (λ s. MakesRoom s new) c.self.view_is made

pub returns-clause-state : goal.returns-clause-state
returns-clause-state g c = invariant_of-self-2 g c

-- said here so that a refusal is refused at once
pub returns-then-size-self-clause-succeeds : goal.returns-then-size-self-clause-succeeds
returns-then-size-self-clause-succeeds g c = λ _. refl

-- where there is room already, or no more slots, the sketch is as it was

pub returns-then-num_active-capacity-clause-state : goal.returns-then-num_active-capacity-clause-state
returns-then-num_active-capacity-clause-state g c = subst (λ s. IsState g.T.PartialEq.eq s) c.self.view_is c.self.invariant

pub returns-then-size-self-clause-state : goal.returns-then-size-self-clause-state
returns-then-size-self-clause-state g c = subst (λ s. IsState g.T.PartialEq.eq s) c.self.view_is c.self.invariant
