use Rattle.std.proofs.Common.{ap, sym, ◌∙◌, subst}
use Rattle.sketch_frequencies.specs.State.{IsState}
use Rattle.sketch_frequencies.specs.Steps.{Steps}
use Rattle.counter_table.specs.Tables.{is_tracked_by_key}
use Rattle.counter_table.specs.Keys.{item_by_key, tracked_by_key}
use Rattle.sketch_frequencies.proofs.SameStates.{stands_step, budget_step_equal}
use Rattle.sketch_frequencies.proofs.Enclosure.{stands_after}
use Rattle.sketch_frequencies.proofs.StepsByKey.{step_equal}
use Rattle.sketch_frequencies.proofs.Tail.{budget_after}
use Rattle.sketch_frequencies.proofs.frequent_items_sketch.FrequentItemsSketch.update_item_with_count.Goals as goal

-- where it is refused, or the count is 0, the sketch is as it was

pub returns-then-count-self-clause-state : goal.returns-then-count-self-clause-state
returns-then-count-self-clause-state g c = subst (λ s. IsState g.T.PartialEq.eq s) c.self.view_is c.self.invariant

pub returns-then-count-eq0-clause-state : goal.returns-then-count-eq0-clause-state
returns-then-count-eq0-clause-state g c = subst (λ s. IsState g.T.PartialEq.eq s) c.self.view_is c.self.invariant

-- else it is not 0

pub returns-then-adjust_by_key-clause-zero : goal.returns-then-adjust_by_key-clause-zero
returns-then-adjust_by_key-clause-zero g c = λ none. absurd (c.if-count-eq0.false none)

pub returns-clause-zero : goal.returns-clause-zero
returns-clause-zero g c = λ none. absurd (c.if-count-eq0.false none)

pub returns-then-capacity-num_active-clause-zero : goal.returns-then-capacity-num_active-clause-zero
returns-then-capacity-num_active-clause-zero g c = λ none. absurd (c.if-count-eq0.false none)

pub returns-then-capacity-num_active-clause-stands : goal.returns-then-capacity-num_active-clause-stands
returns-then-capacity-num_active-clause-stands g c = λ pos x is h s. stands_step g.met.T.Eq.laws c.args.self.now c.put_by_key.new.self x c.args.count pos (subst (λ s. IsState g.T.PartialEq.eq s) c.self.view_is c.self.invariant) (step_equal (g.met.K.ItemKey.respects_eq c.args.key) x is c.in_ok-put_by_key.ensures.step) h s

pub returns-then-capacity-num_active-clause-budget : goal.returns-then-capacity-num_active-clause-budget
returns-then-capacity-num_active-clause-budget g c = λ pos x is h s keeps. budget_step_equal g.met.T.Eq.laws c.args.self.now c.put_by_key.new.self x c.args.count (subst (λ s. IsState g.T.PartialEq.eq s) c.self.view_is c.self.invariant) (step_equal (g.met.K.ItemKey.respects_eq c.args.key) x is c.in_ok-put_by_key.ensures.step) h s keeps

pub returns-then-len-self-clause-zero : goal.returns-then-len-self-clause-zero
returns-then-len-self-clause-zero g c = λ none. absurd (c.if-count-eq0.false none)

pub returns-then-len-self-clause-stands : goal.returns-then-len-self-clause-stands
returns-then-len-self-clause-stands g c = λ pos x is h s. stands_step g.met.T.Eq.laws c.args.self.now c.add_by_key.new.self x c.args.count pos (subst (λ s. IsState g.T.PartialEq.eq s) c.self.view_is c.self.invariant) (step_equal (g.met.K.ItemKey.respects_eq c.args.key) x is c.in_ok-add_by_key.ensures.step) h s

pub returns-then-len-self-clause-budget : goal.returns-then-len-self-clause-budget
returns-then-len-self-clause-budget g c = λ pos x is h s keeps. budget_step_equal g.met.T.Eq.laws c.args.self.now c.add_by_key.new.self x c.args.count (subst (λ s. IsState g.T.PartialEq.eq s) c.self.view_is c.self.invariant) (step_equal (g.met.K.ItemKey.respects_eq c.args.key) x is c.in_ok-add_by_key.ensures.step) h s keeps

pub returns-then-adjust_by_key-clause-step : goal.returns-then-adjust_by_key-clause-step
returns-then-adjust_by_key-clause-step g c = λ _.
    let x = item_by_key (g.K.ItemKey.names c.args.key) c.args.self.now.counters (sym c.adjust_by_key.ensures.tracked ∙ c.if-adjust_by_key.true) in
    record { item = x.0; named = x.1; step = c.adjust_by_key.ensures.present c.if-adjust_by_key.true x.0 x.1 }

pub returns-then-adjust_by_key-clause-stands : goal.returns-then-adjust_by_key-clause-stands
returns-then-adjust_by_key-clause-stands g c = λ pos x is h s. stands_after g.met.T.Eq.laws c.args.self.now c.adjust_by_key.new.self x c.args.count pos (subst (λ s. IsState g.T.PartialEq.eq s) c.self.view_is c.self.invariant) (c.adjust_by_key.ensures.present c.if-adjust_by_key.true x is) h s

pub returns-then-adjust_by_key-clause-budget : goal.returns-then-adjust_by_key-clause-budget
returns-then-adjust_by_key-clause-budget g c = λ pos x is h s keeps. budget_after g.met.T.Eq.laws c.args.self.now c.adjust_by_key.new.self x c.args.count (subst (λ s. IsState g.T.PartialEq.eq s) c.self.view_is c.self.invariant) (c.adjust_by_key.ensures.present c.if-adjust_by_key.true x is) h s keeps

pub track-requires-clause-absent : goal.track-requires-clause-absent
track-requires-clause-absent g c =
    let names = g.K.ItemKey.names c.args.key in
    tracked_by_key names (g.met.K.ItemKey.respects_eq c.args.key) c.adjust_by_key.new.self.counters c.in_ok-item.item c.in_ok-item.ensures.named ∙ (ap (λ s. is_tracked_by_key names s.counters) (c.adjust_by_key.ensures.absent c.if-adjust_by_key.false) ∙ (sym c.adjust_by_key.ensures.tracked ∙ c.if-adjust_by_key.false))

pub returns-clause-step : goal.returns-clause-step
returns-clause-step g c = λ _. record {
  item = c.in_ok-item.item;
  named = c.in_ok-item.ensures.named;
  step = subst (λ s. Steps g.T.PartialEq.eq s c.in_ok-item.item c.args.count c.track.new.self) (c.adjust_by_key.ensures.absent c.if-adjust_by_key.false) c.in_ok-track.ensures.step;
}

pub returns-clause-stands : goal.returns-clause-stands
returns-clause-stands g c = λ pos x is h s. stands_step g.met.T.Eq.laws c.args.self.now c.track.new.self x c.args.count pos (subst (λ s. IsState g.T.PartialEq.eq s) c.self.view_is c.self.invariant) (step_equal (g.met.K.ItemKey.respects_eq c.args.key) x is (returns-clause-step g c pos)) h s

pub returns-clause-budget : goal.returns-clause-budget
returns-clause-budget g c = λ pos x is h s keeps. budget_step_equal g.met.T.Eq.laws c.args.self.now c.track.new.self x c.args.count (subst (λ s. IsState g.T.PartialEq.eq s) c.self.view_is c.self.invariant) (step_equal (g.met.K.ItemKey.respects_eq c.args.key) x is (returns-clause-step g c pos)) h s keeps
