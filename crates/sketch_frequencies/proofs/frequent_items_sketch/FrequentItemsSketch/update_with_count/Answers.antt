use Rattle.std.proofs.Common.{◌≡◌, ◌∙◌, arith, subst, sym}
use Rattle.sketch_frequencies.specs.State.{FrequentState, IsState}
use Rattle.sketch_frequencies.specs.Steps.{Steps}
use Rattle.sketch_frequencies.proofs.Enclosure.{stands_after}
use Rattle.sketch_frequencies.proofs.Tail.{budget_after}
use Rattle.sketch_frequencies.proofs.UpdateParts.{step_at_max}
use Rattle.sketch_frequencies.proofs.frequent_items_sketch.FrequentItemsSketch.update_with_count.Goals as goal

-- it is put where there is room, added to what is tracked, or tracked

pub returns-then-capacity-num_active-clause-stands : goal.returns-then-capacity-num_active-clause-stands
returns-then-capacity-num_active-clause-stands g c = λ pos h s. stands_after g.met.T.Eq.laws c.args.self.now c.put.new.self c.args.item c.args.count pos (subst (λ s. IsState g.T.PartialEq.eq s) c.self.view_is c.self.invariant) c.put.ensures.step h s

pub returns-then-capacity-num_active-clause-budget : goal.returns-then-capacity-num_active-clause-budget
returns-then-capacity-num_active-clause-budget g c = λ pos h s keeps. budget_after g.met.T.Eq.laws c.args.self.now c.put.new.self c.args.item c.args.count (subst (λ s. IsState g.T.PartialEq.eq s) c.self.view_is c.self.invariant) c.put.ensures.step h s keeps

-- all counters are taken, and the table may not grow

pub returns-then-len-self-clause-step : goal.returns-then-len-self-clause-step
returns-then-len-self-clause-step g c = λ _.
    let at = subst (λ (s : FrequentState g.row.T.Denot). s.size ≡ s.max_size) c.self.view_is (sym c.len.ensures.size ∙ c.if-len-self.true) in
    step_at_max g.T.PartialEq.eq c.args.self.now c.add.new.self c.args.item c.args.count at c.add.ensures.adds

pub returns-then-len-self-clause-stands : goal.returns-then-len-self-clause-stands
returns-then-len-self-clause-stands g c = λ pos h s. stands_after g.met.T.Eq.laws c.args.self.now c.add.new.self c.args.item c.args.count pos (subst (λ s. IsState g.T.PartialEq.eq s) c.self.view_is c.self.invariant) (returns-then-len-self-clause-step g c pos) h s

pub returns-then-len-self-clause-budget : goal.returns-then-len-self-clause-budget
returns-then-len-self-clause-budget g c = λ pos h s keeps. budget_after g.met.T.Eq.laws c.args.self.now c.add.new.self c.args.item c.args.count (subst (λ s. IsState g.T.PartialEq.eq s) c.self.view_is c.self.invariant) (returns-then-len-self-clause-step g c pos) h s keeps

-- where it is refused, or the count is 0, the sketch is as it was

pub returns-then-count-self-clause-state : goal.returns-then-count-self-clause-state
returns-then-count-self-clause-state g c = subst (λ s. IsState g.T.PartialEq.eq s) c.self.view_is c.self.invariant

pub returns-then-count-eq0-clause-state : goal.returns-then-count-eq0-clause-state
returns-then-count-eq0-clause-state g c = subst (λ s. IsState g.T.PartialEq.eq s) c.self.view_is c.self.invariant

pub returns-then-count-eq0-clause-step : goal.returns-then-count-eq0-clause-step
returns-then-count-eq0-clause-step g c = λ some. absurd (omega (arith, c.if-count-eq0.true))

-- else it is not 0

pub returns-then-adjust-clause-zero : goal.returns-then-adjust-clause-zero
returns-then-adjust-clause-zero g c = λ none. absurd (c.if-count-eq0.false none)

pub returns-clause-zero : goal.returns-clause-zero
returns-clause-zero g c = λ none. absurd (c.if-count-eq0.false none)

pub returns-then-adjust-clause-step : goal.returns-then-adjust-clause-step
returns-then-adjust-clause-step g c = λ _. c.adjust.ensures.present c.if-adjust.true

pub returns-then-adjust-clause-stands : goal.returns-then-adjust-clause-stands
returns-then-adjust-clause-stands g c = λ pos h s. stands_after g.met.T.Eq.laws c.args.self.now c.adjust.new.self c.args.item c.args.count pos (subst (λ s. IsState g.T.PartialEq.eq s) c.self.view_is c.self.invariant) (c.adjust.ensures.present c.if-adjust.true) h s

pub returns-then-adjust-clause-budget : goal.returns-then-adjust-clause-budget
returns-then-adjust-clause-budget g c = λ pos h s keeps. budget_after g.met.T.Eq.laws c.args.self.now c.adjust.new.self c.args.item c.args.count (subst (λ s. IsState g.T.PartialEq.eq s) c.self.view_is c.self.invariant) (c.adjust.ensures.present c.if-adjust.true) h s keeps

pub returns-clause-step : goal.returns-clause-step
returns-clause-step g c = λ _. subst (λ s. Steps g.T.PartialEq.eq s c.args.item c.args.count c.track.new.self) (c.adjust.ensures.absent c.if-adjust.false) c.in_ok-track.ensures.step

pub returns-clause-stands : goal.returns-clause-stands
returns-clause-stands g c = λ pos h s. stands_after g.met.T.Eq.laws c.args.self.now c.track.new.self c.args.item c.args.count pos (subst (λ s. IsState g.T.PartialEq.eq s) c.self.view_is c.self.invariant) (returns-clause-step g c pos) h s

pub returns-clause-budget : goal.returns-clause-budget
returns-clause-budget g c = λ pos h s keeps. budget_after g.met.T.Eq.laws c.args.self.now c.track.new.self c.args.item c.args.count (subst (λ s. IsState g.T.PartialEq.eq s) c.self.view_is c.self.invariant) (returns-clause-step g c pos) h s keeps
