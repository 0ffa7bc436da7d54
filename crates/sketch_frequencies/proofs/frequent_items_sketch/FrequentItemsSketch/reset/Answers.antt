use Rattle.std.proofs.Common.{arith, ap, ◌∙◌}
use Rattle.sketch_frequencies.proofs.EmptySketches.{fresh_state, new_stands, new_budget, reset_stands, reset_budget}
use Rattle.sketch_frequencies.proofs.Powers.{eight_is_power}
use Rattle.sketch_frequencies.proofs.frequent_items_sketch.FrequentItemsSketch.reset.Goals as goal

pub clear-requires-clause-power : goal.clear-requires-clause-power
clear-requires-clause-power g c = eight_is_power

pub invariant_of-self : goal.invariant_of-self
invariant_of-self g c = rw c.clear.ensures (fresh_state g.T.PartialEq.eq c.self.inside.max_size c.self.inside.sample_size c.self.inside.map.key c.self.inside.map.purges (omega (arith, c.self.invariant.least, c.self.invariant.within)) c.self.invariant.greatest c.self.invariant.max_size_power c.self.invariant.sample)

pub returns-clause-state : goal.returns-clause-state
returns-clause-state g c = invariant_of-self g c

pub returns-clause-stands : goal.returns-clause-stands
returns-clause-stands g c = λ h s. rw c.clear.ensures (reset_stands g.T.PartialEq.eq c.self.inside.max_size c.self.inside.sample_size c.self.inside.map.key c.self.inside.map.purges (omega (arith, c.self.invariant.least, c.self.invariant.within)) c.self.invariant.max_size_power c.self.invariant.sample h (ap (λ s. s.max_size) c.self.view_is ∙ s.encloses.max_size) (ap (λ s. s.sample_size) c.self.view_is ∙ s.sample_size))

pub returns-clause-budget : goal.returns-clause-budget
returns-clause-budget g c = λ h. rw c.clear.ensures (reset_budget g.T.PartialEq.eq c.self.inside.max_size c.self.inside.sample_size c.self.inside.map.key c.self.inside.map.purges h)

pub returns-clause-renewed : goal.returns-clause-renewed
returns-clause-renewed g c = rw (c.clear.ensures, ← c.self.view_is) (new_stands g.T.PartialEq.eq c.self.inside.max_size c.self.inside.sample_size c.self.inside.map.key c.self.inside.map.purges (omega (arith, c.self.invariant.least, c.self.invariant.within)) c.self.invariant.max_size_power c.self.invariant.sample)

pub returns-clause-renewed_budget : goal.returns-clause-renewed_budget
returns-clause-renewed_budget g c = rw (c.clear.ensures, ← c.self.view_is) (new_budget g.T.PartialEq.eq c.self.inside.max_size c.self.inside.sample_size c.self.inside.map.key c.self.inside.map.purges)
