use Rattle.std.proofs.Common.{subst, arith}
use Rattle.sketch_frequencies.specs.State.{IsState}
use Rattle.sketch_frequencies.proofs.SameStates.{stands_step, budget_step_equal}
use Rattle.sketch_frequencies.proofs.StepsByKey.{step_equal}
use Rattle.sketch_frequencies.proofs.frequent_items_sketch.FrequentItemsSketch.update_hashed.Goals as goal

pub returns-clause-stands : goal.returns-clause-stands
returns-clause-stands g c = λ x is h s. stands_step g.met.T.Eq.laws c.args.self.now c.put_hashed.new.self x 1 (omega arith) (subst (λ s. IsState g.T.PartialEq.eq s) c.self.view_is c.self.invariant) (step_equal (g.met.K.ItemKey.respects_eq c.args.key) x is c.in_ok-put_hashed.ensures.step) h s

pub returns-clause-budget : goal.returns-clause-budget
returns-clause-budget g c = λ x is h s keeps. budget_step_equal g.met.T.Eq.laws c.args.self.now c.put_hashed.new.self x 1 (subst (λ s. IsState g.T.PartialEq.eq s) c.self.view_is c.self.invariant) (step_equal (g.met.K.ItemKey.respects_eq c.args.key) x is c.in_ok-put_hashed.ensures.step) h s keeps
