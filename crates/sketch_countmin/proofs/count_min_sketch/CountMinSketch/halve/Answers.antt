use Rattle.std.proofs.Common.{refl, subst, sym, ap, ◌∙◌}
use Rattle.sketch_countmin.specs.State.{CountState, halved_state}
use Rattle.sketch_countmin.specs.History.CountHistory.{Halve}
use Rattle.sketch_countmin.specs.Stands.{StandsFor}
use Rattle.sketch_countmin.proofs.Tables.{is_state}
use Rattle.sketch_countmin.proofs.Decays.{halved_is, halved_value}
use Rattle.sketch_countmin.proofs.Standing.{stands_halved}
use Rattle.sketch_countmin.proofs.count_min_sketch.CountMinSketch.halve.Goals as goal

pub invariant_of-self : goal.invariant_of-self
invariant_of-self g c =
    let i = c.self.inside in
    rw c.halve.ensures.halved
    (halved_is _ _ _ _ (g.T.CountMinValue.number i.total) _ i.grid.cells c.self.invariant c.halve.ensures.positive c.halve-self-inside.ensures)

pub returns-clause-value : goal.returns-clause-value
returns-clause-value g c =
    let i = c.self.inside in
    rw c.halve.ensures.halved
    (halved_value _ _ _ _ (g.T.CountMinValue.number i.total) _ i.grid.cells _ c.self.invariant c.halve-self-inside.ensures refl ∙ ap halved_state c.self.view_is)

pub returns-clause-state : goal.returns-clause-state
returns-clause-state g c = is_state _ _ _ _ _ _ (invariant_of-self g c)

pub returns-clause-stands : goal.returns-clause-stands
returns-clause-stands g c = λ h s. subst (λ (new : CountState). StandsFor new (Halve h)) (sym (returns-clause-value g c)) (stands_halved c.args.self.now h s)
