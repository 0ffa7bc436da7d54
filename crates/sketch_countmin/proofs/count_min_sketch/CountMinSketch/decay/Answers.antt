use Rattle.std.proofs.Common.{refl, subst, sym, ap, ◌∙◌, ℕ}
use Rattle.sketch_countmin.specs.State.{CountState, decayed_state}
use Rattle.sketch_countmin.specs.History.CountHistory.{Decay}
use Rattle.sketch_countmin.specs.Stands.{StandsFor}
use Rattle.sketch_countmin.proofs.Tables.{is_state}
use Rattle.sketch_countmin.proofs.Decays.{decayed_is, decayed_value}
use Rattle.sketch_countmin.proofs.Standing.{stands_decayed}
use Rattle.sketch_countmin.proofs.count_min_sketch.CountMinSketch.decay.Goals as goal

pub invariant_of-self : goal.invariant_of-self
invariant_of-self g c =
    let i = c.self.inside in
    rw c.scale.ensures.scaled
    (decayed_is _ _ _ _ (g.T.CountMinValue.number i.total) _ i.grid.cells c.args.numerator c.args.denominator c.requires.positive c.requires.at_most_one c.self.invariant c.scale.ensures.positive c.scale_nonnegative-self-inside.ensures)

pub returns-clause-value : goal.returns-clause-value
returns-clause-value g c =
    let i = c.self.inside in
    let n : ℕ = c.args.numerator in
    let m : ℕ = c.args.denominator in
    rw c.scale.ensures.scaled
    (decayed_value _ _ _ _ (g.T.CountMinValue.number i.total) _ i.grid.cells _ n m c.self.invariant c.scale_nonnegative-self-inside.ensures refl ∙ ap (decayed_state n m) c.self.view_is)

pub returns-clause-state : goal.returns-clause-state
returns-clause-state g c = is_state _ _ _ _ _ _ (invariant_of-self g c)

pub returns-clause-stands : goal.returns-clause-stands
returns-clause-stands g c = λ h s. subst (λ (new : CountState). StandsFor new (Decay h c.args.numerator c.args.denominator)) (sym (returns-clause-value g c)) (stands_decayed c.args.self.now c.args.numerator c.args.denominator h s)

pub scale_nonnegative-self-inside-requires-clause-nonnegative : goal.scale_nonnegative-self-inside-requires-clause-nonnegative
scale_nonnegative-self-inside-requires-clause-nonnegative g c = g.met.T.UnsignedCountMinValue.unsigned c.self.inside.total
