use Rattle.std.proofs.Common.{ℕ, ◌%◌, ap, ◌∙◌, sym, subst}
use Rattle.std.specs.Prelude.{IsTrue}
use Rattle.std.specs.Int.{is_power_of_two}
use Rattle.sketch_base.specs.PowersOfTwo.{masked_remainder}
use Rattle.sketch_base.proofs.divisor.Divisor.rem_by_mask.Goals as goal

pub returns-clause-value : goal.returns-clause-value
returns-clause-value c =
    let power : IsTrue (is_power_of_two c.self.inside.divisor) = subst (λ (d : ℕ). IsTrue (is_power_of_two d)) (sym c.self.view_is) c.requires in
    masked_remainder c.args.a c.self.inside.divisor power ∙ ap (λ d. c.args.a % d) c.self.view_is
