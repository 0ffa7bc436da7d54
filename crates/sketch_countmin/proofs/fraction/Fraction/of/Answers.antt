use Rattle.std.proofs.Common.{ℕ, ◌*◌, ◌/◌, ap, arith, ◌∙◌}
use Rattle.sketch_countmin.proofs.Fractions.{product_by_halves}
use Rattle.sketch_countmin.proofs.fraction.Fraction.of.Goals as goal

pub returns : goal.returns
returns c =
    product_by_halves c.args.value c.self.inside.numerator c.self.inside.denominator c.self.inside.upper c.self.inside.lower c.ranges.value.fits c.self.ranges.1.0.1 (omega (arith, c.self.invariant.0)) c.self.invariant.1
    ∙ ap (λ (f : ℕ × ℕ). c.args.value * f.0 / f.1) c.self.view_is
