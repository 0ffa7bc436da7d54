use Rattle.std.proofs.Common.{arith}
use Rattle.sketch_countmin.proofs.Fractions.{multiplier_fits, upper_fits, halves_are}
use Rattle.sketch_countmin.proofs.fraction.Fraction.new.Goals as goal

pub overflow_cast-result : goal.overflow_cast-result
overflow_cast-result c = record { fits = upper_fits c.args.numerator c.args.denominator c.requires c.ranges.denominator.fits }

pub invariant_of-result : goal.invariant_of-result
invariant_of-result c = (c.requires, halves_are c.args.numerator c.args.denominator c.requires, c.short_multiplier-short.ensures)

pub overflow_add-multiplier-2 : goal.overflow_add-multiplier-2
overflow_add-multiplier-2 c = record { fits = multiplier_fits c.args.numerator c.args.denominator c.requires c.ranges.denominator.fits }

pub overflow_add-multiplier : goal.overflow_add-multiplier
overflow_add-multiplier c = record { fits = omega (arith, multiplier_fits c.args.numerator c.args.denominator c.requires c.ranges.denominator.fits) }
