use Rattle.std.proofs.Common.{arith}
use Rattle.sketch_countmin.proofs.Fractions.{short_of_whole, short_of_few}
use Rattle.sketch_countmin.proofs.fraction.short_multiplier.Goals as goal

pub returns-then-shifted-denominator-eq0 : goal.returns-then-shifted-denominator-eq0
returns-then-shifted-denominator-eq0 c value _ = short_of_whole c.args.numerator c.args.denominator value (omega (arith, c.requires)) c.if-shifted-denominator-eq0.true

pub returns-else-shifted-denominator-eq0 : goal.returns-else-shifted-denominator-eq0
returns-else-shifted-denominator-eq0 c value few = short_of_few c.args.numerator c.args.denominator value (omega (arith, c.requires)) few
