use Rattle.std.proofs.Common.{◌*◌, ◌/◌, ◌^◌, ◌∙◌}
use Rattle.sketch_base.proofs.DirectRemainder.{near_quotient, lesser_rest}
use Rattle.sketch_base.proofs.divisor.direct_remainder.Goals as goal

pub overflow_sub-rest : goal.overflow_sub-rest
overflow_sub-rest c = (near_quotient c.args.a c.args.multiplier c.args.divisor c.requires.positive c.ranges.a.fits c.requires.multiplier).0

pub returns : goal.returns
returns c =
    let near = near_quotient c.args.a c.args.multiplier c.args.divisor c.requires.positive c.ranges.a.fits c.requires.multiplier in
    c.min.ensures ∙ lesser_rest c.args.a c.args.divisor (c.args.a * c.args.multiplier / 2 ^ 64) c.ranges.a.fits c.ranges.divisor.fits near.0 near.1
