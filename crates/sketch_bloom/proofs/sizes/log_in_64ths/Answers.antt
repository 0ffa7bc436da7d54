use Rattle.std.proofs.Common.{arith, ◌-◌}
use Rattle.sketch_bloom.proofs.Logarithms.{log_enough, log_below, log_least_at}
use Rattle.sketch_bloom.proofs.sizes.log_in_64ths.Goals as goal

pub returns-then-n-part-clause-enough : goal.returns-then-n-part-clause-enough
returns-then-n-part-clause-enough c =
    log_enough c.args.n c.ilog2-whole.result c.loop-part.part (63 - c.ilog2-whole.result) (omega arith) (omega arith) c.if-n-part.true

pub returns-then-n-part-clause-least : goal.returns-then-n-part-clause-least
returns-then-n-part-clause-least c t within =
    log_least_at c.args.n c.ilog2-whole.result c.loop-part.part (63 - c.ilog2-whole.result) t (omega arith) (omega arith) c.ilog2-whole.ensures.power_le c.loop-part.invariant within

pub returns-clause-enough : goal.returns-clause-enough
returns-clause-enough c = log_below c.args.n c.ilog2-whole.result c.ilog2-whole.ensures.next_power_gt

pub returns-clause-least : goal.returns-clause-least
returns-clause-least c t within =
    log_least_at c.args.n c.ilog2-whole.result 64 (63 - c.ilog2-whole.result) t (omega arith) (omega arith) c.ilog2-whole.ensures.power_le (λ i lt. c.loop-part.invariant i (omega arith)) within
