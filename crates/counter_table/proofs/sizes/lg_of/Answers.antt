use Rattle.std.proofs.Common.{arith}
use Rattle.counter_table.proofs.ArithmeticPowers.{max_power}
use Rattle.counter_table.proofs.sizes.lg_of.Goals as goal

pub returns : goal.returns
returns c = max_power c.args.size c.ilog2.result c.requires (omega (arith, c.ilog2.ensures.power_le)) (omega (arith, c.ilog2.ensures.next_power_gt))
