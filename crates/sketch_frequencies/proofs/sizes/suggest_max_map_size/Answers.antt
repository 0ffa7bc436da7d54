use Rattle.std.proofs.Common.{arith}
use Rattle.sketch_frequencies.proofs.SuggestedSizes.{size_allowed, size_min}
use Rattle.sketch_frequencies.proofs.sizes.suggest_max_map_size.Goals as goal

pub returns-clause-least : goal.returns-clause-least
returns-clause-least c m none enough =
    let next = c.next_power_of_two-eighth in
    size_min c.args.parts c.div_ceil.result next.result m c.div_ceil.ensures next.ensures.power next.ensures.upper_bound none enough

pub returns-clause-allowed : goal.returns-clause-allowed
returns-clause-allowed c =
    let next = c.next_power_of_two-eighth in
    size_allowed next.result next.ensures.power (omega (arith, next.ensures.upper_bound))
