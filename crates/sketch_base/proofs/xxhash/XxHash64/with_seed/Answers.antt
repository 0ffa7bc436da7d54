use Rattle.std.proofs.Common.{refl}
use Rattle.sketch_base.specs.Xxh64.{stripes}
use Rattle.sketch_base.specs.Xxh64State.{initial, write}
use Rattle.sketch_base.proofs.xxhash.XxHash64.with_seed.Goals as goal

pub returns : goal.returns
unfolding initial write stripes
returns c = rw c.initial_accumulators.ensures (record { state_is = refl })
