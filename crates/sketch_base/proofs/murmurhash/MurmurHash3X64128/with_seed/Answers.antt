use Rattle.std.proofs.Common.{refl}
use Rattle.sketch_base.specs.Murmur3.{body}
use Rattle.sketch_base.specs.Murmur3State.{initial, write}
use Rattle.sketch_base.proofs.murmurhash.MurmurHash3X64128.with_seed.Goals as goal

pub returns : goal.returns
unfolding initial write body
returns c = record { state_is = refl }
