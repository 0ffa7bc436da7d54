use Rattle.std.proofs.Common.{ap}
use Rattle.sketch_base.specs.SipHash.{State}
use Rattle.sketch_base.specs.SipHashLanes.{lanes_of}
use Rattle.sketch_base.proofs.sip_hash_of_two.initialization_of_two.Goals as goal

pub returns : goal.returns
returns c = ap (λ (v : State). lanes_of v v) c.initialization-v.ensures
