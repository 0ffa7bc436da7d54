use Rattle.std.proofs.Common.{ap, []}
use Rattle.sketch_base.specs.SipHash.{words}
use Rattle.sketch_base.specs.SipHashState.{initial, write}
use Rattle.sketch_base.proofs.SipHashPieces.{fed}
use Rattle.sketch_base.proofs.sip_hasher.SipHasher13.with_key.Goals as goal

pub returns : goal.returns
unfolding initial write words
returns c = record { state_is = ap (λ v. fed v [] 0) c.initialization.ensures }
