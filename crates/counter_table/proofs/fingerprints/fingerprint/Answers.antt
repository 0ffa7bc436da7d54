use Rattle.std.proofs.Common.{refl}
use Rattle.counter_table.specs.Fingerprints.{fingerprint_of}
use Rattle.counter_table.proofs.fingerprints.fingerprint.Goals as goal

pub returns : goal.returns
unfolding fingerprint_of
returns c = refl
