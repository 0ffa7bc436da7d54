use Rattle.std.proofs.Common.{ap}
use Rattle.counter_table.specs.TableHashes.{hash_of}
use Rattle.counter_table.proofs.fingerprints.hash_of.Goals as goal

pub returns-in-Plain : goal.returns-in-Plain
unfolding hash_of
returns-in-Plain g c = rw c.in-Plain.is (ap (λ h. h.0) c.murmur3.ensures)

pub returns-in-Keyed : goal.returns-in-Keyed
unfolding hash_of
returns-in-Keyed g c = rw c.in-Keyed.is c.keyed_hash.ensures
