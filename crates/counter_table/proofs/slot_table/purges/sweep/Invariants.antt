use Rattle.counter_table.specs.Fingerprints.{AreFingerprints}
use Rattle.counter_table.specs.TableHashes.{hash_in}
use Rattle.counter_table.proofs.PurgeSweeps.{Sweep}
use Rattle.counter_table.proofs.slot_table.purges.sweep.Given as goal

-- the indices before this one are settled
abbrev pub invariant-loop-on : goal.invariant-loop-on
invariant-loop-on g l = record {
  sweep : Sweep g.T.PartialEq.eq (hash_in l.key g.T.Hash.hash_input) l.amount l.fn.slots l.slots l.free l.on l.removed;
  fingerprints_ok : AreFingerprints (hash_in l.key g.T.Hash.hash_input) l.slots l.fingerprints;
}
