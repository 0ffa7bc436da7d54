use Rattle.std.proofs.Common.{◌-◌, ◌%◌, length}
use Rattle.counter_table.specs.Probes.{IsPassed}
use Rattle.counter_table.specs.TableHashes.{hash_of}
use Rattle.counter_table.proofs.LookupHomes.{Stands}
use Rattle.counter_table.proofs.slot_table.look_ups.SlotSlices.find_from.Given as goal

-- the indices so far hold items that are not named
abbrev pub invariant-probe : goal.invariant-probe
invariant-probe g l =
    record {
      stands : Stands (λ k. hash_of l.self.key (g.K.Item.bytes k)) l.key (length l.self.slots) l.index l.probed;
      passed : IsPassed (g.K.ItemKey.names l.key) (hash_of l.self.key (g.K.Item.bytes l.key) % length l.self.slots) l.self.slots l.probed;
    }

abbrev pub decreases-probe : goal.decreases-probe
decreases-probe g l = length l.self.slots - l.probed
