use Rattle.std.proofs.Common.{◌≡◌, ℕ, ◌<◌, ◌-◌, length, true}
use Rattle.counter_table.specs.Homes.{home_in, ahead}
use Rattle.counter_table.specs.Slots.{is_taken}
use Rattle.counter_table.specs.TableHashes.{hash_in}
use Rattle.counter_table.proofs.LookupHomes.{Stands}
use Rattle.counter_table.proofs.slot_table.look_ups.SlotSlices.find_free_from.Given as goal

-- the indices so far are taken
abbrev pub invariant-probe : goal.invariant-probe
invariant-probe g l =
    let h = home_in (hash_in l.self.key g.T.Hash.hash_input) (length l.self.slots) l._item in
    record {
      stands : Stands (hash_in l.self.key g.T.Hash.hash_input) l._item (length l.self.slots) l.index l.probed;
      taken : (j : ℕ) → j < l.probed → is_taken l.self.slots (ahead (length l.self.slots) h j) ≡ true;
    }

abbrev pub decreases-probe : goal.decreases-probe
decreases-probe g l = length l.self.slots - l.probed
