use Rattle.std.proofs.Common.{◌≡◌, ◌++◌, IsPermutation, length}
use Rattle.counter_table.specs.Slots.{entries_of, IsSlots}
use Rattle.counter_table.specs.TableHashes.{hash_in}
use Rattle.counter_table.proofs.slot_table.SlotTable.move_all.Given as goal

-- the entries so far have moved
abbrev pub invariant-loop-slot : goal.invariant-loop-slot
invariant-loop-slot g l = record {
  slots_ok : IsSlots g.T.PartialEq.eq (hash_in l.self.key g.T.Hash.hash_input) l.self.slots;
  entries : IsPermutation (entries_of l.yielded) (entries_of l.self.slots);
  size : length l.self.slots ≡ length l.fn.self.slots;
  key : l.self.key ≡ l.fn.self.key;
  split : l.fn.old.slots ≡ l.yielded ++ l.slot-iterator.rest.items;
}
