use Rattle.counter_table.proofs.slot_table.SlotTable.insert.Goals as goal

pub find_free-free_slot-requires : goal.find_free-free_slot-requires
find_free-free_slot-requires g c = rw c.as_slices.ensures (record { size = c.requires.slots.size; room = c.requires.slots.room; hash = rw c.key.ensures at c.hash_of-hash.ensures })

pub fill-requires : goal.fill-requires
fill-requires g c = record { slots = c.requires.slots; absent = c.requires.absent; room = c.requires.room; free = rw c.as_slices.ensures at c.find_free-free_slot.ensures; hash = rw c.key.ensures at c.hash_of-hash.ensures }
