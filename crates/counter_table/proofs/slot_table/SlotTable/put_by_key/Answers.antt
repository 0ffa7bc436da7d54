use Rattle.counter_table.proofs.slot_table.SlotTable.put_by_key.Goals as goal

pub find-probe-requires : goal.find-probe-requires
find-probe-requires g c = c.requires.slots
