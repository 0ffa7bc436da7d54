use Rattle.std.proofs.Common.{◌≡◌, take}
use Rattle.counter_table.specs.Slots.{entries_of}
use Rattle.sketch_frequencies.specs.Memory.{owned_by, memory_bytes}
use Rattle.sketch_frequencies.proofs.image.bytes_with_items.Given as goal

-- the items of the slots so far are counted
abbrev pub invariant-loop-slot : goal.invariant-loop-slot
invariant-loop-slot g l = l.bytes ≡ memory_bytes l.table_bytes (owned_by g.T.FrequentItemValue.codec g.T.FrequentItemValue.content (entries_of (take l.slot-index l.slots)))
