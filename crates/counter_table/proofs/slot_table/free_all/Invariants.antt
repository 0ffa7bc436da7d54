use Rattle.std.proofs.Common.{◌≡◌, [], take}
use Rattle.counter_table.specs.Slots.{entries_of}
use Rattle.counter_table.proofs.slot_table.free_all.Given as goal

-- no entry is left in the slots so far
abbrev pub invariant-loop-slot : goal.invariant-loop-slot
invariant-loop-slot g l = entries_of (take l.slot-index l.slots) ≡ []
