use Rattle.std.proofs.Common.{◌≡◌, ◌≤◌, replicate, vec_len, vec_capacity}
use Rattle.counter_table.specs.declared.slot.Slot.TheVariants.{Free}
use Rattle.counter_table.proofs.slot_table.free_slots.Given as goal

-- so many free slots yet, and room for all
abbrev pub invariant-loop : goal.invariant-loop
invariant-loop g l = record {
  items : l.slots.items ≡ replicate l.counter Free;
  len : vec_len l.slots ≡ l.counter;
  room : l.size ≤ vec_capacity l.slots;
}
