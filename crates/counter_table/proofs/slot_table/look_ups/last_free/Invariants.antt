use Rattle.std.proofs.Common.{◌≡◌, ℕ, ◌<◌, ◌≤◌, length, false}
use Rattle.counter_table.specs.Slots.{is_taken}
use Rattle.counter_table.proofs.slot_table.look_ups.last_free.Given as goal

-- some slot from here down is free
abbrev pub invariant-loop-index : goal.invariant-loop-index
invariant-loop-index g l = record {
  below : l.index < length l.slots;
  free_slot : (f : ℕ) × (f ≤ l.index) × (is_taken l.slots f ≡ false);
}

abbrev pub decreases-loop-index : goal.decreases-loop-index
decreases-loop-index g l = l.index
