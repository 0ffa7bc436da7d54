use Rattle.std.proofs.Common.{◌≤◌, take, length}
use Rattle.std.specs.Prelude.{vec_capacity}
use Rattle.std.specs.List.{AllZip}
use Rattle.counter_table.specs.Slots.{IsSameSlot}
use Rattle.counter_table.proofs.slot_table.clone_slots.Given as goal

-- the slots so far are cloned, and there is room for all
abbrev pub invariant-loop-slot : goal.invariant-loop-slot
invariant-loop-slot g l = record {
  same : AllZip (IsSameSlot g.T.PartialEq.eq) (take l.slot-index l.slots) l.clones.items;
  room : length l.slots ≤ vec_capacity l.clones;
}
