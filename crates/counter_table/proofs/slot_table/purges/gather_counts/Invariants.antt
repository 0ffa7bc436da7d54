use Rattle.std.proofs.Common.{◌≡◌, ◌≤◌, map, take, length}
use Rattle.counter_table.specs.Slots.{entries_of}
use Rattle.counter_table.proofs.slot_table.purges.gather_counts.Given as goal

-- the counts so far, of no more entries than there is room for
abbrev pub invariant-loop-slot : goal.invariant-loop-slot
invariant-loop-slot g l = record {
  counts : take l.gathered l.counts ≡ map (λ e. e.1) (entries_of (take l.slot-index l.slots));
  short : l.gathered ≤ length l.counts;
}
