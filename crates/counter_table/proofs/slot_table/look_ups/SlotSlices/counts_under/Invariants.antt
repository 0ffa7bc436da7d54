use Rattle.std.proofs.Common.{◌≡◌, map, take}
use Rattle.counter_table.specs.Slots.{entries_of}
use Rattle.counter_table.specs.Tables.{count_of}
use Rattle.counter_table.proofs.slot_table.look_ups.SlotSlices.counts_under.Given as goal

-- the counts so far are written
abbrev pub invariant-each : goal.invariant-each
invariant-each g l = take l.i l.counts ≡ map (count_of g.T.PartialEq.eq (entries_of l.self.slots)) (take l.i l.items)
