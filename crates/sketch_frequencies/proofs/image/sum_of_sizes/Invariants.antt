use Rattle.std.proofs.Common.{take}
use Rattle.counter_table.specs.Slots.{entries_of}
use Rattle.sketch_frequencies.proofs.ImageSizes.{TakeSoFar}
use Rattle.sketch_frequencies.proofs.image.sum_of_sizes.Given as goal

-- the items of the slots so far are counted
abbrev pub invariant-loop-slot : goal.invariant-loop-slot
invariant-loop-slot g l = TakeSoFar g.T.FrequentItemValue.codec g.T.FrequentItemValue.content (entries_of (take l.slot-index l.slots)) l.size
