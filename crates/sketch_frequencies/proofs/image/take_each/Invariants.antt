use Rattle.std.proofs.Common.{take}
use Rattle.counter_table.specs.Slots.{entries_of}
use Rattle.sketch_frequencies.specs.Image.{contents_of}
use Rattle.sketch_frequencies.specs.Writing.{TakeEach}
use Rattle.sketch_frequencies.proofs.image.take_each.Given as goal

-- each item of the slots so far takes `size` bytes
abbrev pub invariant-loop-slot : goal.invariant-loop-slot
invariant-loop-slot g l = TakeEach g.T.FrequentItemValue.codec (contents_of g.T.FrequentItemValue.content (entries_of (take l.slot-index l.slots))) l.size
