use Rattle.sketch_frequencies.proofs.ImageSizes.{AreReadSoFar}
use Rattle.sketch_frequencies.proofs.image.bytes_of_items.Given as goal

-- the items so far are measured
abbrev pub invariant-loop-i : goal.invariant-loop-i
invariant-loop-i g l = AreReadSoFar g.T.FrequentItemValue.codec l.items l.active l.i l.rest
