use Rattle.std.proofs.Common.{◌≡◌, ◌+◌, ◌-◌, ◌*◌, length, drop}
use Rattle.sketch_frequencies.specs.Reading.{AreCountersSoFar}
use Rattle.sketch_frequencies.proofs.ImageSizes.{AreReadSoFar}
use Rattle.sketch_frequencies.proofs.OwnedBytes.{OwnsSoFar}
use Rattle.sketch_frequencies.proofs.image.read_counters.Given as goal

-- the items so far are counted, and own no more than the bytes that were read
abbrev pub invariant-loop-i : goal.invariant-loop-i
invariant-loop-i g l = record {
  so_far : AreCountersSoFar g.T.FrequentItemValue.codec g.T.FrequentItemValue.content g.T.PartialEq.eq l.image l.i l.slice l.map.entries;
  size : l.map.size ≡ l.size;
  key : l.map.key ≡ l.fn.key;
  purges : l.map.purges ≡ 0;
  read : AreReadSoFar g.T.FrequentItemValue.codec (drop (32 + 8 * l.active) l.image) l.active l.i l.slice;
  owned : OwnsSoFar g.T.FrequentItemValue.codec g.T.FrequentItemValue.content (length l.image - (32 + 8 * l.active)) l.slice l.map.entries;
}
