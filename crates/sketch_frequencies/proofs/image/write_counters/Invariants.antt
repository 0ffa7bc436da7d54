use Rattle.std.proofs.Common.{◌≡◌, ◌*◌, ◌≤◌, length, take}
use Rattle.counter_table.specs.Slots.{entries_of}
use Rattle.sketch_frequencies.specs.Image.{AreEncoded, contents_of, encoded_weights}
use Rattle.sketch_frequencies.proofs.image.write_counters.Given as goal

-- the weights and the items of the slots so far are written
abbrev pub invariant-loop-slot : goal.invariant-loop-slot
invariant-loop-slot g l = record {
  many : l.i ≡ 8 * length (entries_of (take l.slot-index l.slots));
  weights : take l.i l.weights ≡ encoded_weights (entries_of (take l.slot-index l.slots));
  within : l.at ≤ length l.items;
  items : AreEncoded g.T.FrequentItemValue.codec (contents_of g.T.FrequentItemValue.content (entries_of (take l.slot-index l.slots))) (take l.at l.items);
}
