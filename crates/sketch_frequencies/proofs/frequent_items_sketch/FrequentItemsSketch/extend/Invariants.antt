use Rattle.std.proofs.Common.{map}
use Rattle.sketch_frequencies.specs.KeyedBatches.{UpdatesKeys}
use Rattle.sketch_frequencies.specs.State.{IsState}
use Rattle.sketch_frequencies.proofs.frequent_items_sketch.FrequentItemsSketch.extend.Given as goal

-- the items of the keys so far are added
abbrev pub invariant-loop-key : goal.invariant-loop-key
invariant-loop-key g l = record {
  added : UpdatesKeys g.T.PartialEq.eq l.fn.self (map g.K.ItemKey.names l.yielded) l.self;
  state : IsState g.T.PartialEq.eq l.self;
}
