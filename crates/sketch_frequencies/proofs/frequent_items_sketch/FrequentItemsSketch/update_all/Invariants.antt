use Rattle.std.proofs.Common.{length}
use Rattle.sketch_frequencies.specs.State.{IsState}
use Rattle.sketch_frequencies.proofs.KeyedBatches.{HasAdded}
use Rattle.sketch_frequencies.proofs.frequent_items_sketch.FrequentItemsSketch.update_all.Given as goal

-- the items of the keys before those that are left were added
abbrev pub invariant-each : goal.invariant-each
invariant-each g l = record {
  added : HasAdded g.T.PartialEq.eq l.fn.self (g.K.Keys.names l.fn.keys) (g.K.Keys.names l.keys) l.self;
  state : IsState g.T.PartialEq.eq l.self;
}

abbrev pub decreases-each : goal.decreases-each
decreases-each g l = length (g.K.Keys.names l.keys)
