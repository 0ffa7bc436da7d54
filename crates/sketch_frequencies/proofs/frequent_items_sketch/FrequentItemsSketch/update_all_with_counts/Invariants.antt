use Rattle.std.proofs.Common.{◌≡◌, ◌+◌, take, drop}
use Rattle.std.specs.List.{zip}
use Rattle.std.specs.Prelude.{filter, sum}
use Rattle.sketch_frequencies.specs.KeyedBatches.{UpdatesWeighedKeys}
use Rattle.sketch_frequencies.specs.State.{IsState}
use Rattle.sketch_frequencies.proofs.WeightedBatches.{has_weight}
use Rattle.sketch_frequencies.proofs.frequent_items_sketch.FrequentItemsSketch.update_all_with_counts.Given as goal

-- the counts so far were added, and the other keys are left
abbrev pub invariant-each : goal.invariant-each
invariant-each g l = record {
  left : g.K.Keys.names l.keys ≡ drop l.i (g.K.Keys.names l.fn.keys);
  added : UpdatesWeighedKeys g.T.PartialEq.eq l.fn.self (filter has_weight (take l.i (zip (g.K.Keys.names l.fn.keys) l.counts))) l.self;
  total : l.self.total ≡ l.fn.self.total + sum (take l.i l.counts);
  state : IsState g.T.PartialEq.eq l.self;
}
