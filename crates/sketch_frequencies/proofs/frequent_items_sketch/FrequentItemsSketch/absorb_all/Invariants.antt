use Rattle.std.proofs.Common.{◌≡◌, ◌+◌, take}
use Rattle.sketch_frequencies.specs.ManyMerges.{states_of, total_of_all}
use Rattle.sketch_frequencies.specs.State.{IsState}
use Rattle.sketch_frequencies.proofs.ManyMerges.{HasMerged}
use Rattle.sketch_frequencies.proofs.frequent_items_sketch.FrequentItemsSketch.absorb_all.Given as goal

-- the others so far were merged
abbrev pub invariant-each : goal.invariant-each
invariant-each g l = record {
  merged : HasMerged g.T.PartialEq.eq l.fn.self (take l.i (states_of l.others)) l.self;
  total : l.self.total ≡ l.fn.self.total + total_of_all (take l.i (states_of l.others));
  state : IsState g.T.PartialEq.eq l.self;
  greatest : l.fn.self.size ≡ l.fn.self.max_size → l.self.size ≡ l.self.max_size;
}
