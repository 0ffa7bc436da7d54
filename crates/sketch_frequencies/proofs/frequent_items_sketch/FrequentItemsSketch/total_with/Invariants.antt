use Rattle.std.proofs.Common.{◌≡◌, ◌+◌, take}
use Rattle.std.specs.List.{All}
use Rattle.sketch_frequencies.specs.ManyMerges.{states_of, total_of_all}
use Rattle.sketch_frequencies.specs.State.{IsState}
use Rattle.sketch_frequencies.proofs.frequent_items_sketch.FrequentItemsSketch.total_with.Given as goal

-- the total of the sketch and the others so far
abbrev pub invariant-each : goal.invariant-each
invariant-each g l = record {
  total : l.total ≡ l.self.total + total_of_all (take l.i (states_of l.others));
  states : All (IsState g.T.PartialEq.eq) (take l.i (states_of l.others));
}
