use Rattle.std.proofs.Common.{◌≡◌}
use Rattle.sketch_frequencies.specs.State.{IsState}
use Rattle.sketch_frequencies.proofs.Merges.{AddedSoFar}
use Rattle.sketch_frequencies.proofs.frequent_items_sketch.FrequentItemsSketch.add_counters.Given as goal

-- the counters given so far were added
abbrev pub invariant-loop-item : goal.invariant-loop-item
invariant-loop-item g l =
    (goal.iterator-loop-item g).can_next l.item-iterator × (goal.iterator-loop-item g).is_finite l.item-iterator
    × AddedSoFar g.T.PartialEq.eq l.fn.self l.other l.item-iterator.given l.item-iterator.rest l.self × IsState g.T.PartialEq.eq l.self
    × (l.fn.self.size ≡ l.fn.self.max_size → l.self.size ≡ l.self.max_size)
