use Rattle.sketch_frequencies.proofs.Reports.{RowsSoFar}
use Rattle.sketch_frequencies.proofs.frequent_items_sketch.FrequentItemsSketch.passing_rows.Given as goal

-- the rows are those of the entries given so far
abbrev pub invariant-loop-item : goal.invariant-loop-item
invariant-loop-item g l =
    (goal.iterator-loop-item g).can_next l.item-iterator × (goal.iterator-loop-item g).is_finite l.item-iterator
    × RowsSoFar g.T.PartialEq.eq l.error_type l.threshold l.self l.item-iterator.given l.item-iterator.rest l.rows.items
