use Rattle.std.proofs.Common.{refl, inl}
use Rattle.datasketches.proofs.sketch.Sketch.rows.Goals as goal

pub returns-in_ok-frequent_items_with_threshold-in-Frequent : goal.returns-in_ok-frequent_items_with_threshold-in-Frequent
returns-in_ok-frequent_items_with_threshold-in-Frequent g c =
    let e = c.in_ok-frequent_items_with_threshold-in-Frequent.ensures in
    rw c.in-Frequent.is (inl (c.in_ok-frequent_items_with_threshold-in-Frequent.field-0, refl, e.exact, e.descending))
