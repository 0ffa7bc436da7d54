use Rattle.std.proofs.Common.{ap, ◌∙◌}
use Rattle.std.specs.Ordering.{int_eq}
use Rattle.any_sketch.specs.ManyItems.{rows_in, num_rows}
use Rattle.any_sketch.proofs.Places.{same_names}
use Rattle.any_sketch.proofs.frequent_batches.bounds_of_i64s.Goals as goal

-- there is a place for each number
pub bounds_by_row-requires-in-Some : goal.bounds_by_row-requires-in-Some
bounds_by_row-requires-in-Some c =
    same_names c.copy_of-places.result c.args.items.validity c.in-Some.validity int_eq c.in-I64.rows.now c.args.bounds.now c.copy_of-places.ensures c.in-Some.is (c.requires ∙ ap (λ rows. num_rows (rows_in rows)) c.in-I64.is)
