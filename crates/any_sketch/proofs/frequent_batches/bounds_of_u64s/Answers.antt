use Rattle.std.proofs.Common.{ap, ◌∙◌, nat_eq}
use Rattle.any_sketch.specs.ManyItems.{rows_in, num_rows}
use Rattle.any_sketch.proofs.Places.{same_names}
use Rattle.any_sketch.proofs.frequent_batches.bounds_of_u64s.Goals as goal

-- there is a place for each number
pub bounds_by_row-requires-in-Some : goal.bounds_by_row-requires-in-Some
bounds_by_row-requires-in-Some c =
    same_names c.copy_of-places.result c.args.items.validity c.in-Some.validity nat_eq c.in-U64.rows.now c.args.bounds.now c.copy_of-places.ensures c.in-Some.is (c.requires ∙ ap (λ rows. num_rows (rows_in rows)) c.in-U64.is)
