use Rattle.std.proofs.Common.{ap, sym, ◌∙◌, length}
use Rattle.counter_table.specs.StringKeys.{names_string}
use Rattle.any_sketch.specs.ManyItems.{rows_in, num_rows}
use Rattle.any_sketch.proofs.Places.{same_names}
use Rattle.any_sketch.proofs.frequent_batches.bounds_of_strings.Goals as goal

-- there is a place for each string
pub bounds_by_row-requires-in-Some : goal.bounds_by_row-requires-in-Some
bounds_by_row-requires-in-Some c =
    same_names c.copy_of-places.result c.args.items.validity c.in-Some.validity names_string c.in-Offsets.rows c.args.bounds.now c.copy_of-places.ensures c.in-Some.is (c.requires ∙ ap (λ rows. num_rows (rows_in rows)) c.in-Offsets.is)

pub bounds_by_row-requires-in-Some-validity : goal.bounds_by_row-requires-in-Some-validity
bounds_by_row-requires-in-Some-validity c =
    same_names c.copy_of-places.result c.args.items.validity c.in-Some-validity.validity names_string c.in-Offsets32.rows c.args.bounds.now c.copy_of-places.ensures c.in-Some-validity.is (c.requires ∙ ap (λ rows. num_rows (rows_in rows)) c.in-Offsets32.is)

pub bounds_by_row-requires-in-Some-validity-2 : goal.bounds_by_row-requires-in-Some-validity-2
bounds_by_row-requires-in-Some-validity-2 c =
    same_names c.copy_of-places.result c.args.items.validity c.in-Some-validity-2.validity names_string c.in-Strings.rows c.args.bounds.now c.copy_of-places.ensures c.in-Some-validity-2.is (c.requires ∙ ap (λ rows. num_rows (rows_in rows)) c.in-Strings.is)

pub bounds_by_row-requires-in-Some-validity-3 : goal.bounds_by_row-requires-in-Some-validity-3
bounds_by_row-requires-in-Some-validity-3 c =
    same_names c.copy_of-places.result c.args.items.validity c.in-Some-validity-3.validity names_string c.new-rows.result c.args.bounds.now c.copy_of-places.ensures c.in-Some-validity-3.is (c.requires ∙ (ap (λ rows. num_rows (rows_in rows)) c.in-Words.is ∙ ap length (sym c.new-rows.ensures)))

pub bounds_by_row-requires-in-Some-validity-4 : goal.bounds_by_row-requires-in-Some-validity-4
bounds_by_row-requires-in-Some-validity-4 c =
    same_names c.copy_of-places.result c.args.items.validity c.in-Some-validity-4.validity names_string c.new-rows-in-Lines.result c.args.bounds.now c.copy_of-places.ensures c.in-Some-validity-4.is (c.requires ∙ (ap (λ rows. num_rows (rows_in rows)) c.in-Lines.is ∙ ap length (sym c.new-rows-in-Lines.ensures)))
