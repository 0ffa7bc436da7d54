use Rattle.std.proofs.Common.{◌≡◌, ◌∙◌, ap, inl, subst, take}
use Rattle.sketch_frequencies.specs.declared.error_type.ErrorType.{ErrorType}
use Rattle.datasketches_c.specs.FrequentRows.{AreRows, LeavesRows, WritesRows, error_type}
use Rattle.datasketches_c.proofs.AnswerLemmas.{handed_on}
use Rattle.datasketches_c.proofs.Reports.{copied_rows, rows_left}
use Rattle.datasketches_c.proofs.frequent_rows.write_rows.Goals as goal

-- the rows were found, and copied where there was room
pub returns-in-Ok-clause-rows : goal.returns-in-Ok-clause-rows
returns-in-Ok-clause-rows g c =
    let eq = g.T.PartialEq.eq in
    let kind : ErrorType = error_type c.args.no_false_negatives in
    let threshold = c.args.threshold in
    let sketch = c.args.sketch.now in
    let limit = c.args.limit in
    let rows = c.first_rows.result.now in
    let found = c.in-Ok.ensures in
    let are : AreRows eq kind threshold sketch c.in-Ok.rows.items =
    subst (λ (k : ErrorType). AreRows eq k threshold sketch c.in-Ok.rows.items) c.error_type_of.ensures
    (record { exact = found.exact; descending = found.descending; none_missing = found.none_missing; none_below = found.none_below }) in
    let first : rows ≡ take limit c.in-Ok.rows.items = c.first_rows.ensures ∙ ap (take limit) c.deref.ensures.value in
    let copied = c.copy_rows.ensures in
    handed_on (WritesRows eq kind threshold sketch limit c.args.items.now c.copy_rows.new.items c.args.bounds.now c.copy_rows.new.bounds c.copy_rows.new.count) c.copy_rows.result c.copy_rows.type_inv
    (inl (copied_rows eq kind threshold limit sketch rows c.args.items.now c.copy_rows.new.items c.args.bounds.now c.copy_rows.new.bounds c.copy_rows.new.count c.copy_rows.result
    (c.in-Ok.rows.items, are, first) copied.counted copied.written copied.few_items copied.few_bounds))

pub returns-in-Err-clause-left : goal.returns-in-Err-clause-left
returns-in-Err-clause-left g c = rows_left c.args.items.now c.args.bounds.now c.args.count.now _

pub returns-in-Ok-clause-left : goal.returns-in-Ok-clause-left
returns-in-Ok-clause-left g c =
    let copied = c.copy_rows in
    handed_on (LeavesRows c.args.items.now copied.new.items c.args.bounds.now copied.new.bounds c.args.count.now copied.new.count) copied.result copied.type_inv copied.ensures.left
