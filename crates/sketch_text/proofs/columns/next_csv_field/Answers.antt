use Rattle.std.proofs.Common.{sym, ◌∙◌}
use Rattle.std.proofs.lemmas.Bool.{eqb-true}
use Rattle.sketch_base.proofs.SplitLines.{positive}
use Rattle.sketch_text.proofs.CsvFields.{first_part}
use Rattle.sketch_text.proofs.LastColumns.{only_part}
use Rattle.sketch_text.proofs.columns.next_csv_field.Goals as goal

pub returns-then-is_empty : goal.returns-then-is_empty
returns-then-is_empty c =
    only_part c.args.delimiter c.args.rest.now c.split_at.result.0.now c.split_at.result.1.now c.field_end.result c.field_end.ensures.end c.split_at.ensures.front c.split_at.ensures.back (eqb-true _ 0 (sym c.is_empty.ensures ∙ c.if-is_empty.true))

pub returns : goal.returns
returns c =
    first_part c.args.delimiter c.args.rest.now c.split_at.result.0.now c.split_at.result.1.now c.split_at-2.result.1.now c.field_end.result c.field_end.ensures.end c.split_at.ensures.front c.split_at.ensures.back c.split_at-2.ensures.back (positive _ (sym c.is_empty.ensures ∙ c.if-is_empty.false))
