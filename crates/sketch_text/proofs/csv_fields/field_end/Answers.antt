use Rattle.std.proofs.Common.{sym, ◌∙◌}
use Rattle.sketch_text.proofs.CsvFields.{bare_end}
use Rattle.sketch_text.proofs.csv_fields.field_end.Goals as goal

pub returns-then-not-begins_with_quote-clause-end : goal.returns-then-not-begins_with_quote-clause-end
returns-then-not-begins_with_quote-clause-end c =
    bare_end c.args.delimiter c.args.bytes.now c.first_member.result c.first_member.ensures.value (sym c.begins_with_quote.ensures ∙ c.if-not-begins_with_quote.true)
