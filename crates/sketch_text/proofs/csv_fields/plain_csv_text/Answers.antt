use Rattle.std.proofs.Common.{sym, ◌∙◌, arith}
use Rattle.sketch_text.proofs.CsvFields.{text_unquoted, text_in_quotes}
use Rattle.sketch_text.proofs.csv_fields.plain_csv_text.Goals as goal

pub returns-then-not-begins_with_quote : goal.returns-then-not-begins_with_quote
returns-then-not-begins_with_quote c = text_unquoted c.args.field.now (sym c.begins_with_quote.ensures ∙ c.if-not-begins_with_quote.true)

pub returns : goal.returns
returns c =
    text_in_quotes c.args.field.now c.split_at.result.1.now c.split_at-2.result.0.now c.first_member-at.result (sym c.begins_with_quote.ensures ∙ c.if-not-begins_with_quote.false)
    c.split_at.ensures.back c.first_member-at.ensures.value (omega (arith, c.if-at-inner.false)) c.split_at-2.ensures.front
