use Rattle.std.proofs.Common.{◌≡◌, ℕ, ◌+◌, drop, take, sym, ◌∙◌, ap, arith}
use Rattle.std.proofs.lemmas.Bool.{eqb-true}
use Rattle.sketch_base.proofs.SplitLines.{positive}
use Rattle.sketch_text.specs.Csv.{csv_fields}
use Rattle.sketch_text.proofs.Delimited.{none_after, one_less}
use Rattle.sketch_text.proofs.CsvFields.{parts_of, some_fields, first_part, last_part, part_at_first}
use Rattle.sketch_text.proofs.csv_fields.nth_csv_field.Goals as goal

pub returns-then-is_empty-2 : goal.returns-then-is_empty-2
returns-then-is_empty-2 c =
    let d = c.args.delimiter in
    let fields : csv_fields d c.args.row.now ≡ parts_of d c.args.row.now = some_fields d c.args.row.now (positive _ (sym c.is_empty.ensures ∙ c.if-is_empty.false)) in
    let last = last_part d c.fields.rest.now c.split_at.result.1.now c.field_end.result c.field_end.ensures.end c.split_at.ensures.back (eqb-true _ 0 (sym c.is_empty-in-fields.ensures ∙ c.if-is_empty-2.true)) in
    ap (λ l. take 1 (drop c.args.index l)) fields ∙ none_after (c.fields.at + 1) c.args.index (parts_of d c.args.row.now) (one_less c.fields.at (parts_of d c.args.row.now) (parts_of d c.fields.rest.now) _ c.fields.rest.now c.fields.invariant last) (omega (arith, c.fields-test.true))

pub fields-preserved : goal.fields-preserved
fields-preserved c =
    let d = c.args.delimiter in
    let first = first_part d c.fields.rest.now c.split_at.result.0.now c.split_at.result.1.now c.split_at-in-fields.result.1.now c.field_end.result c.field_end.ensures.end c.split_at.ensures.front c.split_at.ensures.back c.split_at-in-fields.ensures.back (positive _ (sym c.is_empty-in-fields.ensures ∙ c.if-is_empty-2.false)) in
    one_less c.fields.at (parts_of d c.args.row.now) (parts_of d c.fields.rest.now) (parts_of d c.split_at-in-fields.result.1.now) c.split_at.result.0.now c.fields.invariant first

pub returns : goal.returns
returns c =
    let d = c.args.delimiter in
    let fields : csv_fields d c.args.row.now ≡ parts_of d c.args.row.now = some_fields d c.args.row.now (positive _ (sym c.is_empty.ensures ∙ c.if-is_empty.false)) in
    let end : c.fields.at ≡ c.args.index = omega (arith, c.fields-test.false, c.fields.auto.at-end) in
    ap (λ l. take 1 (drop c.args.index l)) fields
    ∙ (ap (take 1) (ap (λ (n : ℕ). drop n (parts_of d c.args.row.now)) (sym end) ∙ c.fields.invariant)
    ∙ part_at_first d c.fields.rest.now c.split_at-2.result.0.now c.field_end-2.result c.field_end-2.ensures.end c.split_at-2.ensures.front)
