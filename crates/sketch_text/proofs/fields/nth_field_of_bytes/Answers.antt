use Rattle.std.proofs.Common.{◌≡◌, ℕ, ◌+◌, drop, take, sym, ◌∙◌, ap, arith}
use Rattle.std.proofs.lemmas.Bool.{eqb-true}
use Rattle.sketch_base.proofs.SplitLines.{positive}
use Rattle.sketch_text.proofs.Delimited.{fields_of, first_field, last_field, field_at_first, none_after, one_less}
use Rattle.sketch_text.proofs.fields.nth_field_of_bytes.Goals as goal

pub returns-then-is_empty : goal.returns-then-is_empty
returns-then-is_empty c =
    let d = c.args.delimiter in
    let last = last_field d c.fields.rest.now c.split_at.result.1.now c.first_member.result c.first_member.ensures.value c.split_at.ensures.back (eqb-true _ 0 (sym c.is_empty.ensures ∙ c.if-is_empty.true)) in
    none_after (c.fields.at + 1) c.args.index (fields_of d c.args.bytes.now) (one_less c.fields.at (fields_of d c.args.bytes.now) (fields_of d c.fields.rest.now) _ c.fields.rest.now c.fields.invariant last) (omega (arith, c.fields-test.true))

pub fields-preserved : goal.fields-preserved
fields-preserved c =
    let d = c.args.delimiter in
    let first = first_field d c.fields.rest.now c.split_at.result.0.now c.split_at.result.1.now c.split_at-in-fields.result.1.now c.first_member.result c.first_member.ensures.value c.split_at.ensures.front c.split_at.ensures.back c.split_at-in-fields.ensures.back (positive _ (sym c.is_empty.ensures ∙ c.if-is_empty.false)) in
    one_less c.fields.at (fields_of d c.args.bytes.now) (fields_of d c.fields.rest.now) (fields_of d c.split_at-in-fields.result.1.now) c.split_at.result.0.now c.fields.invariant first

pub returns : goal.returns
returns c =
    let d = c.args.delimiter in
    let end : c.fields.at ≡ c.args.index = omega (arith, c.fields-test.false, c.fields.auto.at-end) in
    ap (take 1) (ap (λ (n : ℕ). drop n (fields_of d c.args.bytes.now)) (sym end) ∙ c.fields.invariant)
    ∙ field_at_first d c.fields.rest.now c.split_at-2.result.0.now c.first_member-2.result c.first_member-2.ensures.value c.split_at-2.ensures.front
