use Rattle.std.proofs.Common.{arith, ◌≡◌, ◌+◌, ap, ◌∙◌, length-drop, subst, Ok, drop}
use Rattle.std.specs.String.{string_bytes}
use Rattle.sketch_frequencies.specs.Items.{text_taken}
use Rattle.sketch_frequencies.proofs.Texts.{on_err, taken_within, read_ok, drop_4}
use Rattle.sketch_frequencies.proofs.frequent_item_value.StringFrequentItemValue.deserialize_value.Goals as goal

pub returns-in_err-text-clause-within : goal.returns-in_err-text-clause-within
returns-in_err-text-clause-within c = on_err c.from_residual-in_err-text.result (4, c.in_ok-len.ensures.cursor)

pub returns-clause-ok : goal.returns-clause-ok
returns-clause-ok c =
    let old = c.args.slice.now in
    let len = c.in_ok-len.len in
    let cursor = c.in_ok-len.ensures.cursor in
    let taken = subst (λ l. text_taken len l ≡ Ok (string_bytes c.in_ok-text.text)) (c.remaining.ensures ∙ cursor) c.in_ok-text.ensures.ok in
    let within = taken_within len (drop 4 old) (string_bytes c.in_ok-text.text) taken in
    record {
      used = 4 + len;
      within = omega (arith, within, length-drop 4 old, c.in_ok-len.ensures.enough);
      read = read_ok old (string_bytes c.in_ok-text.text) len c.in_ok-len.ensures.enough c.in_ok-len.ensures.value taken;
      left = c.advance.ensures ∙ ap (drop len) cursor ∙ drop_4 old len;
    }
