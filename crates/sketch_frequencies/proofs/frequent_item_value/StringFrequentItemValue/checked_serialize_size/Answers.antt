use Rattle.std.proofs.Common.{length, arith, refl, length-append}
use Rattle.std.specs.Int.{w32, to_le_bytes}
use Rattle.std.specs.String.{string_bytes}
use Rattle.std.proofs.lemmas.Str.{IsUtf8-string_bytes}
use Rattle.sketch_frequencies.proofs.Texts.{encoded_bad, encoded_ok}
use Rattle.sketch_frequencies.proofs.frequent_item_value.StringFrequentItemValue.checked_serialize_size.Goals as goal

pub returns-then-len-clause-err : goal.returns-then-len-clause-err
returns-then-len-clause-err c =
    rw c.invalid_argument.ensures (refl, encoded_bad (string_bytes c.args.item.now) (IsUtf8-string_bytes c.args.item.now) (omega (arith, c.len.ensures, c.if-len.true)))

pub returns-clause-ok : goal.returns-clause-ok
returns-clause-ok c =
    let text = string_bytes c.args.item.now in
    rw (encoded_ok text (IsUtf8-string_bytes c.args.item.now) (omega (arith, c.len.ensures, c.if-len.false))) (omega (arith, c.len-2.ensures, length-append (to_le_bytes w32 (length text)) text))
