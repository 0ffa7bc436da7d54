use Rattle.std.proofs.Common.{arith, length, ◌++◌, inr, ap, ◌∙◌, refl}
use Rattle.std.specs.Int.{w32, to_le_bytes}
use Rattle.std.specs.String.{string_bytes}
use Rattle.std.proofs.lemmas.Result.{on_ok_weaker}
use Rattle.std.proofs.lemmas.Str.{IsUtf8-string_bytes}
use Rattle.sketch_frequencies.proofs.Texts.{encoded_bad, encoded_ok}
use Rattle.sketch_frequencies.proofs.frequent_item_value.StringFrequentItemValue.serialize_value.Goals as goal

pub returns-then-text-clause-err : goal.returns-then-text-clause-err
returns-then-text-clause-err c =
    let size = ap length c.as_bytes-text.ensures.value in
    rw c.invalid_argument.ensures (inr (refl, encoded_bad (string_bytes c.args.self.now) (IsUtf8-string_bytes c.args.self.now) (omega arith)))

pub returns-clause-ok : goal.returns-clause-ok
returns-clause-ok c =
    let size = ap length c.as_bytes-text.ensures.value in
    rw (encoded_ok (string_bytes c.args.self.now) (IsUtf8-string_bytes c.args.self.now) (omega arith))
    (on_ok_weaker c.write_length_prefixed.result (λ wrote. wrote ∙ ap (λ t. c.args.out.now.bytes ++ (to_le_bytes w32 (length t) ++ t)) c.as_bytes-text.ensures.value) c.write_length_prefixed.ensures.ok)
