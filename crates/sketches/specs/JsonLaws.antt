-- The laws of strings in JSON.
use Rattle.std.proofs.Common.{◌≡◌, ℕ, zero, suc, ◌+◌, ◌*◌, ◌/◌, ◌%◌, ◌<◌, Bool, true, false, cond, eqb, ◌||◌, nat_lt, List, [], ◌∷◌, ◌++◌, None, Some, slice_index, codes, encode_utf8, append_assoc, refl, sym, ◌∙◌, ap, subst, arith}
use Rattle.std.proofs.lemmas.Bool.{eqb-true}
use Rattle.std.proofs.lemmas.Bool.Decides.{nat_tests}
use Rattle.std.proofs.lemmas.Str.{encode_ascii}
use Rattle.std.specs.Char.{digit_value}
use Rattle.std.specs.Str.Parse.{digits_value}
use Rattle.sketches.specs.Json.{MeansString, escaped_byte, json_escaped, json_read, numbered_byte, read_after, with_front}

-- a hexadecimal digit
digit_read : (k : ℕ) → k < 16 → digit_value (slice_index (codes "0123456789abcdef") k) ≡ k
digit_read zero less = refl
digit_read (suc zero) less = refl
digit_read (suc (suc zero)) less = refl
digit_read (suc (suc (suc zero))) less = refl
digit_read (suc (suc (suc (suc zero)))) less = refl
digit_read (suc (suc (suc (suc (suc zero))))) less = refl
digit_read (suc (suc (suc (suc (suc (suc zero)))))) less = refl
digit_read (suc (suc (suc (suc (suc (suc (suc zero))))))) less = refl
digit_read (suc (suc (suc (suc (suc (suc (suc (suc zero)))))))) less = refl
digit_read (suc (suc (suc (suc (suc (suc (suc (suc (suc zero))))))))) less = refl
digit_read (suc (suc (suc (suc (suc (suc (suc (suc (suc (suc zero)))))))))) less = refl
digit_read (suc (suc (suc (suc (suc (suc (suc (suc (suc (suc (suc zero))))))))))) less = refl
digit_read (suc (suc (suc (suc (suc (suc (suc (suc (suc (suc (suc (suc zero)))))))))))) less = refl
digit_read (suc (suc (suc (suc (suc (suc (suc (suc (suc (suc (suc (suc (suc zero))))))))))))) less = refl
digit_read (suc (suc (suc (suc (suc (suc (suc (suc (suc (suc (suc (suc (suc (suc zero)))))))))))))) less = refl
digit_read (suc (suc (suc (suc (suc (suc (suc (suc (suc (suc (suc (suc (suc (suc (suc zero))))))))))))))) less = refl
digit_read (suc (suc (suc (suc (suc (suc (suc (suc (suc (suc (suc (suc (suc (suc (suc (suc k)))))))))))))))) less = absurd (omega (arith, less))

-- a control character
control_read : (x : ℕ) (rest : List ℕ) → x < 32 → read_after None (numbered_byte x ++ rest) ≡ with_front (x ∷ []) (read_after None rest)
control_read x rest low =
    let high : ℕ = slice_index (codes "0123456789abcdef") (x / 16) in
    let last : ℕ = slice_index (codes "0123456789abcdef") (x % 16) in
    let value : digits_value 16 (48 ∷ 48 ∷ high ∷ last ∷ []) ≡ (((0 * 16 + 0) * 16 + 0) * 16 + digit_value high) * 16 + digit_value last = refl in
    let number : digits_value 16 (48 ∷ 48 ∷ high ∷ last ∷ []) ≡ x = omega (arith, value, digit_read (x / 16) (omega (arith, low)), digit_read (x % 16) (omega arith)) in
    ap (λ (front : List ℕ). with_front front (read_after None rest)) (ap encode_utf8 number ∙ encode_ascii x (omega (arith, low)))

-- a byte, by the tests for a control character, a quote and a backslash
byte_by_tests : (x : ℕ) (rest : List ℕ) (control quote slash : Bool) → nat_lt x 32 ≡ control → eqb x 34 ≡ quote → eqb x 92 ≡ slash
    → read_after None (cond control (numbered_byte x) (cond (quote || slash) (92 ∷ x ∷ []) (x ∷ [])) ++ rest) ≡ with_front (x ∷ []) (read_after None rest)
byte_by_tests x rest true quote slash low _ _ = control_read x rest (grind (arith, nat_tests))
byte_by_tests x rest false true slash _ is _ = subst (λ (y : ℕ). read_after None (92 ∷ y ∷ rest) ≡ with_front (y ∷ []) (read_after None rest)) (sym (eqb-true x 34 is)) refl
byte_by_tests x rest false false true _ _ is = subst (λ (y : ℕ). read_after None (92 ∷ y ∷ rest) ≡ with_front (y ∷ []) (read_after None rest)) (sym (eqb-true x 92 is)) refl
byte_by_tests x rest false false false high no_quote no_slash =
    ap (λ (b : Bool). cond b (Some ([], rest)) (cond (eqb x 92) (read_after (Some []) rest) (cond (nat_lt x 32) None (with_front (x ∷ []) (read_after None rest))))) no_quote
    ∙ (ap (λ (b : Bool). cond b (read_after (Some []) rest) (cond (nat_lt x 32) None (with_front (x ∷ []) (read_after None rest)))) no_slash
    ∙ ap (λ (b : Bool). cond b None (with_front (x ∷ []) (read_after None rest))) high)

byte_read : (x : ℕ) (rest : List ℕ) → read_after None (escaped_byte x ++ rest) ≡ with_front (x ∷ []) (read_after None rest)
byte_read x rest = byte_by_tests x rest (nat_lt x 32) (eqb x 34) (eqb x 92) refl refl refl

-- the escaped bytes between two quotes mean the bytes
pub json_means : (bytes : List ℕ) → MeansString (json_escaped bytes) bytes
json_means [] rest = refl
json_means (x ∷ bytes) rest =
    ap json_read (append_assoc (escaped_byte x) (json_escaped bytes) (34 ∷ rest))
    ∙ (byte_read x (json_escaped bytes ++ 34 ∷ rest) ∙ ap (with_front (x ∷ [])) (json_means bytes rest))
