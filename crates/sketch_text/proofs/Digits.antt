-- The numbers that digits spell.
use Rattle.std.proofs.Common.{◌≡◌, ℕ, zero, suc, ◌+◌, ◌-◌, ◌*◌, ◌^◌, ◌<◌, ◌≤◌, Bool, true, false, cond, ◌&&◌, ltb, List, [], ◌∷◌, length, get_or, take, Some, None, refl, sym, ◌∙◌, ap, subst, arith}
use Rattle.std.specs.Char.{digit_value, is_ascii_digit}
use Rattle.std.specs.Str.{all_ascii_digits}
use Rattle.std.specs.Str.Parse.{digits_value}
use Rattle.std.proofs.lemmas.Bool.{cond-false, false≢true}
use Rattle.std.proofs.lemmas.Bool.Decides.{nat_tests}
use Rattle.std.proofs.lemmas.Int.Digits.{digits_value_more}
use Rattle.std.proofs.lemmas.List.{take_all}
use Rattle.std.proofs.lemmas.Str.{digit_value_digit}
use Rattle.std.proofs.lemmas.Str.Parse.{digits_value-take-le, tells_all_ascii_digits}
use Rattle.sketch_text.specs.Decimals.{number_in}

-- ---- digits

and_left : (a b : Bool) → (a && b) ≡ true → a ≡ true
and_left true b e = refl
and_left false b e = e

and_right : (a b : Bool) → (a && b) ≡ true → b ≡ true
and_right true b e = e
and_right false b e = absurd (false≢true e)

and_both : (a b : Bool) → a ≡ true → b ≡ true → (a && b) ≡ true
and_both true b e f = f
and_both false b e f = e

digits_push : (text : List ℕ) (at : ℕ) → at < length text → all_ascii_digits (take at text) ≡ true → is_ascii_digit (get_or text at 0) ≡ true → all_ascii_digits (take (suc at) text) ≡ true
digits_push [] at less d e = absurd (omega (arith, less))
digits_push (x ∷ xs) zero less d e = and_both (is_ascii_digit x) true e refl
digits_push (x ∷ xs) (suc at) less d e =
    and_both (is_ascii_digit x) (all_ascii_digits (take (suc at) xs)) (and_left (is_ascii_digit x) (all_ascii_digits (take at xs)) d)
    (digits_push xs at (omega (arith, less)) (and_right (is_ascii_digit x) (all_ascii_digits (take at xs)) d) e)

digit_among : (text : List ℕ) (at : ℕ) → at < length text → all_ascii_digits text ≡ true → is_ascii_digit (get_or text at 0) ≡ true
digit_among [] at less d = absurd (omega (arith, less))
digit_among (x ∷ xs) zero less d = and_left (is_ascii_digit x) (all_ascii_digits xs) d
digit_among (x ∷ xs) (suc at) less d = digit_among xs at (omega (arith, less)) (and_right (is_ascii_digit x) (all_ascii_digits xs) d)

value_of_digit : (c : ℕ) → is_ascii_digit c ≡ true → digit_value c + 48 ≡ c
value_of_digit c e = digit_value_digit c (tells_all_ascii_digits.parts c [] (and_both (is_ascii_digit c) true e refl)).0

-- ---- the number so far

-- the first bytes are digits, and spell this number
pub record HasRead (text : List ℕ) (at value : ℕ) : Type 0 where
  pub digits : all_ascii_digits (take at text) ≡ true
  pub is : digits_value 10 (take at text) ≡ value

pub reads_none : (text : List ℕ) → HasRead text 0 0
reads_none text = record { digits = refl; is = refl }

-- one more digit
pub reads_more : (text : List ℕ) (at value digit next : ℕ) → HasRead text at value → at < length text → is_ascii_digit (get_or text at 0) ≡ true → digit ≡ get_or text at 0 - 48 → next ≡ 10 * value + digit → HasRead text (at + 1) next
reads_more text at value digit next so less here d n = record {
  digits = let next : suc at ≡ at + 1 = omega arith in subst (λ (n : ℕ). all_ascii_digits (take n text) ≡ true) next (digits_push text at less so.digits here);
  is = omega (arith, digits_value_more 10 text at less, so.is, value_of_digit (get_or text at 0) here, d, n);
}

-- ---- the answer

not_all : (a b c : ℕ) (d : Bool) → ¬ ((d ≡ true) × (0 < a) × (b < c)) → (ltb 0 a && d && ltb b c) ≡ false
not_all a b c true h = grind (arith, nat_tests)
not_all a b c false h = grind (arith, nat_tests)

all_three : (a b c : ℕ) (d : Bool) → d ≡ true → 0 < a → b < c → (ltb 0 a && d && ltb b c) ≡ true
all_three a b c d e f g = grind (arith, nat_tests)

no_number : (text : List ℕ) → ¬ ((all_ascii_digits text ≡ true) × (0 < length text) × (digits_value 10 text < 2 ^ 64)) → None ≡ number_in text
no_number text h = sym (cond-false (ltb 0 (length text) && all_ascii_digits text && ltb (digits_value 10 text) (2 ^ 64)) (Some (digits_value 10 text)) None (not_all (length text) (digits_value 10 text) (2 ^ 64) (all_ascii_digits text) h))

pub number_none : (text : List ℕ) → length text ≡ 0 → None ≡ number_in text
number_none text none = no_number text (λ h. omega (arith, h.1, none))

-- a byte is no digit
pub number_of_other : (text : List ℕ) (at : ℕ) → at < length text → is_ascii_digit (get_or text at 0) ≡ false → None ≡ number_in text
number_of_other text at less other = no_number text (λ h. false≢true (sym other ∙ digit_among text at less h.0))

-- the first digits spell too large a number
pub number_too_large : (text : List ℕ) (at value digit : ℕ) → HasRead text at value → at < length text → is_ascii_digit (get_or text at 0) ≡ true → digit ≡ get_or text at 0 - 48 → 2 ^ 64 ≤ 10 * value + digit → None ≡ number_in text
number_too_large text at value digit so less here d large =
    no_number text (λ h. omega (arith, h.2, large, digits_value_more 10 text at less, so.is, value_of_digit (get_or text at 0) here, d, digits_value-take-le 10 text (at + 1) (omega arith)))

pub number_is : (text : List ℕ) (at value : ℕ) → HasRead text at value → length text ≤ at → 0 < length text → value < 2 ^ 64 → Some value ≡ number_in text
number_is text at value so end some less =
    let whole : take at text ≡ text = take_all at text end in
    let digits : all_ascii_digits text ≡ true = ap all_ascii_digits (sym whole) ∙ so.digits in
    let same : digits_value 10 text ≡ value = ap (digits_value 10) (sym whole) ∙ so.is in
    ap (λ (n : ℕ). Some n) (sym same) ∙ sym (ap (λ (b : Bool). cond b (Some (digits_value 10 text)) None) (all_three (length text) (digits_value 10 text) (2 ^ 64) (all_ascii_digits text) digits some (omega (arith, same, less))))
