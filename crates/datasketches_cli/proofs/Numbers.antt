-- Numbers in words.
use Rattle.std.proofs.Common.{◌≡◌, ◌≢◌, ℕ, ◌+◌, ◌^◌, ◌<◌, ◌≤◌, List, [], ◌∷◌, length, get_or, Result, Ok, Err, Option, Some, None, Bool, true, false, cond, ◌&&◌, ltb, eqb, refl, sym, ◌∙◌, ap, subst, drop, ℤ, pos, neg_ℤ, w64, arith}
use Rattle.std.specs.Borrow.{Bor}
use Rattle.std.specs.Option.{option_copied, option_eq, option_map}
use Rattle.std.specs.List.{slice_get}
use Rattle.std.specs.Result.{OkIff, result_ok}
use Rattle.std.specs.Str.{all_ascii_digits}
use Rattle.std.specs.Str.Parse.{ParsesUnsigned, ParsesSigned, digits_value}
use Rattle.std.proofs.lemmas.Bool.{cond-false, eqb-true, eqb-false, false≢true}
use Rattle.std.proofs.lemmas.Bool.Decides.{nat_tests}
use Rattle.std.proofs.lemmas.Str.Parse.{IsNumeralModel, numerals_by_value, tells_all_ascii_digits, parse_plain, parse_signed_minus, parse_signed_plain}
use Rattle.datasketches_cli.specs.Grammar.{number_below, signed_number}

-- std's digits and value are words of our own
digits : IsNumeralModel (λ ds. all_ascii_digits ds ≡ true) (digits_value 10)
digits = numerals_by_value _ tells_all_ascii_digits

-- three tests that are not all true
not_all : (a b c : ℕ) (d : Bool) → ¬ ((d ≡ true) × (0 < a) × (b < c)) → (ltb 0 a && d && ltb b c) ≡ false
not_all a b c true h = grind (arith, nat_tests)
not_all a b c false h = grind (arith, nat_tests)

-- a word that is a number below the limit, and one that is none
is_number : (limit : ℕ) (word : List ℕ) → all_ascii_digits word ≡ true → 0 < length word → digits_value 10 word < limit → number_below limit word ≡ Some (digits_value 10 word)
is_number limit word a b l = grind (arith, nat_tests)

no_number : (limit : ℕ) (word : List ℕ) → ¬ ((all_ascii_digits word ≡ true) × (0 < length word) × (digits_value 10 word < limit)) → number_below limit word ≡ None
no_number limit word h = cond-false (ltb 0 (length word) && all_ascii_digits word && ltb (digits_value 10 word) limit) (Some (digits_value 10 word)) None (not_all (length word) (digits_value 10 word) limit (all_ascii_digits word) h)

-- what was parsed, as an option
of_result : {T E : Type 0} (of : ℕ → T) (limit : ℕ) (word : List ℕ) (r : Result T E) → OkIff r ((all_ascii_digits word ≡ true) × (0 < length word) × (digits_value 10 word < limit)) (of (digits_value 10 word)) → result_ok r ≡ option_map of (number_below limit word)
of_result of limit word (Ok z) h = ap Some h.1 ∙ sym (ap (option_map of) (is_number limit word h.0.0 h.0.1 h.0.2))
of_result of limit word (Err e) h = sym (ap (option_map of) (no_number limit word h))

-- the same up to a greatest number
of_result_most : {T E : Type 0} (of : ℕ → T) (most : ℕ) (word : List ℕ) (r : Result T E) → OkIff r ((all_ascii_digits word ≡ true) × (0 < length word) × (digits_value 10 word ≤ most)) (of (digits_value 10 word)) → result_ok r ≡ option_map of (number_below (most + 1) word)
of_result_most of most word (Ok z) h = ap Some h.1 ∙ sym (ap (option_map of) (is_number (most + 1) word h.0.0 h.0.1 (omega (arith, h.0.2))))
of_result_most of most word (Err e) h = sym (ap (option_map of) (no_number (most + 1) word (λ k. h (k.0, k.1, omega (arith, k.2)))))

same_option : (o : Option ℕ) → option_map (λ n. n) o ≡ o
same_option None = refl
same_option (Some n) = refl

-- std's `parse` of a word with no plus sign in front
pub number_from_parse : {E : Type 0} (word : List ℕ) (r : Result ℕ E) → ParsesUnsigned 64 10 word r → get_or word 0 0 ≢ 43 → result_ok r ≡ number_below (2 ^ 64) word
number_from_parse word r h plain = of_result (λ n. n) (2 ^ 64) word r (parse_plain digits 64 word r h plain) ∙ same_option (number_below (2 ^ 64) word)

by_sign : {E : Type 0} (word : List ℕ) (r : Result ℤ E) (t : Bool) → eqb (get_or word 0 0) 45 ≡ t → ParsesSigned w64 10 word r → get_or word 0 0 ≢ 43
    → result_ok r ≡ cond t (option_map (λ n. neg_ℤ (pos n)) (number_below (2 ^ 63 + 1) (drop 1 word))) (option_map pos (number_below (2 ^ 63) word))
by_sign word r true e h plain = of_result_most (λ n. neg_ℤ (pos n)) (2 ^ 63) (drop 1 word) r (parse_signed_minus digits w64 word r h (eqb-true (get_or word 0 0) 45 e))
by_sign word r false e h plain = of_result pos (2 ^ 63) word r (parse_signed_plain digits w64 word r h plain (λ k. eqb-false (get_or word 0 0) 45 e k))

pub signed_from_parse : {E : Type 0} (word : List ℕ) (r : Result ℤ E) → ParsesSigned w64 10 word r → get_or word 0 0 ≢ 43 → result_ok r ≡ signed_number word
unfolding signed_number
signed_from_parse word r h plain = by_sign word r (eqb (get_or word 0 0) 45) refl h plain

-- a word whose first byte is no plus sign
pub first_plain : (word : List ℕ) (first : Option (Bor ℕ)) (sign : Bor ℕ) → sign.now ≡ 43 → option_copied first ≡ slice_get word 0 → false ≡ option_eq {T = Bor ℕ} (λ x y. eqb x.now y.now) first (Some sign) → get_or word 0 0 ≢ 43
first_plain [] first sign s h e = λ z. omega arith
first_plain (x ∷ xs) None sign s h e = λ z. cc
first_plain (x ∷ xs) (Some b) sign s h e = λ z. let same : b.now ≡ x = cc in eqb-false b.now sign.now (sym e) (same ∙ z ∙ sym s)

plus_none : (word : List ℕ) → signed_number (43 ∷ word) ≡ None
unfolding signed_number
plus_none word = ap (option_map pos) (no_number (2 ^ 63) (43 ∷ word) (λ h. false≢true h.0))

-- a word whose first byte is one is no number
pub first_plus : (word : List ℕ) (first : Option (Bor ℕ)) (sign : Bor ℕ) → sign.now ≡ 43 → option_copied first ≡ slice_get word 0 → true ≡ option_eq {T = Bor ℕ} (λ x y. eqb x.now y.now) first (Some sign) → None ≡ signed_number word
first_plus [] None sign s h e = cc
first_plus [] (Some b) sign s h e = cc
first_plus (x ∷ xs) None sign s h e = cc
first_plus (x ∷ xs) (Some b) sign s h e =
    let same : b.now ≡ x = cc in
    subst (λ (n : ℕ). None ≡ signed_number (n ∷ xs)) (sym (eqb-true b.now sign.now (sym e) ∙ s) ∙ same) (sym (plus_none xs))
