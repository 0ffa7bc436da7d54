-- Runs of bytes in fields of CSV.
use Rattle.std.proofs.Common.{◌≡◌, ℕ, ◌<◌, Bool, true, false, cond, eqb, List, [], ◌∷◌, ◌++◌, take, refl, sym, ◌∙◌, ap, subst, arith}
use Rattle.std.specs.List.{All, onto_first, position_or_len}
use Rattle.std.proofs.lemmas.List.Elements.{All-head, All-tail}
use Rattle.std.proofs.lemmas.List.Sums.{fails_before_first}
use Rattle.std.proofs.lemmas.List.{get_or-take, length-take}
use Rattle.sketch_text.specs.Csv.{after_byte, after_bytes, cuts, split_unquoted, IsOnePart, IsStill}
use Rattle.sketch_text.specs.declared.place.Place.{Place}
use Rattle.sketch_text.specs.declared.place.Place.TheVariants.{Start, Bare, Quoted, Closed}

-- the elements before the first that passes do not pass
pub none_pass : (p : ℕ → Bool) (xs : List ℕ) → All (λ x. p x ≡ false) (take (position_or_len p xs) xs)
none_pass p xs k d less =
    let n : ℕ = position_or_len p xs in
    let before : k < n = omega (arith, less, length-take n xs) in
    ap p (get_or-take n xs k d before) ∙ fails_before_first p xs k d before

module _ (ends test : ℕ → Bool) where
  pub after_append : (place : Place) (xs ys : List ℕ) → after_bytes ends place (xs ++ ys) ≡ after_bytes ends (after_bytes ends place xs) ys
  after_append place [] ys = refl
  after_append place (x ∷ xs) ys = after_append (after_byte (ends x) place x) xs ys

  pub one_append : (place : Place) (xs ys : List ℕ) → IsOnePart ends test place xs → IsOnePart ends test (after_bytes ends place xs) ys → IsOnePart ends test place (xs ++ ys)
  one_append place [] ys first second = second
  one_append place (x ∷ xs) ys (none, first) second = (none, one_append (after_byte (ends x) place x) xs ys first second)

  -- one part
  pub split_one : (place : Place) (xs : List ℕ) → IsOnePart ends test place xs → split_unquoted ends test place xs ≡ xs ∷ []
  split_one place [] one = refl
  split_one place (x ∷ xs) (none, one) =
      ap (λ b. cond b ([] ∷ split_unquoted ends test Start xs) (onto_first x (split_unquoted ends test (after_byte (ends x) place x) xs))) none
      ∙ ap (onto_first x) (split_one (after_byte (ends x) place x) xs one)

  -- the first part, and those after it
  pub split_first : (place : Place) (xs : List ℕ) (y : ℕ) (ys : List ℕ) → IsOnePart ends test place xs → cuts test (after_bytes ends place xs) y ≡ true → split_unquoted ends test place (xs ++ y ∷ ys) ≡ xs ∷ split_unquoted ends test Start ys
  split_first place [] y ys one cut = ap (λ b. cond b ([] ∷ split_unquoted ends test Start ys) (onto_first y (split_unquoted ends test (after_byte (ends y) place y) ys))) cut
  split_first place (x ∷ xs) y ys (none, one) cut =
      ap (λ b. cond b ([] ∷ split_unquoted ends test Start (xs ++ y ∷ ys)) (onto_first x (split_unquoted ends test (after_byte (ends x) place x) (xs ++ y ∷ ys)))) none
      ∙ ap (onto_first x) (split_first (after_byte (ends x) place x) xs y ys one cut)

-- ---- runs that leave the place as it is

cut_in_quotes : (test : ℕ → Bool) (x : ℕ) → cuts test Quoted x ≡ false
cut_in_quotes test x = refl

quoted_after : (ends : ℕ → Bool) (xs : List ℕ) → All (λ x. eqb x 34 ≡ false) xs → after_bytes ends Quoted xs ≡ Quoted
quoted_after ends [] none = refl
quoted_after ends (x ∷ xs) none =
    ap (λ b. after_bytes ends (cond b Closed Quoted) xs) (All-head (λ y. eqb y 34 ≡ false) x xs none)
    ∙ quoted_after ends xs (All-tail (λ y. eqb y 34 ≡ false) x xs none)

quoted_one : (ends test : ℕ → Bool) (xs : List ℕ) → All (λ x. eqb x 34 ≡ false) xs → IsOnePart ends test Quoted xs
quoted_one ends test [] none = tt
quoted_one ends test (x ∷ xs) none = (
  refl,
  subst (λ b. IsOnePart ends test (cond b Closed Quoted) xs) (sym (All-head (λ y. eqb y 34 ≡ false) x xs none))
      (quoted_one ends test xs (All-tail (λ y. eqb y 34 ≡ false) x xs none)),
)

pub bare_after : (ends : ℕ → Bool) (xs : List ℕ) → All (λ x. ends x ≡ false) xs → after_bytes ends Bare xs ≡ Bare
bare_after ends [] none = refl
bare_after ends (x ∷ xs) none =
    ap (λ b. after_bytes ends (cond b Start Bare) xs) (All-head (λ y. ends y ≡ false) x xs none)
    ∙ bare_after ends xs (All-tail (λ y. ends y ≡ false) x xs none)

-- a byte that ends no field passes no test that only such bytes pass
outside : (ends test : ℕ → Bool) → ((x : ℕ) → test x ≡ true → ends x ≡ true) → (x : ℕ) → ends x ≡ false → test x ≡ false
outside ends test within x none = elim (test x) as (λ b. test x ≡ b → test x ≡ false) [
  | true ↦ λ e. let both : ends x ≡ true = within x e in cc
  | false ↦ λ e. e
] refl

pub bare_one : (ends test : ℕ → Bool) → ((x : ℕ) → test x ≡ true → ends x ≡ true) → (xs : List ℕ) → All (λ x. ends x ≡ false) xs → IsOnePart ends test Bare xs
bare_one ends test within [] none = tt
bare_one ends test within (x ∷ xs) none =
    let here : ends x ≡ false = All-head (λ y. ends y ≡ false) x xs none in (
      outside ends test within x here,
      subst (λ b. IsOnePart ends test (cond b Start Bare) xs) (sym here) (bare_one ends test within xs (All-tail (λ y. ends y ≡ false) x xs none)),
    )

pub still_quoted : (ends : ℕ → Bool) (xs : List ℕ) (at : ℕ) → at ≡ position_or_len (λ x. eqb x 34) xs → IsStill ends Quoted (take at xs)
still_quoted ends xs at e =
    let none : All (λ x. eqb x 34 ≡ false) (take at xs) = rw e (none_pass (λ x. eqb x 34) xs) in
    (quoted_after ends (take at xs) none, λ test within. quoted_one ends test (take at xs) none)

pub still_bare : (ends : ℕ → Bool) (xs : List ℕ) (at : ℕ) → at ≡ position_or_len ends xs → IsStill ends Bare (take at xs)
still_bare ends xs at e =
    let none : All (λ x. ends x ≡ false) (take at xs) = rw e (none_pass ends xs) in
    (bare_after ends (take at xs) none, λ test within. bare_one ends test within (take at xs) none)

pub still_none : (ends : ℕ → Bool) (place : Place) → IsStill ends place []
still_none ends place = (refl, λ test within. tt)
