-- The bytes between words, of which a vector is seen at a time.
use Rattle.std.proofs.Common.{◌≡◌, ℕ, ◌%◌, ◌^◌, ◌≤◌, ◌||◌, Bool, true, false, cond, eqb, List, [], ◌∷◌, length, map, replicate, refl, ◌∙◌, ap, arith, bit_or}
use Rattle.std.proofs.lemmas.Bool.Decides.{nat_tests}
use Rattle.std.proofs.lemmas.List.{length-map}
use Rattle.std.proofs.lemmas.Simd.{map-map, zip2_splat, zip2_of_maps, mask_l-mod}
use Rattle.std.specs.Char.{is_ascii_whitespace}
use Rattle.std.specs.Simd.Lanes.{mask_l, zip2, top}

-- functions that agree map a list alike
pub map_same : {A B : Type 0} (f g : A → B) → ((x : A) → f x ≡ g x) → (xs : List A) → map f xs ≡ map g xs
map_same f g same [] = refl
map_same f g same (x ∷ xs) = rw (same x, map_same f g same xs) refl

-- a lane of a comparison
abbrev pub lane : Bool → ℕ
lane b = cond b 255 0

or_lanes : (a b : Bool) → bit_or (lane a) (lane b) ≡ lane (a || b)
or_lanes true true = refl
or_lanes true false = refl
or_lanes false true = refl
or_lanes false false = refl

pub top_lane : (b : Bool) → top 7 (lane b) ≡ b
top_lane true = refl
top_lane false = refl

white : (x : ℕ) → (((eqb x 9 || eqb x 10) || (eqb x 12 || eqb x 13)) || eqb x 32) ≡ is_ascii_whitespace x
white x = grind (arith, nat_tests)

-- the lanes of a vector, compared and joined
module _ (xs : List ℕ) (n : ℕ) (long : length xs ≡ n) where
  abbrev Tests : (ℕ → Bool) → List ℕ → Type 0
  Tests p lanes = lanes ≡ map (λ x. lane (p x)) xs

  one : (y : ℕ) → Tests (λ x. eqb x y) (zip2 (λ a b. cond (eqb a b) 255 0) xs (replicate n y))
  one y = zip2_splat (λ a b. cond (eqb a b) 255 0) xs n y long

  either : (p q : ℕ → Bool) (us vs : List ℕ) → Tests p us → Tests q vs → Tests (λ x. p x || q x) (zip2 bit_or us vs)
  either p q us vs a b = zip2_of_maps bit_or (λ x. lane (p x)) (λ x. lane (q x)) xs a b ∙ map_same _ _ (λ x. or_lanes (p x) (q x)) xs

  marks_of : (p : ℕ → Bool) (lanes : List ℕ) → n ≤ 64 → Tests p lanes → mask_l (map (top 7) lanes) % 2 ^ 64 ≡ mask_l (map p xs)
  marks_of p lanes le tests =
      let marks : map (top 7) lanes ≡ map p xs = ap (map (top 7)) tests ∙ map-map (top 7) (λ x. lane (p x)) xs ∙ map_same _ _ (λ x. top_lane (p x)) xs in
      ap (λ ms. mask_l ms % 2 ^ 64) marks ∙ mask_l-mod (map p xs) 64 (omega (arith, length-map xs p))

  abbrev compared : ℕ → List ℕ
  compared y = zip2 (λ a b. cond (eqb a b) 255 0) xs (replicate n y)

  -- five comparisons find ASCII white space
  pub white_marks : n ≤ 64 → mask_l (map (top 7) (zip2 bit_or (zip2 bit_or (zip2 bit_or (compared 9) (compared 10)) (zip2 bit_or (compared 12) (compared 13))) (compared 32))) % 2 ^ 64 ≡ mask_l (map is_ascii_whitespace xs)
  white_marks le =
      marks_of _ _ le (either _ _ _ _ (either _ _ _ _ (either _ _ _ _ (one 9) (one 10)) (either _ _ _ _ (one 12) (one 13))) (one 32))
      ∙ ap mask_l (map_same _ _ white xs)
