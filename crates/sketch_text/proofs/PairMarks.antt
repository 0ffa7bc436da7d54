-- The marks of two bytes, of which a vector is seen at a time.
use Rattle.std.proofs.Common.{◌≡◌, ℕ, ◌%◌, ◌^◌, ◌≤◌, ◌||◌, Bool, true, false, cond, eqb, List, length, map, replicate, refl, ◌∙◌, ap, arith, bit_or}
use Rattle.std.proofs.lemmas.List.{length-map}
use Rattle.std.proofs.lemmas.Simd.{map-map, zip2_splat, zip2_of_maps, mask_l-mod}
use Rattle.std.specs.Simd.Lanes.{mask_l, zip2, top}
use Rattle.sketch_base.proofs.Separators.{lane, map_same, top_lane}

or_lanes : (a b : Bool) → bit_or (lane a) (lane b) ≡ lane (a || b)
or_lanes true true = refl
or_lanes true false = refl
or_lanes false true = refl
or_lanes false false = refl

abbrev compared : List ℕ → ℕ → ℕ → List ℕ
compared xs n y = zip2 (λ a b. cond (eqb a b) 255 0) xs (replicate n y)

-- two comparisons find two bytes
pub pair_marks : (xs : List ℕ) (n : ℕ) → length xs ≡ n → (first second : ℕ) → n ≤ 64 →
    mask_l (map (top 7) (zip2 bit_or (compared xs n first) (compared xs n second))) % 2 ^ 64 ≡ mask_l (map (λ x. eqb x first || eqb x second) xs)
pair_marks xs n long first second le =
    let p : ℕ → Bool = λ x. eqb x first in
    let q : ℕ → Bool = λ x. eqb x second in
    let tests : zip2 bit_or (compared xs n first) (compared xs n second) ≡ map (λ x. lane (p x || q x)) xs =
    zip2_of_maps bit_or (λ x. lane (p x)) (λ x. lane (q x)) xs (zip2_splat (λ a b. cond (eqb a b) 255 0) xs n first long) (zip2_splat (λ a b. cond (eqb a b) 255 0) xs n second long)
    ∙ map_same _ _ (λ x. or_lanes (p x) (q x)) xs in
    let marks : map (top 7) (zip2 bit_or (compared xs n first) (compared xs n second)) ≡ map (λ x. p x || q x) xs =
    ap (map (top 7)) tests ∙ map-map (top 7) (λ x. lane (p x || q x)) xs ∙ map_same _ _ (λ x. top_lane (p x || q x)) xs in
    ap (λ ms. mask_l ms % 2 ^ 64) marks ∙ mask_l-mod (map (λ x. p x || q x) xs) 64 (omega (arith, length-map xs (λ x. p x || q x)))
