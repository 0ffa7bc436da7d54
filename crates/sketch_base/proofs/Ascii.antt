-- Bytes of ASCII, of which a vector is seen at a time.
use Rattle.std.proofs.Common.{◌≡◌, ℕ, ◌+◌, ◌%◌, ◌^◌, ◌<◌, ◌≤◌, false, cond, List, length, map, replicate, get_or, sym, ◌∙◌, ap, arith}
use Rattle.std.proofs.lemmas.Bool.Decides.{nat_tests}
use Rattle.std.proofs.lemmas.List.{length-map}
use Rattle.std.proofs.lemmas.Simd.{length-chunk, map-map, mask_l-mod, none_from_empty_mask, zip2_splat_left}
use Rattle.sketch_base.proofs.Separators.{map_same, top_lane}
use lib.Dec.{leb}
use lib.Lanes.{chunk, mask_l, top, zip2}

below : (b : ℕ) → leb 128 b ≡ false → b < 128
below b h = grind (arith, nat_tests, h)

-- the bytes of a vector, none of which is above 127
module _ (xs : List ℕ) (at n : ℕ) (few : n ≤ 64) (room : at + n ≤ length xs) where
  abbrev high_lanes : List ℕ
  high_lanes = zip2 (λ a b. cond (leb a b) 255 0) (replicate n 128) (chunk at n xs)

  high_marks : mask_l (map (top 7) high_lanes) % 2 ^ 64 ≡ mask_l (map (leb 128) (chunk at n xs))
  high_marks =
      let long = length-chunk at n xs room in
      let lanes : high_lanes ≡ map (λ b. cond (leb 128 b) 255 0) (chunk at n xs) = zip2_splat_left (λ a b. cond (leb a b) 255 0) 128 n (chunk at n xs) long in
      let tops : map (top 7) high_lanes ≡ map (leb 128) (chunk at n xs) = ap (map (top 7)) lanes ∙ map-map (top 7) (λ b. cond (leb 128 b) 255 0) (chunk at n xs) ∙ map_same _ _ (λ b. top_lane (leb 128 b)) (chunk at n xs) in
      ap (λ ms. mask_l ms % 2 ^ 64) tops ∙ mask_l-mod (map (leb 128) (chunk at n xs)) 64 (omega (arith, length-map (chunk at n xs) (leb 128), long))

  pub none_high : mask_l (map (top 7) high_lanes) % 2 ^ 64 ≡ 0 → (k : ℕ) → at ≤ k → k < at + n → get_or xs k 0 < 128
  none_high none k ge less = below (get_or xs k 0) (none_from_empty_mask (leb 128) xs at n 0 room (sym high_marks ∙ none) k ge less)
