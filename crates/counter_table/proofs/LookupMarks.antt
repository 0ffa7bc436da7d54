-- Fingerprints that are compared with a mark, several at a time.
use Rattle.std.proofs.Common.{◌≡◌, ◌≢◌, ℕ, ◌+◌, ◌<◌, ◌≤◌, Bool, false, not, eqb, List, length, get_or, map, sym, ◌∙◌, ap}
use Rattle.std.specs.List.{prefix_len}
use Rattle.std.proofs.lemmas.Bool.{eq-eqb, false≢true, ne_eqb}
use Rattle.std.proofs.lemmas.Simd.{first_set_mask_l, length-chunk, none_from_empty_mask, run_in_chunk_fails, run_in_chunk_le}
use lib.Count.{count_trailing_zeros}
use lib.Lanes.{mask_l, chunk}

-- a comparison that fails
differs : (x mark : ℕ) → eqb x mark ≡ false → x ≡ mark → ⊥
differs x mark f e = false≢true (sym f ∙ eq-eqb x mark e)

module _ (xs : List ℕ) (at n mark marks : ℕ) (room : at + n ≤ length xs) where
  abbrev is_mark : ℕ → Bool
  is_mark x = eqb x mark

  -- where none is marked
  pub before_none : marks ≡ mask_l (map is_mark (chunk at n xs)) → marks ≡ 0 → (k : ℕ) → at ≤ k → k < at + n → get_or xs k 0 ≡ mark → ⊥
  before_none e none k from to = differs (get_or xs k 0) mark (none_from_empty_mask is_mark xs at n 0 room (sym e ∙ none) k from to)

  module _ (few : n ≤ 64) (e : marks ≡ mask_l (map is_mark (chunk at n xs))) (some : marks ≢ 0) where
    counted : count_trailing_zeros 64 marks ≡ prefix_len (λ x. not (is_mark x)) (chunk at n xs)
    counted =
        let marked : eqb (mask_l (map is_mark (chunk at n xs))) 0 ≡ false = ne_eqb (mask_l (map is_mark (chunk at n xs))) 0 (λ z. some (e ∙ z)) in
        ap (count_trailing_zeros 64) e ∙ (rw marked at (first_set_mask_l is_mark (chunk at n xs) n (length-chunk at n xs room) few))

    -- the lowest bit is the first that is marked
    pub before_first : (k : ℕ) → at ≤ k → k < at + count_trailing_zeros 64 marks → get_or xs k 0 ≡ mark → ⊥
    before_first k from to = differs (get_or xs k 0) mark (run_in_chunk_fails is_mark xs at n (count_trailing_zeros 64 marks) 0 room counted k from to)

    pub first_within : count_trailing_zeros 64 marks ≤ n
    first_within = run_in_chunk_le is_mark xs at n (count_trailing_zeros 64 marks) 0 room counted
