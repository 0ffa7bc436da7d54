-- The first place of a byte, of which a vector of bytes is seen at a time.
use Rattle.std.proofs.Common.{◌≡◌, ◌≢◌, ℕ, ◌+◌, ◌-◌, ◌<◌, ◌≤◌, ◌==◌, Bool, true, false, not, cond, w64, List, length, get_or, take, drop, ⊎_elim, inl, inr, refl, sym, ◌∙◌, ap, arith}
use Rattle.std.specs.Int.{trailing_zeros}
use Rattle.std.specs.List.{position_or_len, prefix_len, slice_range}
use Rattle.std.proofs.lemmas.Bool.{cases_lt}
use Rattle.std.proofs.lemmas.Bool.Decides.{eqb_tells}
use Rattle.std.proofs.lemmas.List.Sums.{position_or_len_is}
use Rattle.std.proofs.lemmas.Simd.{first_set_mask_l, run_in_chunk_fails, run_in_chunk_stops}
use Rattle.sketch_base.specs.Split.{IsFirstMarked}
use lib.Lanes.{chunk}

-- the lowest mark is that of the first place that passes
lowest_is_first : (b : Bool) (marks len at : ℕ) → (marks == 0) ≡ b → at ≡ cond b len (trailing_zeros w64 marks) → IsFirstMarked marks len at
lowest_is_first b marks len at test is p xs long few e =
    is ∙ ap (λ c. cond c len (trailing_zeros w64 marks)) (sym test) ∙ ap (λ m. cond (m == 0) len (trailing_zeros w64 m)) e ∙ first_set_mask_l p xs len long few

pub no_mark : (marks len at : ℕ) → marks ≡ 0 → at ≡ len → IsFirstMarked marks len at
no_mark marks len at none is = lowest_is_first true marks len at (rw none refl) is

pub some_mark : (marks len at : ℕ) → marks ≢ 0 → at ≡ trailing_zeros w64 marks → IsFirstMarked marks len at
some_mark marks len at some is =
    elim (eqb_tells marks 0) [
      | inl e ↦ absurd (some e.1)
      | inr e ↦ lowest_is_first false marks len at e.0 is
    ]

-- a range by its length
pub range_by_length : (xs : List ℕ) (at n : ℕ) → slice_range xs at (at + n) ≡ chunk at n xs
range_by_length xs at n =
    let count : (at + n) - at ≡ n = omega arith in
    ap (λ (k : ℕ). take k (drop at xs)) count

-- no byte before the place passes
abbrev pub NoneBefore : (ℕ → Bool) → List ℕ → ℕ → Type 0
NoneBefore p xs at = (k : ℕ) → k < at → p (get_or xs k 0) ≡ false

module _ (p : ℕ → Bool) (xs : List ℕ) (at n r : ℕ) (room : at + n ≤ length xs) (none : NoneBefore p xs at) (counted : r ≡ position_or_len p (slice_range xs at (at + n))) where
  in_chunk : r ≡ prefix_len (λ x. not (p x)) (chunk at n xs)
  in_chunk = counted ∙ ap (position_or_len p) (range_by_length xs at n)

  none_so_far : NoneBefore p xs (at + r)
  none_so_far k less = ⊎_elim (none k) (λ le. run_in_chunk_fails p xs at n r 0 room in_chunk k le less) (cases_lt k at)

  -- it stands in the range
  pub found_in : r < n → at + r ≡ position_or_len p xs
  found_in less = sym (position_or_len_is p xs (at + r) 0 (omega arith) none_so_far (λ h. run_in_chunk_stops p xs at n r 0 room in_chunk less))

  -- it does not
  pub passed_in : n ≤ r → NoneBefore p xs (at + n)
  passed_in le k less = none_so_far k (omega arith)

-- it stands at the place, or nowhere
pub found_here : (p : ℕ → Bool) (xs : List ℕ) (at : ℕ) → at ≤ length xs → NoneBefore p xs at → (at < length xs → p (get_or xs at 0) ≡ true) → at ≡ position_or_len p xs
found_here p xs at le none here = sym (position_or_len_is p xs at 0 le none here)
