-- Records that have an item and no weight, and whose weight is 0, one after another.
use Rattle.std.proofs.Common.{◌≡◌, ℕ, ◌+◌, ◌-◌, ◌^◌, List, ◌∷◌, min, ap, arith}
use Rattle.std.proofs.lemmas.List.Sums.{sum_by-cons}
use Rattle.std.specs.Prelude.{sum_by}
use Rattle.sketches.specs.Utf8Lines.{GrowsBy}

module _ (f : List ℕ → ℕ) where
  -- the number grew by the records before those that are left
  abbrev pub HasSkipped : (old : ℕ) (all left : List (List ℕ)) (new : ℕ) → Type 0
  HasSkipped old all left new = min (new + sum_by f left) (2 ^ 64 - 1) ≡ min (old + sum_by f all) (2 ^ 64 - 1)

  pub skipped_more : (old mid new : ℕ) (all left later : List (List ℕ)) (row : List ℕ) → HasSkipped old all left mid → left ≡ row ∷ later → GrowsBy mid (f row) new → HasSkipped old all later new
  skipped_more old mid new all left later row so next grows = omega (arith, so, grows, ap (sum_by f) next, sum_by-cons f row later)
