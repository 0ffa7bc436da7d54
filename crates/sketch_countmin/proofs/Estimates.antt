-- The least cell of an item, and the bound above it.
use Rattle.std.proofs.Common.{◌≡◌, ◌≢◌, ℕ, ◌+◌, ◌<◌, ◌≤◌, List, length, map, get_or, set, ℤ, pos, sym, ap, ◌∙◌, subst, arith, get_or-set_other, get_or-set_same, below_more}
use Rattle.std.proofs.lemmas.List.{map-set, length-map}
use Rattle.std.specs.Prelude.{slice_index, ◌≤ℤ◌}
use Rattle.std.specs.Int.{int_min}
use Rattle.std.proofs.lemmas.Int.{ints, clamps, by_lt_z}
use Rattle.std.proofs.lemmas.Nat.{mod_below}
use Rattle.sketch_base.specs.Murmur3.{murmur3_x64_128}
use Rattle.sketch_countmin.specs.Cells.{flat_at, IsMinOf}
use Rattle.sketch_countmin.specs.Values.{InRange}
use Rattle.sketch_countmin.specs.Rows.{cell_at, rows_of}
use Rattle.sketch_countmin.specs.Buckets.{row_seed, bucket_by, bucket_of}
use Rattle.sketch_countmin.specs.State.{CountState, IsMinCell}
use Rattle.sketch_countmin.specs.Table.{IsTable, state_of}
use Rattle.sketch_countmin.proofs.Tables.{read_rows}
use Rattle.sketch_countmin.proofs.Updates.{row_bucket}

-- a bucket is one of the buckets
pub bucket_below : (d seed r : ℕ) (bytes : List ℕ) → 0 < d → bucket_of d seed r bytes < d
unfolding bucket_of
bucket_below d seed r bytes p = mod_below (murmur3_x64_128 bytes (row_seed r seed)).0 d p

-- the least cell that the rows' seeds lead to is the item's least cell
pub least_here : (greatest : ℕ) (row_seeds : List ℕ) (d seed : ℕ) (t : ℤ) (cells : List ℤ) (bytes : List ℕ) (z : ℤ) → IsTable greatest row_seeds d seed t cells
    → IsMinOf d cells (λ r. bucket_by d (slice_index row_seeds r) bytes) (length row_seeds) z → IsMinCell (state_of row_seeds d seed t cells) bytes z
least_here greatest row_seeds d seed t cells bytes z i h = record {
  below = λ r lr. subst (λ (w : ℤ). z ≤ℤ w) (same r lr) (h.below r lr);
  reached = let found = h.reached in (found.0, found.1, found.2 ∙ same found.0 found.1);
}
  where
    same : (r : ℕ) → r < length row_seeds → flat_at d cells r (bucket_by d (slice_index row_seeds r) bytes) ≡ cell_at (rows_of (length row_seeds) d cells) r (bucket_of d seed r bytes)
    same r lr = ap (λ (b : ℕ). flat_at d cells r b) (row_bucket row_seeds d seed r bytes (i.seeds r lr))
        ∙ sym (read_rows (length row_seeds) d cells r (bucket_of d seed r bytes) lr (bucket_below d seed r bytes (omega (arith, i.some_buckets))))

-- there is one least cell
pub least_unique : (s : CountState) (bytes : List ℕ) (y z : ℤ) → IsMinCell s bytes y → IsMinCell s bytes z → y ≡ z
least_unique s bytes y z a b =
    let ra = a.reached in
    let rb = b.reached in
    let low : z ≤ℤ y = subst (λ (w : ℤ). z ≤ℤ w) (sym ra.2) (b.below ra.0 ra.1) in
    let high : y ≤ℤ z = subst (λ (w : ℤ). y ≤ℤ w) (sym rb.2) (a.below rb.0 rb.1) in
    omega (arith, ints, low, high)

-- the lesser of two numbers, where the first is not above the second
pub min_below : (v w g : ℤ) → v ≡ w → v ≤ℤ g → v ≡ int_min w g
min_below v w g e le = omega (arith, ints, clamps, e, le)

-- and where it is no number of a type that it can only be above
pub min_above : (least w : ℤ) (g : ℕ) → least ≤ℤ w → ¬ InRange least g w → pos g ≡ int_min w (pos g)
min_above least w g low none = by_lt_z (pos g) w (λ lt. omega (arith, ints, clamps, lt)) (λ le. absurd (none (low, le)))

-- ---- many estimates

-- one more, behind those before it
pub estimates_more : {T : Type 0} (num : T → ℤ) (P : ℕ → ℤ → Type 0) (xs : List T) (n : ℕ) (v : T) → n < length xs
    → ((i : ℕ) → i < n → P i (get_or (map num xs) i (pos 0))) → P n (num v) → (i : ℕ) → i < n + 1 → P i (get_or (map num (set xs n v)) i (pos 0))
estimates_more num P xs n v fits before here = below_more (λ (i : ℕ). P i (get_or (map num (set xs n v)) i (pos 0))) n
    (λ i lt. let ne : i ≢ n = omega arith in subst (P i) (sym (ap (λ (zs : List ℤ). get_or zs i (pos 0)) (map-set num xs n v) ∙ get_or-set_other (map num xs) n i (num v) (pos 0) ne)) (before i lt))
    (subst (P n) (sym (ap (λ (zs : List ℤ). get_or zs n (pos 0)) (map-set num xs n v) ∙ get_or-set_same (map num xs) n (num v) (pos 0) (omega (arith, length-map xs num)))) here)

-- and those behind it stay
pub behind_stay : {T : Type 0} (num : T → ℤ) (xs : List T) (n : ℕ) (v : T) (j : ℕ) → n + 1 ≤ j → get_or (map num (set xs n v)) j (pos 0) ≡ get_or (map num xs) j (pos 0)
behind_stay num xs n v j le =
    let ne : j ≢ n = omega arith in
    ap (λ (zs : List ℤ). get_or zs j (pos 0)) (map-set num xs n v) ∙ get_or-set_other (map num xs) n j (num v) (pos 0) ne
