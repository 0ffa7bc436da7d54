-- What one update leaves.
use Rattle.std.proofs.Common.{◌≡◌, ℕ, ◌+◌, ◌≤◌, Bool, true, false, eqb, cond, List, length, get_or, ℤ, pos, ◌+ℤ◌, unsigned_abs, refl, sym, ap, ◌∙◌, arith}
use Rattle.std.specs.Prelude.{slice_index, ◌==◌, if◌then◌else◌}
use Rattle.std.proofs.lemmas.Int.{ints}
use Rattle.sketch_countmin.specs.Cells.{flat_at, RowsAdded}
use Rattle.sketch_countmin.specs.Rows.{cell_at, rows_of}
use Rattle.sketch_countmin.specs.Buckets.{row_seed, bucket_by, bucket_of}
use Rattle.sketch_countmin.specs.State.{CountState, Counts}
use Rattle.sketch_countmin.specs.Table.{IsTable, state_of}
use Rattle.sketch_countmin.proofs.Tables.{read_rows, remade_rows}

-- a sum is no further from zero than both together
pub abs_sum : (x y : ℤ) → unsigned_abs (x +ℤ y) ≤ unsigned_abs x + unsigned_abs y
abs_sum x y = omega (arith, ints)

-- also where nothing is added
abs_added : (x w : ℤ) (t : Bool) → unsigned_abs (x +ℤ cond t w (pos 0)) ≤ unsigned_abs x + unsigned_abs w
abs_added x w true = abs_sum x w
abs_added x w false = omega (arith, ints)

-- there is room in each cell for a weight for which there is room in the total
pub room_here : (greatest : ℕ) (row_seeds : List ℕ) (d seed : ℕ) (t t' : ℤ) (cells : List ℤ) (w : ℤ) → IsTable greatest row_seeds d seed t cells
    → t' ≡ pos (unsigned_abs t + unsigned_abs w) → unsigned_abs t' ≤ greatest → (k : ℕ) → unsigned_abs (get_or cells k (pos 0) +ℤ w) ≤ greatest
room_here greatest row_seeds d seed t t' cells w i sum fits k =
    omega (arith, abs_sum (get_or cells k (pos 0)) w, i.bounded k, ap unsigned_abs sum, fits)

-- the parts are those of a sketch again
pub updated : (greatest : ℕ) (row_seeds : List ℕ) (d seed : ℕ) (t t' : ℤ) (old new : List ℤ) (bucket : ℕ → ℕ) (w : ℤ)
    → IsTable greatest row_seeds d seed t old → RowsAdded d w bucket (length row_seeds) old new → length new ≡ length old
    → t' ≡ pos (unsigned_abs t + unsigned_abs w) → unsigned_abs t' ≤ greatest → IsTable greatest row_seeds d seed t' new
updated greatest row_seeds d seed t t' old new bucket w i h long sum fits =
    remade_rows greatest row_seeds d seed t t' old new (unsigned_abs w) i long sum fits (λ r lr b lb. rw (h.done r lr b lb) (abs_added (flat_at d old r b) w (eqb (bucket r) b))) h.rest

-- the bucket by the seed of a row is the row's bucket
pub row_bucket : (row_seeds : List ℕ) (d seed r : ℕ) (bytes : List ℕ) → slice_index row_seeds r ≡ row_seed r seed → bucket_by d (slice_index row_seeds r) bytes ≡ bucket_of d seed r bytes
unfolding bucket_of
row_bucket row_seeds d seed r bytes e = ap (λ (s : ℕ). bucket_by d s bytes) e

-- and the sketch that they make has counted the weight
pub counts_here : (greatest : ℕ) (row_seeds : List ℕ) (d seed : ℕ) (t t' : ℤ) (old new : List ℤ) (bytes : List ℕ) (w : ℤ)
    → IsTable greatest row_seeds d seed t old → RowsAdded d w (λ r. bucket_by d (slice_index row_seeds r) bytes) (length row_seeds) old new
    → unsigned_abs t' ≡ unsigned_abs t + unsigned_abs w → Counts (state_of row_seeds d seed t old) bytes w (state_of row_seeds d seed t' new)
counts_here greatest row_seeds d seed t t' old new bytes w i h total = record {
  shape = record { hashes = refl; buckets = refl; seed = refl };
  total = total;
  cells = λ r lr b lb.
      read_rows (length row_seeds) d new r b lr lb ∙ (h.done r lr b lb
      ∙ (ap (λ (z : ℤ). z +ℤ (if bucket_by d (slice_index row_seeds r) bytes == b then w else pos 0)) (sym (read_rows (length row_seeds) d old r b lr lb))
      ∙ ap (λ (c : ℕ). cell_at (rows_of (length row_seeds) d old) r b +ℤ (if c == b then w else pos 0)) (row_bucket row_seeds d seed r bytes (i.seeds r lr))));
}

-- a weight of 0 changes nothing
pub uncounted : (s : CountState) (bytes : List ℕ) (w : ℤ) → w ≡ pos 0 → Counts s bytes w s
uncounted s bytes w zero = record {
  shape = record { hashes = refl; buckets = refl; seed = refl };
  total = omega (arith, ints, zero);
  cells = λ r lr b lb. same (cell_at s.rows r b) (bucket_of s.buckets s.seed r bytes == b);
}
  where
    same : (z : ℤ) (b : Bool) → z ≡ z +ℤ (if b then w else pos 0)
    same z true = omega (arith, ints, zero)
    same z false = omega (arith, ints)
