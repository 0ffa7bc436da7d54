-- What a merge leaves.
use Rattle.std.proofs.Common.{◌≡◌, ℕ, ◌+◌, ◌*◌, ◌≤◌, List, length, get_or, ℤ, pos, ◌+ℤ◌, unsigned_abs, refl, sym, ap, ◌∙◌, subst, arith}
use Rattle.sketch_countmin.specs.Rows.{cell_at, rows_of}
use Rattle.sketch_countmin.specs.State.{CountState, SameShape, Joins}
use Rattle.sketch_countmin.specs.Table.{IsTable, state_of}
use Rattle.sketch_countmin.proofs.Tables.{read_rows, remade}
use Rattle.sketch_countmin.proofs.Updates.{abs_sum}

-- each cell is the sum of two
pub record AllAdded (old other new : List ℤ) : Type 0 where
  pub cells : (k : ℕ) → get_or new k (pos 0) ≡ get_or old k (pos 0) +ℤ get_or other k (pos 0)

-- the parts are those of a sketch again
pub merged : (greatest : ℕ) (row_seeds : List ℕ) (d seed : ℕ) (t t' u : ℤ) (old other new : List ℤ)
    → IsTable greatest row_seeds d seed t old → ((k : ℕ) → unsigned_abs (get_or other k (pos 0)) ≤ unsigned_abs u) → AllAdded old other new → length new ≡ length old
    → t' ≡ pos (unsigned_abs t + unsigned_abs u) → unsigned_abs t' ≤ greatest → IsTable greatest row_seeds d seed t' new
merged greatest row_seeds d seed t t' u old other new i bound h long sum fits =
    let total : unsigned_abs t' ≡ unsigned_abs t + unsigned_abs u = ap unsigned_abs sum in
    remade greatest row_seeds d seed t t' old new i long (sum ∙ ap pos (sym total)) fits
    (λ k. rw (h.cells k) (omega (arith, abs_sum (get_or old k (pos 0)) (get_or other k (pos 0)), i.bounded k, bound k, total)))

-- there is room in each cell for another's, where there is room in the total
pub room_for_other : (greatest : ℕ) (row_seeds : List ℕ) (d seed : ℕ) (t t' u : ℤ) (cells others : List ℤ) → IsTable greatest row_seeds d seed t cells
    → ((k : ℕ) → unsigned_abs (get_or others k (pos 0)) ≤ unsigned_abs u)
    → t' ≡ pos (unsigned_abs t + unsigned_abs u) → unsigned_abs t' ≤ greatest → (k : ℕ) → unsigned_abs (get_or cells k (pos 0) +ℤ get_or others k (pos 0)) ≤ greatest
room_for_other greatest row_seeds d seed t t' u cells others i bound sum fits k =
    omega (arith, abs_sum (get_or cells k (pos 0)) (get_or others k (pos 0)), i.bounded k, bound k, ap unsigned_abs sum, fits)

-- and the sketch that they make has both
pub joins_here : (row_seeds others : List ℕ) (d e seed seed' : ℕ) (t t' u : ℤ) (old other new : List ℤ) → SameShape (state_of row_seeds d seed t old) (state_of others e seed' u other)
    → AllAdded old other new → unsigned_abs t' ≡ unsigned_abs t + unsigned_abs u → Joins (state_of row_seeds d seed t old) (state_of others e seed' u other) (state_of row_seeds d seed t' new)
joins_here row_seeds others d e seed seed' t t' u old other new same h total = record {
  same = same;
  shape = record { hashes = refl; buckets = refl; seed = refl };
  total = total;
  cells = λ r lr b lb.
      let there : cell_at (rows_of (length others) e other) r b ≡ get_or other (r * e + b) (pos 0) = read_rows (length others) e other r b (omega (arith, lr, same.hashes)) (omega (arith, lb, same.buckets)) in
      let index : get_or other (r * d + b) (pos 0) ≡ get_or other (r * e + b) (pos 0) = ap (λ (n : ℕ). get_or other (r * n + b) (pos 0)) same.buckets in
      read_rows (length row_seeds) d new r b lr lb ∙ (h.cells (r * d + b)
      ∙ (ap (λ (z : ℤ). z +ℤ get_or other (r * d + b) (pos 0)) (sym (read_rows (length row_seeds) d old r b lr lb))
      ∙ ap (λ (z : ℤ). cell_at (rows_of (length row_seeds) d old) r b +ℤ z) (index ∙ sym there)));
}

-- sketches that are others have the shapes of these
pub shape_own : (s s' o o' : CountState) → s ≡ s' → o ≡ o' → SameShape s' o' → SameShape s o
shape_own s s' o o' e f h = subst (λ (x : CountState). SameShape x o) (sym e) (subst (λ (y : CountState). SameShape s' y) (sym f) h)
