-- Where cells lie, and what room there is at them, for goals whose search would be long.
use Rattle.std.proofs.Common.{◌≡◌, ◌≢◌, ℕ, ◌+◌, ◌*◌, ◌<◌, ◌≤◌, List, map, length, get_or, set, ℤ, pos, ◌+ℤ◌, unsigned_abs, sym, ap, ◌∙◌, subst, arith, get_or-set_other, get_or-set_same, below_more, ⊎_elim}
use Rattle.std.proofs.lemmas.Bool.{cases_lt}
use Rattle.std.proofs.lemmas.List.{length-map, get_or_past}
use Rattle.sketch_countmin.specs.Cells.{RowsAdded, CellsAdded}
use Rattle.sketch_countmin.proofs.RowSteps.{inside, plus_zero, read_cell, rows_added_next}

-- a index in a row, where the width has two spellings
pub inside_wide : (d rows n b l w : ℕ) → w ≡ d → l ≡ rows * d → n < rows → b < d → n * w + b < l
inside_wide d rows n b l w same e lt p = subst (λ (w : ℕ). n * w + b < l) (sym same) (inside d rows n b l e lt p)

-- ---- rows that a weight is added to

-- the cells behind those rows have the room that they had
pub room_behind : (d : ℕ) (w : ℤ) (most : ℕ) (bucket : ℕ → ℕ) (n k : ℕ) (old mid : List ℤ) → RowsAdded d w bucket n old mid → k ≡ n * d + bucket n
    → ((j : ℕ) → unsigned_abs (get_or old j (pos 0) +ℤ w) ≤ most) → unsigned_abs (get_or mid k (pos 0) +ℤ w) ≤ most
room_behind d w most bucket n k old mid h index room = subst (λ (z : ℤ). unsigned_abs (z +ℤ w) ≤ most) (sym (h.rest k (omega (arith, index)))) (room k)

-- one row more
pub row_added : {T : Type 0} (number : T → ℤ) (d : ℕ) (w : ℤ) (bucket : ℕ → ℕ) (n m k size : ℕ) (old : List ℤ) (mid new : List T) → RowsAdded d w bucket n old (map number mid) → m ≡ n + 1
    → bucket n < d → k ≡ n * d + bucket n → k < size → length mid ≡ size → map number new ≡ set (map number mid) k (get_or (map number mid) k (pos 0) +ℤ w)
    → RowsAdded d w bucket m old (map number new)
row_added number d w bucket n m k size old mid new h next in_row index fits long e =
    rows_added_next d w bucket n m old (map number mid) (map number new) h next k in_row index (omega (arith, length-map mid number, fits, long)) e

-- ---- cells that those of another table are added to

-- the next cell has the room that it had
pub room_for_cell : {T : Type 0} (number : T → ℤ) (most k : ℕ) (old : List ℤ) (mid other : List T) (x : T) → CellsAdded k old (map number other) (map number mid) → k < length other → x ≡ get_or other k x
    → ((j : ℕ) → unsigned_abs (get_or old j (pos 0) +ℤ get_or (map number other) j (pos 0)) ≤ most) → unsigned_abs (get_or (map number mid) k (pos 0) +ℤ number x) ≤ most
room_for_cell number most k old mid other x h lt e room =
    subst (λ (z : ℤ). unsigned_abs (get_or (map number mid) k (pos 0) +ℤ z) ≤ most) (read_cell number other k x lt e)
    (subst (λ (z : ℤ). unsigned_abs (z +ℤ get_or (map number other) k (pos 0)) ≤ most) (sym (h.rest k (omega arith))) (room k))

-- one cell more
pub cell_added : (k : ℕ) (old others mid new : List ℤ) (z : ℤ) → CellsAdded k old others mid → k < length mid → z ≡ get_or others k (pos 0) → new ≡ set mid k (get_or mid k (pos 0) +ℤ z) → CellsAdded (k + 1) old others new
cell_added k old others mid new z h fits is e = record {
  done = below_more (λ (j : ℕ). get_or new j (pos 0) ≡ get_or old j (pos 0) +ℤ get_or others j (pos 0)) k (λ j lt. other j (omega arith) ∙ h.done j lt) here;
  rest = λ j le. other j (omega arith) ∙ h.rest j (omega arith);
}
  where
    other : (j : ℕ) → j ≢ k → get_or new j (pos 0) ≡ get_or mid j (pos 0)
    other j ne = ap (λ (l : List ℤ). get_or l j (pos 0)) e ∙ get_or-set_other mid k j (get_or mid k (pos 0) +ℤ z) (pos 0) ne

    here : get_or new k (pos 0) ≡ get_or old k (pos 0) +ℤ get_or others k (pos 0)
    here = ap (λ (l : List ℤ). get_or l k (pos 0)) e ∙ (get_or-set_same mid k (get_or mid k (pos 0) +ℤ z) (pos 0) fits ∙ (ap (λ (y : ℤ). y +ℤ z) (h.rest k (omega arith)) ∙ ap (λ (y : ℤ). get_or old k (pos 0) +ℤ y) is))

-- the cells behind the last of the other table gain nothing
pub cells_all_added : {T : Type 0} (number : T → ℤ) (n : ℕ) (old new : List ℤ) (other : List T) → CellsAdded n old (map number other) new → n ≡ length other
    → (k : ℕ) → get_or new k (pos 0) ≡ get_or old k (pos 0) +ℤ get_or (map number other) k (pos 0)
cells_all_added number n old new other h end k =
    ⊎_elim (λ (lt : k < n). h.done k lt)
    (λ (le : n ≤ k). h.rest k le ∙ (plus_zero (get_or old k (pos 0)) ∙ ap (λ (z : ℤ). get_or old k (pos 0) +ℤ z) (sym (get_or_past (map number other) k (pos 0) (omega (arith, le, end, length-map other number))))))
    (cases_lt k n)

-- ---- the parts of a sketch

-- two tables of one shape have as many cells
pub same_size : (m n d e : ℕ) (cells others : List ℤ) → length cells ≡ m * d → length others ≡ n * e → m ≡ n → d ≡ e → length cells ≡ length others
same_size m n d e cells others size size_others rows width = size ∙ (ap (λ (k : ℕ). k * d) rows ∙ (ap (λ (k : ℕ). n * k) width ∙ sym size_others))

-- there is room for items in each cell where there is in the total
pub room_for_items : (most n t s : ℕ) (cells : List ℤ) → ((k : ℕ) → unsigned_abs (get_or cells k (pos 0)) ≤ t) → t ≡ s → s + n ≤ most → (k : ℕ) → unsigned_abs (get_or cells k (pos 0)) + n ≤ most
room_for_items most n t s cells bounded total room k = omega (arith, bounded k, total, room)
