-- Items that are counted by 1 in a row, and row after row.
use Rattle.std.proofs.Common.{◌≡◌, ◌≢◌, ℕ, ◌+◌, ◌*◌, ◌<◌, ◌≤◌, Bool, true, false, eqb, List, [], take, map, length, get_or, set, ℤ, pos, ◌+ℤ◌, unsigned_abs, refl, sym, ap, ◌∙◌, subst, arith, get_or-set_other, get_or-set_same, below_more}
use Rattle.std.specs.Prelude.{◌==◌, count_by, slice_index}
use Rattle.std.proofs.lemmas.Int.{ints}
use Rattle.std.proofs.lemmas.Bool.{eqb-true, eqb-false}
use Rattle.std.proofs.lemmas.List.{length-take-le, get_or-map}
use Rattle.std.proofs.lemmas.List.Sums.{count_by-le-length, count_by_more_yes, count_by_more_no}
use Rattle.sketch_countmin.specs.Buckets.{bucket_by}
use Rattle.sketch_countmin.specs.Grid.{GridState, CountsInRow, CountsInRows}
use Rattle.sketch_countmin.specs.Cells.{flat_at, RowCounted, RowsCounted}
use Rattle.sketch_countmin.proofs.RowSteps.{plus_zero, inside}

-- how many of the items have this bucket
abbrev held : (List ℕ → ℕ) → ℕ → List (List ℕ) → ℤ
held bucket b items = pos (count_by (λ bytes. bucket bytes == b) items)

-- the bytes of the item that the code reads
pub read_item : {T : Type 0} (fed : T → List ℕ) (xs : List T) (i : ℕ) (x : T) → i < length xs → x ≡ get_or xs i x → fed x ≡ get_or (map fed xs) i []
read_item fed xs i x lt e = ap fed e ∙ sym (get_or-map fed xs i x [] lt)

-- ---- one row

-- none of the items
pub row_start : (d n : ℕ) (bucket : List ℕ → ℕ) (old : List ℤ) → RowCounted d bucket [] n old old
row_start d n bucket old = record { done = λ b _. plus_zero (flat_at d old n b); before = λ k _. refl; behind = λ k _. refl }

-- the row itself, after one item more
at_item : (d n : ℕ) (bucket : List ℕ → ℕ) (items : List (List ℕ)) (i : ℕ) (old mid : List ℤ) → RowCounted d bucket (take i items) n old mid → i < length items
    → n * d + bucket (get_or items i []) < length mid → (b : ℕ) (t : Bool) → eqb (bucket (get_or items i [])) b ≡ t → b < d
    → flat_at d (set mid (n * d + bucket (get_or items i [])) (get_or mid (n * d + bucket (get_or items i [])) (pos 0) +ℤ pos 1)) n b ≡ flat_at d old n b +ℤ held bucket b (take (i + 1) items)
at_item d n bucket items i old mid h lt fits b true e p =
    let c : ℕ = bucket (get_or items i []) in
    let one : count_by (λ bytes. bucket bytes == b) (take (i + 1) items) ≡ count_by (λ bytes. bucket bytes == b) (take i items) + 1 = count_by_more_yes (λ bytes. bucket bytes == b) items i [] lt e in
    let same : c ≡ b = eqb-true c b e in
    let here : get_or (set mid (n * d + c) (get_or mid (n * d + c) (pos 0) +ℤ pos 1)) (n * d + c) (pos 0) ≡ get_or mid (n * d + c) (pos 0) +ℤ pos 1 = get_or-set_same mid (n * d + c) (get_or mid (n * d + c) (pos 0) +ℤ pos 1) (pos 0) fits in
    ap (λ (k : ℕ). get_or (set mid (n * d + c) (get_or mid (n * d + c) (pos 0) +ℤ pos 1)) (n * d + k) (pos 0)) (sym same)
    ∙ (here ∙ (ap (λ (k : ℕ). get_or mid (n * d + k) (pos 0) +ℤ pos 1) same ∙ (ap (λ (z : ℤ). z +ℤ pos 1) (h.done b p) ∙ omega (arith, ints, one))))
at_item d n bucket items i old mid h lt fits b false e p =
    let c : ℕ = bucket (get_or items i []) in
    let none : count_by (λ bytes. bucket bytes == b) (take (i + 1) items) ≡ count_by (λ bytes. bucket bytes == b) (take i items) = count_by_more_no (λ bytes. bucket bytes == b) items i [] lt e in
    let ne : n * d + b ≢ n * d + c = λ q. eqb-false c b e (omega (arith, q)) in
    get_or-set_other mid (n * d + c) (n * d + b) (get_or mid (n * d + c) (pos 0) +ℤ pos 1) (pos 0) ne
    ∙ (h.done b p ∙ ap (λ (m : ℕ). flat_at d old n b +ℤ pos m) (sym none))

-- one item more
pub row_counted : (d n : ℕ) (bucket : List ℕ → ℕ) (items : List (List ℕ)) (i : ℕ) (old mid new : List ℤ) → RowCounted d bucket (take i items) n old mid → i < length items
    → (k : ℕ) → bucket (get_or items i []) < d → k ≡ n * d + bucket (get_or items i []) → k < length mid → new ≡ set mid k (get_or mid k (pos 0) +ℤ pos 1)
    → RowCounted d bucket (take (i + 1) items) n old new
row_counted d n bucket items i old mid new h lt k in_row index fits e =
    subst (λ (cells : List ℤ). RowCounted d bucket (take (i + 1) items) n old cells) (ap (λ (j : ℕ). set mid j (get_or mid j (pos 0) +ℤ pos 1)) (sym index) ∙ sym e) record {
      done = λ b p. at_item d n bucket items i old mid h lt (omega (arith, index, fits)) b (eqb c b) refl p;
      before = λ j lj. let ne : j ≢ n * d + c = omega arith in get_or-set_other mid (n * d + c) j (get_or mid (n * d + c) (pos 0) +ℤ pos 1) (pos 0) ne ∙ h.before j lj;
      behind = λ j le. let ne : j ≢ n * d + c = omega (arith, in_row) in get_or-set_other mid (n * d + c) j (get_or mid (n * d + c) (pos 0) +ℤ pos 1) (pos 0) ne ∙ h.behind j le;
    }
  where
    c : ℕ
    c = bucket (get_or items i [])

-- there is room for one more
pub room_in_row : (d n greatest : ℕ) (bucket : List ℕ → ℕ) (items : List (List ℕ)) (i : ℕ) (old mid : List ℤ) (b k : ℕ) → RowCounted d bucket (take i items) n old mid → i < length items
    → b < d → k ≡ n * d + b → unsigned_abs (flat_at d old n b) + length items ≤ greatest → unsigned_abs (get_or mid k (pos 0) +ℤ pos 1) ≤ greatest
room_in_row d n greatest bucket items i old mid b k h lt p index room =
    let few : count_by (λ bytes. bucket bytes == b) (take i items) ≤ length (take i items) = count_by-le-length (λ bytes. bucket bytes == b) (take i items) in
    let here : get_or mid k (pos 0) ≡ flat_at d old n b +ℤ held bucket b (take i items) = ap (λ (j : ℕ). get_or mid j (pos 0)) index ∙ h.done b p in
    rw here (omega (arith, ints, few, length-take-le i items (omega arith), room))

-- ---- row after row

-- one row more
pub rows_counted : (d : ℕ) (bucket : ℕ → List ℕ → ℕ) (items : List (List ℕ)) (n : ℕ) (old mid new : List ℤ) → RowsCounted d bucket items n old mid → RowCounted d (bucket n) items n mid new → RowsCounted d bucket items (n + 1) old new
rows_counted d bucket items n old mid new h row = record {
  done = below_more (λ (r : ℕ). (b : ℕ) → b < d → flat_at d new r b ≡ flat_at d old r b +ℤ held (bucket r) b items) n
      (λ r lt b p. row.before (r * d + b) (inside d n r b (n * d) refl lt p) ∙ h.done r lt b p)
      (λ b p. row.done b p ∙ ap (λ (z : ℤ). z +ℤ held (bucket n) b items) (h.rest (n * d + b) (omega arith)));
  rest = λ k le. row.behind k (omega arith) ∙ h.rest k (omega arith);
}

-- and so in a grid
pub grid_rows_counted : (items : List (List ℕ)) (n : ℕ) (old mid new : GridState) → CountsInRows items n old mid → CountsInRow items n mid new → CountsInRows items (n + 1) old new
grid_rows_counted items n old mid new h row = record {
  shape = record { row_seeds = row.shape.row_seeds ∙ h.shape.row_seeds; buckets = row.shape.buckets ∙ h.shape.buckets; size = row.shape.size ∙ h.shape.size };
  counted = rows_counted old.buckets (λ r. bucket_by old.buckets (slice_index old.row_seeds r)) items n old.cells mid.cells new.cells h.counted
      (subst (λ (d : ℕ). RowCounted d (bucket_by d (slice_index old.row_seeds n)) items n mid.cells new.cells) h.shape.buckets
      (subst (λ (seeds : List ℕ). RowCounted mid.buckets (bucket_by mid.buckets (slice_index seeds n)) items n mid.cells new.cells) h.shape.row_seeds row.counted));
}
