-- What updates of many items leave, and what they mean for a history.
use Rattle.std.proofs.Common.{◌≡◌, ℕ, ◌+◌, ◌-◌, ◌<◌, ◌≤◌, Bool, true, false, cond, List, [], ◌∷◌, length, take, map, ℤ, pos, ◌+ℤ◌, unsigned_abs, refl, sym, ap, ◌∙◌, subst, arith, min}
use Rattle.std.specs.Prelude.{slice_index, ◌==◌, count_by}
use Rattle.std.proofs.lemmas.Int.{ints}
use Rattle.std.proofs.lemmas.List.{take-map, take_min}
use Rattle.std.proofs.lemmas.List.Sums.{count_by-le-length, sum_by-cons}
use Rattle.sketch_countmin.specs.Cells.{RowsCounted}
use Rattle.sketch_countmin.specs.Rows.{cell_at, rows_of}
use Rattle.sketch_countmin.specs.Buckets.{bucket_by, bucket_of}
use Rattle.sketch_countmin.specs.State.{CountState, CountsAll}
use Rattle.sketch_countmin.specs.Table.{IsTable, state_of}
use Rattle.sketch_countmin.specs.History.{CountHistory, all_updated, value_over, absolute_weight, cell_share, of_first}
use Rattle.sketch_countmin.specs.History.CountHistory.{Update}
use Rattle.sketch_countmin.specs.Stands.{StandsFor}
use Rattle.sketch_countmin.proofs.Tables.{read_rows, remade_rows}
use Rattle.sketch_countmin.proofs.Updates.{row_bucket}

-- ---- the items that fit

pub items_that_fit : {T : Type 0} (fed : T → List ℕ) (xs : List T) (total greatest room k : ℕ) → total + room ≡ greatest → k ≡ min room (length xs) → map fed (take k xs) ≡ take (greatest - total) (map fed xs)
items_that_fit fed xs total greatest room k e ek =
    let r : room ≡ greatest - total = omega arith in
    ap (λ (n : ℕ). map fed (take n xs)) ek
    ∙ (ap (map fed) (take_min room xs) ∙ (sym (take-map fed room xs) ∙ ap (λ (n : ℕ). take n (map fed xs)) r))

-- ---- what a history says

-- the value over the byte lists that pass a test
value_all : (f : List ℕ → Bool) (h : CountHistory) (items : List (List ℕ)) → value_over (all_updated h items) f ≡ value_over h f +ℤ pos (count_by f items)
value_all f h [] = omega (arith, ints)
value_all f h (bytes ∷ rest) = value_all f (Update h bytes (pos 1)) rest ∙ (one (f bytes) ∙ ap (λ (n : ℕ). value_over h f +ℤ pos n) (sym (sum_by-cons (λ x. cond (f x) 1 0) bytes rest)))
  where
    one : (t : Bool) → (value_over h f +ℤ cond t (pos 1) (pos 0)) +ℤ pos (count_by f rest) ≡ value_over h f +ℤ pos (cond t 1 0 + count_by f rest)
    one true = omega (arith, ints)
    one false = omega (arith, ints)

weight_all : (h : CountHistory) (items : List (List ℕ)) → absolute_weight (all_updated h items) ≡ absolute_weight h + length items
weight_all h [] = omega arith
weight_all h (bytes ∷ rest) = weight_all (Update h bytes (pos 1)) rest ∙ omega arith

first_all : (f : ℕ → ℕ → ℕ → ℕ) (h : CountHistory) (items : List (List ℕ)) → of_first f (all_updated h items) ≡ of_first f h
first_all f h [] = refl
first_all f h (bytes ∷ rest) = first_all f (Update h bytes (pos 1)) rest

-- what stood for a history stands for it and the items
pub stands_all : (old new : CountState) (items : List (List ℕ)) (h : CountHistory) → CountsAll old items new → StandsFor old h → StandsFor new (all_updated h items)
stands_all old new items h step s = record {
  hashes = step.shape.hashes ∙ (s.hashes ∙ sym (first_all (λ hashes buckets seed. hashes) h items));
  buckets = step.shape.buckets ∙ (s.buckets ∙ sym (first_all (λ hashes buckets seed. buckets) h items));
  seed = step.shape.seed ∙ (s.seed ∙ sym (first_all (λ hashes buckets seed. seed) h items));
  total = step.total ∙ (ap (λ (n : ℕ). n + length items) s.total ∙ sym (weight_all h items));
  cells = λ r lr b lb.
      let there : r < old.hashes = omega (arith, lr, step.shape.hashes) in
      let within : b < old.buckets = omega (arith, lb, step.shape.buckets) in
      subst (λ (d : ℕ). cell_at new.rows r b ≡ cell_share d new.seed (all_updated h items) r b) (sym step.shape.buckets)
      (subst (λ (seed : ℕ). cell_at new.rows r b ≡ cell_share old.buckets seed (all_updated h items) r b) (sym step.shape.seed)
      (step.cells r there b within
      ∙ (ap (λ (z : ℤ). z +ℤ pos (count_by (λ bytes. bucket_of old.buckets old.seed r bytes == b) items)) (s.cells r there b within)
      ∙ sym (value_all (λ bytes. bucket_of old.buckets old.seed r bytes == b) h items))));
}

-- ---- what the cells say

-- the parts are those of a sketch again
pub all_counted : (greatest : ℕ) (row_seeds : List ℕ) (d seed : ℕ) (t t' : ℤ) (old new : List ℤ) (bucket : ℕ → List ℕ → ℕ) (items : List (List ℕ))
    → IsTable greatest row_seeds d seed t old → RowsCounted d bucket items (length row_seeds) old new → length new ≡ length old
    → t' ≡ pos (unsigned_abs t + length items) → unsigned_abs t' ≤ greatest → IsTable greatest row_seeds d seed t' new
all_counted greatest row_seeds d seed t t' old new bucket items i h long sum fits =
    remade_rows greatest row_seeds d seed t t' old new (length items) i long sum fits
    (λ r lr b lb. rw (h.done r lr b lb) (omega (arith, ints, count_by-le-length (λ bytes. bucket r bytes == b) items))) h.rest

-- a count by one of two tests that say the same
count_same : (f g : List ℕ → ℕ) (b : ℕ) (items : List (List ℕ)) → ((bytes : List ℕ) → f bytes ≡ g bytes) → count_by (λ bytes. f bytes == b) items ≡ count_by (λ bytes. g bytes == b) items
count_same f g b [] e = refl
count_same f g b (bytes ∷ rest) e =
    sum_by-cons (λ x. cond (f x == b) 1 0) bytes rest
    ∙ ((λ i. cond (e bytes i == b) 1 0 + count_same f g b rest e i) ∙ sym (sum_by-cons (λ x. cond (g x == b) 1 0) bytes rest))

-- and the sketch that they make has counted the items
pub counts_all_here : (greatest : ℕ) (row_seeds : List ℕ) (d seed : ℕ) (t t' : ℤ) (old new : List ℤ) (items : List (List ℕ))
    → IsTable greatest row_seeds d seed t old → RowsCounted d (λ r. bucket_by d (slice_index row_seeds r)) items (length row_seeds) old new
    → unsigned_abs t' ≡ unsigned_abs t + length items → CountsAll (state_of row_seeds d seed t old) items (state_of row_seeds d seed t' new)
counts_all_here greatest row_seeds d seed t t' old new items i h total = record {
  shape = record { hashes = refl; buckets = refl; seed = refl };
  total = total;
  cells = λ r lr b lb.
      read_rows (length row_seeds) d new r b lr lb ∙ (h.done r lr b lb
      ∙ (ap (λ (z : ℤ). z +ℤ pos (count_by (λ bytes. bucket_by d (slice_index row_seeds r) bytes == b) items)) (sym (read_rows (length row_seeds) d old r b lr lb))
      ∙ ap (λ (n : ℕ). cell_at (rows_of (length row_seeds) d old) r b +ℤ pos n)
      (count_same (bucket_by d (slice_index row_seeds r)) (bucket_of d seed r) b items (λ bytes. row_bucket row_seeds d seed r bytes (i.seeds r lr)))));
}
