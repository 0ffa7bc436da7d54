-- What halving and decay leave.
use Rattle.std.proofs.Common.{◌≡◌, ℕ, zero, suc, ◌*◌, ◌/◌, ◌<◌, ◌≤◌, List, [], ◌∷◌, length, get_or, map, ℤ, pos, negsuc, unsigned_abs, refl, sym, ap, ◌∙◌, arith}
use Rattle.std.specs.Prelude.{◌≤ℤ◌}
use Rattle.std.proofs.Math.Nat.{le-div_iff_mul-le, mul-div_cancel, zero-mul, zero-div}
use Rattle.std.proofs.lemmas.Int.{ints}
use Rattle.std.proofs.lemmas.List.{length-map}
use Rattle.std.proofs.lemmas.Nat.{mul-le, div-add-mod'}
use Rattle.sketch_countmin.specs.Values.{scaled, halved}
use Rattle.sketch_countmin.specs.Rows.{cell_at, rows_of}
use Rattle.sketch_countmin.specs.State.{CountState, halved_state, decayed_state}
use Rattle.sketch_countmin.specs.Table.{IsTable, state_of}
use Rattle.sketch_countmin.proofs.Numbers.{scaled_below}
use Rattle.sketch_countmin.proofs.Tables.{rows_of-map, remade}

-- a function that keeps 0 is read at each index, also past the end
pub read_map : (f : ℤ → ℤ) → f (pos 0) ≡ pos 0 → (xs : List ℤ) (k : ℕ) → get_or (map f xs) k (pos 0) ≡ f (get_or xs k (pos 0))
read_map f z [] k = sym z
read_map f z (x ∷ xs) zero = refl
read_map f z (x ∷ xs) (suc k) = read_map f z xs k

-- and at each cell of a table
pub cell_map : (f : ℤ → ℤ) → f (pos 0) ≡ pos 0 → (rows : List (List ℤ)) (r b : ℕ) → cell_at (map (map f) rows) r b ≡ f (cell_at rows r b)
cell_map f z [] r b = sym z
cell_map f z (row ∷ rows) zero b = read_map f z row b
cell_map f z (row ∷ rows) (suc r) b = cell_map f z rows r b

-- nothing scaled is nothing
pub scaled_zero : (n d : ℕ) → scaled n d (pos 0) ≡ pos 0
scaled_zero n d = ap pos (ap (λ (k : ℕ). k / d) (zero-mul n) ∙ zero-div d)

-- what is not negative, by a fraction of one, is itself
scaled_same : (n d : ℕ) → 0 < n → n ≡ d → (z : ℤ) → pos 0 ≤ℤ z → z ≡ scaled n d z
scaled_same n d p e (pos a) low = ap pos (sym (ap (λ (k : ℕ). a * n / k) (sym e) ∙ mul-div_cancel a p))
scaled_same n d p e (negsuc a) low = absurd (omega (arith, ints))

-- and so are cells
pub scaled_whole : {T : Type 0} (number : T → ℤ) → ((x : T) → pos 0 ≤ℤ number x) → (n d : ℕ) → 0 < n → n ≡ d → (xs : List T) → map number xs ≡ map (scaled n d) (map number xs)
scaled_whole number h n d p e [] = refl
scaled_whole number h n d p e (x ∷ xs) = λ i. scaled_same n d p e (number x) (h x) i ∷ scaled_whole number h n d p e xs i

-- the cells of a type without negative numbers are not negative
pub cells_nonnegative : {T : Type 0} (number : T → ℤ) → ((x : T) → pos 0 ≤ℤ number x) → (xs : List T) (k : ℕ) → pos 0 ≤ℤ get_or (map number xs) k (pos 0)
cells_nonnegative number h [] k = omega (arith, ints)
cells_nonnegative number h (x ∷ xs) zero = h x
cells_nonnegative number h (x ∷ xs) (suc k) = cells_nonnegative number h xs k

-- division keeps the order
pub div_le : (m n d : ℕ) → 0 < d → m ≤ n → m / d ≤ n / d
div_le m n d p le = (le-div_iff_mul-le p).1 (omega (arith, div-add-mod' m d, le))

-- a scaled number is no further from zero than the scaled bound
scaled_bound : (n d : ℕ) → 0 < d → (z : ℤ) (t : ℕ) → pos 0 ≤ℤ z → unsigned_abs z ≤ t → unsigned_abs (scaled n d z) ≤ t * n / d
scaled_bound n d q (pos a) t p h = div_le (a * n) (t * n) d q (mul-le a n t n h (omega arith))
scaled_bound n d q (negsuc a) t p h = absurd (omega (arith, ints))

-- the same by halves
halved_bound : (z : ℤ) (t : ℕ) → pos 0 ≤ℤ z → unsigned_abs z ≤ t → unsigned_abs (halved z) ≤ t / 2
halved_bound (pos a) t p h = omega arith
halved_bound (negsuc a) t p h = absurd (omega (arith, ints))

-- the parts are those of a sketch again, where a function makes each cell and the total no greater
pub shrunk : (greatest : ℕ) (row_seeds : List ℕ) (d seed : ℕ) (t t' : ℤ) (old : List ℤ) (f : ℤ → ℤ) → f (pos 0) ≡ pos 0
    → IsTable greatest row_seeds d seed t old → t' ≡ pos (unsigned_abs t') → unsigned_abs t' ≤ unsigned_abs t
    → ((k : ℕ) → unsigned_abs (f (get_or old k (pos 0))) ≤ unsigned_abs t') → IsTable greatest row_seeds d seed t' (map f old)
shrunk greatest row_seeds d seed t t' old f none i total_is less bound =
    remade greatest row_seeds d seed t t' old (map f old) i (length-map old f) total_is (omega (arith, less, i.fits)) (λ k. rw (read_map f none old k) (bound k))

-- by a fraction
pub decayed_is : (greatest : ℕ) (row_seeds : List ℕ) (d seed : ℕ) (t t' : ℤ) (old : List ℤ) (n m : ℕ) → 0 < n → n ≤ m
    → IsTable greatest row_seeds d seed t old → ((k : ℕ) → pos 0 ≤ℤ get_or old k (pos 0)) → t' ≡ scaled n m t → IsTable greatest row_seeds d seed t' (map (scaled n m) old)
decayed_is greatest row_seeds d seed t t' old n m p le i low e =
    let total : t' ≡ pos (unsigned_abs t * n / m) = e ∙ ap (scaled n m) i.total_is in
    let same : unsigned_abs t' ≡ unsigned_abs t * n / m = ap unsigned_abs total in
    shrunk greatest row_seeds d seed t t' old (scaled n m) (scaled_zero n m) i (total ∙ ap pos (sym same)) (omega (arith, same, scaled_below (unsigned_abs t) n m p le))
    (λ k. rw same (scaled_bound n m (omega arith) (get_or old k (pos 0)) (unsigned_abs t) (low k) (i.bounded k)))

-- by halves
pub halved_is : (greatest : ℕ) (row_seeds : List ℕ) (d seed : ℕ) (t t' : ℤ) (old : List ℤ)
    → IsTable greatest row_seeds d seed t old → ((k : ℕ) → pos 0 ≤ℤ get_or old k (pos 0)) → t' ≡ halved t → IsTable greatest row_seeds d seed t' (map halved old)
halved_is greatest row_seeds d seed t t' old i low e =
    let total : t' ≡ pos (unsigned_abs t / 2) = e ∙ ap halved i.total_is in
    let same : unsigned_abs t' ≡ unsigned_abs t / 2 = ap unsigned_abs total in
    shrunk greatest row_seeds d seed t t' old halved refl i (total ∙ ap pos (sym same)) (omega (arith, same))
    (λ k. rw same (halved_bound (get_or old k (pos 0)) (unsigned_abs t) (low k) (i.bounded k)))

-- what the parts make, with a total and rows
mapped : List ℕ → ℕ → ℕ → ℕ → List (List ℤ) → CountState
mapped row_seeds d seed total rows = record { hashes = length row_seeds; buckets = d; seed = seed; total = total; rows = rows }

-- the sketch that the parts make
pub decayed_value : (greatest : ℕ) (row_seeds : List ℕ) (d seed : ℕ) (t t' : ℤ) (old new : List ℤ) (n m : ℕ) → IsTable greatest row_seeds d seed t old → t' ≡ scaled n m t → new ≡ map (scaled n m) old
    → state_of row_seeds d seed t' new ≡ decayed_state n m (state_of row_seeds d seed t old)
unfolding mapped
decayed_value greatest row_seeds d seed t t' old new n m i e cells =
    let total : unsigned_abs t' ≡ unsigned_abs t * n / m = ap unsigned_abs (e ∙ ap (scaled n m) i.total_is) in
    ap (λ (k : ℕ). mapped row_seeds d seed k (rows_of (length row_seeds) d new)) total
    ∙ ap (λ (rows : List (List ℤ)). mapped row_seeds d seed (unsigned_abs t * n / m) rows) (ap (rows_of (length row_seeds) d) cells ∙ rows_of-map (scaled n m) (length row_seeds) d old)

pub halved_value : (greatest : ℕ) (row_seeds : List ℕ) (d seed : ℕ) (t t' : ℤ) (old new : List ℤ) → IsTable greatest row_seeds d seed t old → t' ≡ halved t → new ≡ map halved old
    → state_of row_seeds d seed t' new ≡ halved_state (state_of row_seeds d seed t old)
unfolding mapped
halved_value greatest row_seeds d seed t t' old new i e cells =
    let total : unsigned_abs t' ≡ unsigned_abs t / 2 = ap unsigned_abs (e ∙ ap halved i.total_is) in
    ap (λ (k : ℕ). mapped row_seeds d seed k (rows_of (length row_seeds) d new)) total
    ∙ ap (λ (rows : List (List ℤ)). mapped row_seeds d seed (unsigned_abs t / 2) rows) (ap (rows_of (length row_seeds) d) cells ∙ rows_of-map halved (length row_seeds) d old)
