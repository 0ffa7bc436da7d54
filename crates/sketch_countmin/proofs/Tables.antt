-- A list of cells and the rows that it makes.
use Rattle.std.proofs.Common.{◌≡◌, ◌≢◌, ◌^◌, ℕ, zero, suc, ◌+◌, ◌-◌, ◌*◌, ◌/◌, ◌%◌, ◌<◌, ◌≤◌, List, ◌∷◌, length, get_or, map, replicate, take, drop, All, ℤ, pos, unsigned_abs, refl, sym, ap, ◌∙◌, subst, arith, ⊎_elim}
use Rattle.std.proofs.lemmas.Bool.{cases_lt}
use Rattle.std.proofs.lemmas.List.{get_or-take, get_or-drop, get_or_past, length-take-le, length-take, length-drop, length-replicate, take-map, drop-map, take-replicate, drop-replicate, get_or-replicate, ext_get_or}
use Rattle.std.proofs.lemmas.List.Elements.{All-cons}
use Rattle.std.proofs.lemmas.Nat.{div-add-mod', div_below, mod_below}
use Rattle.std.specs.Prelude.{slice_index}
use Rattle.sketch_base.specs.Hashes.{seed_hash}
use Rattle.sketch_countmin.specs.Buckets.{row_seed}
use Rattle.sketch_countmin.specs.Rows.{cell_at, rows_of}
use Rattle.sketch_countmin.specs.State.{CountState, IsCountState, empty_state}
use Rattle.sketch_countmin.specs.Table.{IsTable, IsTableShape, state_of}

-- what holds of each row and bucket holds of each index
pub by_index : (P : ℕ → Type 0) (d rows : ℕ) → 0 < d → ((r : ℕ) → r < rows → (b : ℕ) → b < d → P (r * d + b)) → (k : ℕ) → k < rows * d → P k
by_index P d rows pos_d h k lt = subst P (div-add-mod' k d) (h (k / d) (div_below k d rows pos_d lt) (k % d) (mod_below k d pos_d))

-- a cell of a row is where it lies in the list
pub read_rows : (m d : ℕ) (cells : List ℤ) (r b : ℕ) → r < m → b < d → cell_at (rows_of m d cells) r b ≡ get_or cells (r * d + b) (pos 0)
unfolding rows_of
read_rows zero d cells r b lr lb = absurd (omega arith)
read_rows (suc m) d cells zero b lr lb = let first : b ≡ 0 * d + b = omega arith in get_or-take d cells b (pos 0) lb ∙ ap (λ (k : ℕ). get_or cells k (pos 0)) first
read_rows (suc m) d cells (suc r) b lr lb =
    let later : d + (r * d + b) ≡ suc r * d + b = omega arith in
    read_rows m d (drop d cells) r b (omega arith) lb ∙ (get_or-drop d cells (r * d + b) (pos 0) ∙ ap (λ (k : ℕ). get_or cells k (pos 0)) later)

-- there is a row for each
pub length-rows_of : (m d : ℕ) (cells : List ℤ) → length (rows_of m d cells) ≡ m
unfolding rows_of
length-rows_of zero d cells = refl
length-rows_of (suc m) d cells = ap suc (length-rows_of m d (drop d cells))

-- each row is as wide
pub rows_width : (m d : ℕ) (cells : List ℤ) → length cells ≡ m * d → All (λ row. length row ≡ d) (rows_of m d cells)
unfolding rows_of
rows_width zero d cells size = λ k row lt. absurd (omega (arith, lt))
rows_width (suc m) d cells size =
    All-cons (λ (row : List ℤ). length row ≡ d) (take d cells) (rows_of m d (drop d cells)) (length-take-le d cells (omega arith)) (rows_width m d (drop d cells) (omega (arith, length-drop d cells)))

-- what holds of each cell of the list and of 0 holds of each cell of the rows
pub rows_all : (P : ℤ → Type 0) → P (pos 0) → (m d : ℕ) (cells : List ℤ) → ((k : ℕ) → P (get_or cells k (pos 0))) → (r b : ℕ) → P (cell_at (rows_of m d cells) r b)
unfolding rows_of
rows_all P none zero d cells h r b = none
rows_all P none (suc m) d cells h zero b =
    ⊎_elim (λ (lt : b < d). subst P (sym (get_or-take d cells b (pos 0) lt)) (h b))
    (λ (le : d ≤ b). subst P (sym (get_or_past (take d cells) b (pos 0) (omega (arith, length-take d cells)))) none) (cases_lt b d)
rows_all P none (suc m) d cells h (suc r) b = rows_all P none m d (drop d cells) (λ k. subst P (sym (get_or-drop d cells k (pos 0))) (h (d + k))) r b

-- a function of each cell
pub rows_of-map : (f : ℤ → ℤ) (m d : ℕ) (cells : List ℤ) → rows_of m d (map f cells) ≡ map (map f) (rows_of m d cells)
unfolding rows_of
rows_of-map f zero d cells = refl
rows_of-map f (suc m) d cells =
    ap (λ (row : List ℤ). row ∷ rows_of m d (drop d (map f cells))) (take-map f d cells)
    ∙ ap (λ (rows : List (List ℤ)). map f (take d cells) ∷ rows) (ap (rows_of m d) (drop-map f d cells) ∙ rows_of-map f m d (drop d cells))

-- the same number everywhere
pub rows_of-replicate : (m d : ℕ) (z : ℤ) → rows_of m d (replicate (m * d) z) ≡ replicate m (replicate d z)
unfolding rows_of
rows_of-replicate zero d z = refl
rows_of-replicate (suc m) d z =
    let within : d ≤ suc m * d = omega arith in
    let rest : suc m * d - d ≡ m * d = omega arith in
    ap (λ (row : List ℤ). row ∷ rows_of m d (drop d (replicate (suc m * d) z))) (take-replicate d (suc m * d) z within)
    ∙ ap (λ (rows : List (List ℤ)). replicate d z ∷ rows) (ap (rows_of m d) (drop-replicate d (suc m * d) z ∙ ap (λ (k : ℕ). replicate k z) rest) ∙ rows_of-replicate m d z)

-- lists of one length with the same rows are the same
pub rows_of-same : (m d : ℕ) (xs ys : List ℤ) → 0 < d → length xs ≡ m * d → length ys ≡ m * d → rows_of m d xs ≡ rows_of m d ys → xs ≡ ys
rows_of-same m d xs ys p lx ly e = ext_get_or (pos 0) xs ys (lx ∙ sym ly) (λ k lt. by_index (λ (k : ℕ). get_or xs k (pos 0) ≡ get_or ys k (pos 0)) d m p at k (omega (arith, lt, lx)))
  where
    at : (r : ℕ) → r < m → (b : ℕ) → b < d → get_or xs (r * d + b) (pos 0) ≡ get_or ys (r * d + b) (pos 0)
    at r lr b lb = sym (read_rows m d xs r b lr lb) ∙ (ap (λ (rows : List (List ℤ)). cell_at rows r b) e ∙ read_rows m d ys r b lr lb)

-- the parts of a sketch make one
pub is_state : (greatest : ℕ) (row_seeds : List ℕ) (d seed : ℕ) (total : ℤ) (cells : List ℤ) → IsTable greatest row_seeds d seed total cells → IsCountState greatest (state_of row_seeds d seed total cells)
is_state greatest row_seeds d seed total cells i = record {
  some_hashes = i.some_rows;
  few_hashes = i.few_rows;
  some_buckets = i.some_buckets;
  few_cells = i.few_cells;
  seeded = i.seeded;
  height = length-rows_of (length row_seeds) d cells;
  width = rows_width (length row_seeds) d cells i.size;
  fits = i.fits;
  bounded = λ r b. rows_all (λ (z : ℤ). unsigned_abs z ≤ unsigned_abs total) (omega arith) (length row_seeds) d cells i.bounded r b;
}

-- and of each sketch that shows it
pub state_shown : (greatest : ℕ) (row_seeds : List ℕ) (d seed : ℕ) (total : ℤ) (cells : List ℤ) (s : CountState) → state_of row_seeds d seed total cells ≡ s
    → IsTable greatest row_seeds d seed total cells → IsCountState greatest s
state_shown greatest row_seeds d seed total cells s e i =
    subst (λ (t : CountState). IsCountState greatest t) e (is_state greatest row_seeds d seed total cells i)

-- zeros read as zeros, also past their end
pub zeros_read : (n k : ℕ) → get_or (replicate n (pos 0)) k (pos 0) ≡ pos 0
zeros_read n k = ⊎_elim (λ (lt : k < n). get_or-replicate n k (pos 0) (pos 0) lt) (λ (le : n ≤ k). get_or_past (replicate n (pos 0)) k (pos 0) (omega (arith, length-replicate n (pos 0), le))) (cases_lt k n)

-- the parts are those of a sketch again, where the total and the cells changed
pub remade : (greatest : ℕ) (row_seeds : List ℕ) (d seed : ℕ) (t t' : ℤ) (old new : List ℤ) → IsTable greatest row_seeds d seed t old → length new ≡ length old
    → t' ≡ pos (unsigned_abs t') → unsigned_abs t' ≤ greatest → ((k : ℕ) → unsigned_abs (get_or new k (pos 0)) ≤ unsigned_abs t') → IsTable greatest row_seeds d seed t' new
remade greatest row_seeds d seed t t' old new i long total_is fits bounded = record {
  shape = i.shape;
  size = long ∙ i.size;
  total_is = total_is;
  fits = fits;
  bounded = bounded;
}

-- and where no cell of a row grew by more than the total did, and the other cells are as they were
pub remade_rows : (greatest : ℕ) (row_seeds : List ℕ) (d seed : ℕ) (t t' : ℤ) (old new : List ℤ) (w : ℕ) → IsTable greatest row_seeds d seed t old → length new ≡ length old
    → t' ≡ pos (unsigned_abs t + w) → unsigned_abs t' ≤ greatest
    → ((r : ℕ) → r < length row_seeds → (b : ℕ) → b < d → unsigned_abs (get_or new (r * d + b) (pos 0)) ≤ unsigned_abs (get_or old (r * d + b) (pos 0)) + w)
    → ((k : ℕ) → length row_seeds * d ≤ k → get_or new k (pos 0) ≡ get_or old k (pos 0)) → IsTable greatest row_seeds d seed t' new
remade_rows greatest row_seeds d seed t t' old new w i long sum fits grown rest =
    remade greatest row_seeds d seed t t' old new i long (sum ∙ ap pos (sym total)) fits
    (λ k. ⊎_elim (λ (lt : k < length row_seeds * d). within k lt) (λ (le : length row_seeds * d ≤ k). past k le) (cases_lt k (length row_seeds * d)))
  where
    total : unsigned_abs t' ≡ unsigned_abs t + w
    total = ap unsigned_abs sum

    at : (r : ℕ) → r < length row_seeds → (b : ℕ) → b < d → unsigned_abs (get_or new (r * d + b) (pos 0)) ≤ unsigned_abs t'
    at r lr b lb = omega (arith, grown r lr b lb, i.bounded (r * d + b), total)

    within : (k : ℕ) → k < length row_seeds * d → unsigned_abs (get_or new k (pos 0)) ≤ unsigned_abs t'
    within k lt = by_index (λ (k : ℕ). unsigned_abs (get_or new k (pos 0)) ≤ unsigned_abs t') d (length row_seeds) (omega (arith, i.some_buckets)) at k lt

    past : (k : ℕ) → length row_seeds * d ≤ k → unsigned_abs (get_or new k (pos 0)) ≤ unsigned_abs t'
    past k le = rw (rest k le) (omega (arith, i.bounded k, total))

-- seeds of as many rows as an allowed shape has, and its number of buckets
pub shape_is : (row_seeds : List ℕ) (d seed m n : ℕ) → length row_seeds ≡ m → d ≡ n → 1 ≤ m → m ≤ 255 → 3 ≤ n → m * n < 2 ^ 30 → seed_hash seed ≢ 0
    → ((r : ℕ) → r < m → slice_index row_seeds r ≡ row_seed r seed) → IsTableShape row_seeds d seed
shape_is row_seeds d seed m n height width some few wide small seeded right =
    let area : length row_seeds * d ≡ m * n = ap (λ (k : ℕ). k * d) height ∙ ap (λ (k : ℕ). m * k) width in
    record {
      some_rows = omega (arith, height);
      few_rows = omega (arith, height);
      some_buckets = omega (arith, width);
      few_cells = omega (arith, area);
      seeded = seeded;
      seeds = λ r lt. right r (omega (arith, lt, height));
    }

-- the parts of an empty sketch
pub empty_is : (greatest : ℕ) (row_seeds : List ℕ) (d seed : ℕ) (z : ℤ) (cells : List ℤ) → IsTableShape row_seeds d seed → z ≡ pos 0 → cells ≡ replicate (length row_seeds * d) (pos 0) → IsTable greatest row_seeds d seed z cells
empty_is greatest row_seeds d seed z cells shape zero_is cells_are = record {
  shape = shape;
  size = ap length cells_are ∙ length-replicate (length row_seeds * d) (pos 0);
  total_is = zero_is ∙ sym (ap (λ (t : ℤ). pos (unsigned_abs t)) zero_is);
  fits = rw (zero_is) (omega arith);
  bounded = λ k. rw (cells_are, zeros_read (length row_seeds * d) k) (omega arith);
}

-- and the sketch that they make
pub empty_value : (row_seeds : List ℕ) (m d seed : ℕ) (z : ℤ) (cells : List ℤ) → length row_seeds ≡ m → z ≡ pos 0 → cells ≡ replicate (length row_seeds * d) (pos 0) → state_of row_seeds d seed z cells ≡ empty_state m d seed
empty_value row_seeds m d seed z cells height zero_is cells_are =
    ap (λ (t : ℤ). state_of row_seeds d seed t cells) zero_is
    ∙ (ap (λ (xs : List ℤ). state_of row_seeds d seed (pos 0) xs) cells_are
    ∙ (ap (λ (rows : List (List ℤ)). filled (length row_seeds) rows) (rows_of-replicate (length row_seeds) d (pos 0))
    ∙ ap (λ (n : ℕ). filled n (replicate n (replicate d (pos 0)))) height))
  where
    filled : ℕ → List (List ℤ) → CountState
    filled n rows = record { hashes = n; buckets = d; seed = seed; total = 0; rows = rows }
