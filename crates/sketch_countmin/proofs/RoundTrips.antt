-- A spelled image is an image: each field is read again as it was written, and all checks pass.
use Rattle.std.proofs.Common.{◌≡◌, ◌≢◌, ℕ, ◌+◌, ◌*◌, ◌<◌, ◌≤◌, ◌^◌, ◌==◌, Bool, true, false, leb, List, [], ◌∷◌, ◌++◌, All, length, take, drop, get_or, replicate, Option, None, ℤ, pos, unsigned_abs, ◌≤ℤ◌, refl, sym, ap, subst, ◌∙◌, append_assoc, arith, length-append, eq-eqb, eqb-true}
use Rattle.std.specs.Prelude.{nat_le, nat_lt, int_le}
use Rattle.std.specs.List.{flat_map}
use Rattle.std.proofs.lemmas.Bool.{le-leb, lt-ltb, ne_eqb, false≢true}
use Rattle.std.proofs.lemmas.Int.{ints}
use Rattle.std.proofs.lemmas.List.{append-nil, length-replicate, get_or-replicate}
use Rattle.std.proofs.lemmas.List.Concat.{flat_map-cons}
use Rattle.std.proofs.lemmas.List.Elements.{All-head, All-tail, All-from_get_or}
use Rattle.std.proofs.lemmas.Nat.{from_le_bytes-to_le_bytes_2, from_le_bytes-to_le_bytes_4, mod_below, mul-le}
use Rattle.std.proofs.Math.Seq.{take-append_seam, drop-append_seam}
use Rattle.sketch_base.specs.Checks.{first_failing, or_else}
use Rattle.sketch_base.specs.Fields.{le_at}
use Rattle.sketch_base.specs.Hashes.{seed_hash}
use Rattle.sketch_base.specs.declared.fault.Fault.{Fault}
use Rattle.sketch_countmin.specs.Equality.{same_parts}
use Rattle.sketch_countmin.specs.Image.{IsImage, ReadsFront, preamble, prefix_bytes, all_cells, numbers_of, number_at, numbers_in, buckets_at, seed_hash_at, total_at, cells_at, value_at, is_in_range, total_checks, cell_checks, cells_checks, early_fault, late_fault}
use Rattle.sketch_countmin.specs.Laws.{SpelledIsImage, SpelledIsFront}
use Rattle.sketch_countmin.specs.Rows.{cell_at, rows_of}
use Rattle.sketch_countmin.specs.State.{CountState, IsCountState}
use Rattle.sketch_countmin.specs.Values.{InRange, bytes_of, number_in}
use Rattle.sketch_countmin.proofs.Reading.{first_failing-append, passes_test, in_range_test, cell_passes}
use Rattle.sketch_countmin.proofs.States.{rows_same, zero_cells}
use Rattle.sketch_countmin.proofs.Tables.{by_index, read_rows}

-- ---- the fields are read as they were written, whatever stands behind them

module _ (flags num_buckets num_hashes hash : ℕ) (tail : List ℕ) where
  buckets_back : num_buckets < 2 ^ 32 → buckets_at (preamble flags num_buckets num_hashes hash ++ tail) ≡ num_buckets
  unfolding le_at
  buckets_back fits = from_le_bytes-to_le_bytes_4 num_buckets fits

  hash_back : hash < 2 ^ 16 → seed_hash_at (preamble flags num_buckets num_hashes hash ++ tail) ≡ hash
  unfolding le_at
  hash_back fits = from_le_bytes-to_le_bytes_2 hash fits

  length_back : length (preamble flags num_buckets num_hashes hash ++ tail) ≡ 16 + length tail
  length_back = length-append (preamble flags num_buckets num_hashes hash) tail

  total_back : (least z : ℤ) (rest : List ℕ) → tail ≡ bytes_of z ++ rest → number_in least (bytes_of z) ≡ z → total_at least (preamble flags num_buckets num_hashes hash ++ tail) ≡ z
  unfolding number_at
  total_back least z rest is fits = rw is fits

  drop_back : (z : ℤ) (rest : List ℕ) → tail ≡ bytes_of z ++ rest → drop 24 (preamble flags num_buckets num_hashes hash ++ tail) ≡ rest
  drop_back z rest is = rw is refl

-- a hash of a seed has 16 bits
hash_fits : (seed : ℕ) → seed_hash seed < 2 ^ 16
unfolding seed_hash
hash_fits seed = mod_below _ (2 ^ 16) (omega arith)

-- numbers are read as they were written, whatever stands behind them
numbers_back : (least : ℤ) (greatest : ℕ) → ((z : ℤ) → InRange least greatest z → number_in least (bytes_of z) ≡ z) → (zs : List ℤ) (rest : List ℕ) → All (InRange least greatest) zs → numbers_in least (length zs) (flat_map bytes_of zs ++ rest) ≡ zs
unfolding number_at
numbers_back least greatest back [] rest fit = refl
numbers_back least greatest back (z ∷ zs) rest fit = rw (back z (All-head (InRange least greatest) z zs fit), numbers_back least greatest back zs rest (All-tail (InRange least greatest) z zs fit)) refl

pub length-bytes : (zs : List ℤ) → length (flat_map bytes_of zs) ≡ 8 * length zs
length-bytes [] = refl
length-bytes (z ∷ zs) = omega (arith, length-append (bytes_of z) (flat_map bytes_of zs), length-bytes zs)

-- ---- the cells of rows, row by row

rows_back : (d : ℕ) (rows : List (List ℤ)) → All (λ row. length row ≡ d) rows → rows_of (length rows) d (all_cells rows) ≡ rows
unfolding rows_of
rows_back d [] wide = refl
rows_back d (row ∷ rows) wide =
    let cells = all_cells rows in
    let width : length row ≡ d = All-head (λ (r : List ℤ). length r ≡ d) row rows wide in
    let first : take d (row ++ cells) ≡ row = ap (λ (n : ℕ). take n (row ++ cells)) (sym width) ∙ take-append_seam row cells in
    let rest : drop d (row ++ cells) ≡ cells = ap (λ (n : ℕ). drop n (row ++ cells)) (sym width) ∙ drop-append_seam row cells in
    rw (first, rest, rows_back d rows (All-tail (λ (r : List ℤ). length r ≡ d) row rows wide)) refl

pub length-all_cells : (d : ℕ) (rows : List (List ℤ)) → All (λ row. length row ≡ d) rows → length (all_cells rows) ≡ length rows * d
length-all_cells d [] wide = omega arith
length-all_cells d (row ∷ rows) wide =
    omega (arith, length-append row (all_cells rows), All-head (λ (r : List ℤ). length r ≡ d) row rows wide, length-all_cells d rows (All-tail (λ (r : List ℤ). length r ≡ d) row rows wide))

-- what holds of each cell of the rows holds of each of all cells
all_hold : (P : ℤ → Type 0) (d : ℕ) (rows : List (List ℤ)) → 0 < d → All (λ row. length row ≡ d) rows → ((r b : ℕ) → P (cell_at rows r b)) → All P (all_cells rows)
all_hold P d rows some wide h =
    let cells = all_cells rows in
    All-from_get_or P cells (pos 0) (λ k lt. by_index (λ k. P (get_or cells k (pos 0))) d (length rows) some
    (λ r lr b lb. subst P (ap (λ (rs : List (List ℤ)). cell_at rs r b) (sym (rows_back d rows wide)) ∙ read_rows (length rows) d cells r b lr lb) (h r b)) k (omega (arith, lt, length-all_cells d rows wide)))

-- rows of zeros
zero_rows : (m d : ℕ) (rows : List (List ℤ)) → length rows ≡ m → All (λ row. length row ≡ d) rows → ((r b : ℕ) → cell_at rows r b ≡ pos 0) → rows ≡ replicate m (replicate d (pos 0))
zero_rows m d rows height wide none = rows_same m d rows (replicate m (replicate d (pos 0))) height (length-replicate m (replicate d (pos 0))) wide
    (All-from_get_or (λ (row : List ℤ). length row ≡ d) (replicate m (replicate d (pos 0))) [] (λ i lt. ap length (get_or-replicate m i (replicate d (pos 0)) [] (omega (arith, lt, length-replicate m (replicate d (pos 0))))) ∙ length-replicate d (pos 0)))
    (λ r lr b lb. none r b ∙ sym (ap (λ (row : List ℤ). get_or row b (pos 0)) (get_or-replicate m r (replicate d (pos 0)) [] lr) ∙ get_or-replicate d b (pos 0) (pos 0) lb))

-- ---- the checks pass

total_passes : (least : ℤ) (greatest t : ℕ) → least ≤ℤ pos 0 → t ≤ greatest → first_failing (total_checks least greatest (pos t)) ≡ None
total_passes least greatest t low fits =
    let range : is_in_range least greatest (pos t) ≡ true = in_range_test least greatest (pos t) (omega (arith, ints), omega (arith, ints)) in
    let some : int_le (pos 0) (pos t) ≡ true = passes_test (pos 0) (pos t) (omega (arith, ints)) in
    rw (range, some) refl

cells_pass : (least : ℤ) (greatest total : ℕ) (zs : List ℤ) → All (InRange least greatest) zs → All (λ z. unsigned_abs z ≤ total) zs → first_failing (cells_checks least greatest total zs) ≡ None
cells_pass least greatest total [] fit small = refl
cells_pass least greatest total (z ∷ zs) fit small =
    let rest = cells_pass least greatest total zs (All-tail (InRange least greatest) z zs fit) (All-tail (λ (x : ℤ). unsigned_abs x ≤ total) z zs small) in
    let here : first_failing (cell_checks least greatest total z) ≡ None = cell_passes least greatest total z (All-head (InRange least greatest) z zs fit) (All-head (λ (x : ℤ). unsigned_abs x ≤ total) z zs small) in
    ap first_failing (flat_map-cons (cell_checks least greatest total) z zs)
    ∙ (first_failing-append (cell_checks least greatest total z) (cells_checks least greatest total zs)
    ∙ (ap (λ (o : Option Fault). or_else o (first_failing (cells_checks least greatest total zs))) here ∙ rest))

-- ---- the images

-- a sketch has fewer than 2^32 buckets
buckets_fit : (greatest : ℕ) (s : CountState) → IsCountState greatest s → s.buckets < 2 ^ 32
buckets_fit greatest s state =
    omega (arith, mul-le 1 s.buckets s.hashes s.buckets (omega (arith, state.some_hashes)) (omega arith), state.few_cells)

-- the tests of a shape and a seed that a sketch has
record PassesShape (s : CountState) : Type 0 where
  hash : (seed_hash s.seed == 0) ≡ false
  same : (seed_hash s.seed == seed_hash s.seed) ≡ true
  hashes : nat_le 1 s.hashes ≡ true
  buckets : nat_le 3 s.buckets ≡ true
  cells : nat_lt (s.hashes * s.buckets) 1073741824 ≡ true

passes_shape : (greatest : ℕ) (s : CountState) → IsCountState greatest s → PassesShape s
passes_shape greatest s state = record {
  hash = ne_eqb (seed_hash s.seed) 0 state.seeded;
  same = eq-eqb (seed_hash s.seed) (seed_hash s.seed) refl;
  hashes = le-leb 1 s.hashes (omega (arith, state.some_hashes));
  buckets = le-leb 3 s.buckets state.some_buckets;
  cells = lt-ltb (s.hashes * s.buckets) 1073741824 state.few_cells;
}

-- the image of a sketch whose total is 0
empty_image : (least : ℤ) (greatest : ℕ) (s : CountState) (rest : List ℕ) → IsCountState greatest s → s.total ≡ 0 → IsImage least greatest s.seed (preamble 1 s.buckets s.hashes (seed_hash s.seed) ++ rest) s
empty_image least greatest s rest state none =
    let image = preamble 1 s.buckets s.hashes (seed_hash s.seed) ++ rest in
    let buckets : buckets_at image ≡ s.buckets = buckets_back 1 s.buckets s.hashes (seed_hash s.seed) rest (buckets_fit greatest s state) in
    let hash : seed_hash_at image ≡ seed_hash s.seed = hash_back 1 s.buckets s.hashes (seed_hash s.seed) rest (hash_fits s.seed) in
    let long = length_back 1 s.buckets s.hashes (seed_hash s.seed) rest in
    let has : (n : ℕ) → n ≤ length image → leb n (length image) ≡ true = λ n le. le-leb _ _ le in
    let pass = passes_shape greatest s state in
    record {
      no_fault = rw (buckets, hash, pass.hash, pass.same, pass.hashes, pass.buckets, pass.cells, has 8 (omega (arith, long)), has 16 (omega (arith, long))) refl;
      value = same_parts s (value_at least s.seed image) refl (sym buckets) refl none (zero_rows s.hashes s.buckets s.rows state.height state.width (zero_cells greatest s state none) ∙ ap (λ (d : ℕ). replicate s.hashes (replicate d (pos 0))) (sym buckets));
    }

-- the image of a sketch whose total is another
module _ (least : ℤ) (greatest : ℕ) (low : least ≤ℤ pos 0) (back : (z : ℤ) → InRange least greatest z → number_in least (bytes_of z) ≡ z) (s : CountState) (state : IsCountState greatest s) (fit : (r b : ℕ) → InRange least greatest (cell_at s.rows r b)) (rest : List ℕ) where
  count : length (all_cells s.rows) ≡ s.hashes * s.buckets
  count = length-all_cells s.buckets s.rows state.width ∙ ap (λ (m : ℕ). m * s.buckets) state.height

  full_image : IsImage least greatest s.seed (preamble 0 s.buckets s.hashes (seed_hash s.seed) ++ (flat_map bytes_of (numbers_of s) ++ rest)) s
  full_image =
      let cells : List ℤ = all_cells s.rows in
      let behind : List ℕ = flat_map bytes_of cells ++ rest in
      let tail : List ℕ = flat_map bytes_of (numbers_of s) ++ rest in
      let image : List ℕ = preamble 0 s.buckets s.hashes (seed_hash s.seed) ++ tail in
      let tail_is : tail ≡ bytes_of (pos s.total) ++ behind = ap (λ (l : List ℕ). l ++ rest) (flat_map-cons bytes_of (pos s.total) cells) ∙ append_assoc (bytes_of (pos s.total)) (flat_map bytes_of cells) rest in
      let in_range : All (InRange least greatest) cells = all_hold (InRange least greatest) s.buckets s.rows (omega (arith, state.some_buckets)) state.width fit in
      let near : All (λ z. unsigned_abs z ≤ s.total) cells = all_hold (λ (z : ℤ). unsigned_abs z ≤ s.total) s.buckets s.rows (omega (arith, state.some_buckets)) state.width state.bounded in
      let buckets : buckets_at image ≡ s.buckets = buckets_back 0 s.buckets s.hashes (seed_hash s.seed) tail (buckets_fit greatest s state) in
      let hash : seed_hash_at image ≡ seed_hash s.seed = hash_back 0 s.buckets s.hashes (seed_hash s.seed) tail (hash_fits s.seed) in
      let total : total_at least image ≡ pos s.total = total_back 0 s.buckets s.hashes (seed_hash s.seed) tail least (pos s.total) behind tail_is (back (pos s.total) (omega (arith, ints, low), omega (arith, ints, state.fits))) in
      let read : cells_at least image ≡ cells =
      ap (λ (d : ℕ). numbers_in least (s.hashes * d) (drop 24 image)) buckets
      ∙ (ap (λ (n : ℕ). numbers_in least n (drop 24 image)) (sym count)
      ∙ (ap (numbers_in least (length cells)) (drop_back 0 s.buckets s.hashes (seed_hash s.seed) tail (pos s.total) behind tail_is) ∙ numbers_back least greatest back cells rest in_range)) in
      let long : length image ≡ 24 + 8 * (s.hashes * s.buckets) + length rest = omega (arith, length_back 0 s.buckets s.hashes (seed_hash s.seed) tail, ap length tail_is, length-append (bytes_of (pos s.total)) behind, length-append (flat_map bytes_of cells) rest, length-bytes cells, count) in
      let has : (n : ℕ) → n ≤ length image → leb n (length image) ≡ true = λ n le. le-leb _ _ le in
      let pass = passes_shape greatest s state in
      let early : early_fault s.seed image ≡ None = rw (buckets, hash, pass.hash, pass.same, pass.hashes, pass.buckets, pass.cells, has (24 + 8 * (s.hashes * s.buckets)) (omega (arith, long)), has 8 (omega (arith, long)), has 16 (omega (arith, long))) refl in
      let passed : first_failing (total_checks least greatest (pos s.total) ++ cells_checks least greatest s.total cells) ≡ None =
      first_failing-append (total_checks least greatest (pos s.total)) (cells_checks least greatest s.total cells)
      ∙ (ap (λ (o : Option Fault). or_else o (first_failing (cells_checks least greatest s.total cells))) (total_passes least greatest s.total low state.fits) ∙ cells_pass least greatest s.total cells in_range near) in
      let late : late_fault least greatest image ≡ None =
      ap (λ (z : ℤ). first_failing (total_checks least greatest z ++ cells_checks least greatest (unsigned_abs z) (cells_at least image))) total
      ∙ (ap (λ (zs : List ℤ). first_failing (total_checks least greatest (pos s.total) ++ cells_checks least greatest s.total zs)) read ∙ passed) in
      record {
        no_fault = ap (λ (o : Option Fault). or_else o (late_fault least greatest image)) early ∙ late;
        value = same_parts s (value_at least s.seed image) refl (sym buckets) refl (ap unsigned_abs (sym total))
            (sym (rows_back s.buckets s.rows state.width) ∙ (ap (λ (m : ℕ). rows_of m s.buckets cells) state.height
            ∙ (ap (λ (d : ℕ). rows_of s.hashes d cells) (sym buckets) ∙ ap (rows_of s.hashes (buckets_at image)) (sym read))));
      }

  full_prefix : prefix_bytes (preamble 0 s.buckets s.hashes (seed_hash s.seed) ++ (flat_map bytes_of (numbers_of s) ++ rest)) ≡ length (preamble 0 s.buckets s.hashes (seed_hash s.seed) ++ flat_map bytes_of (numbers_of s))
  full_prefix =
      let cells : List ℤ = all_cells s.rows in
      let numbers = flat_map bytes_of (numbers_of s) in
      let buckets = buckets_back 0 s.buckets s.hashes (seed_hash s.seed) (numbers ++ rest) (buckets_fit greatest s state) in
      let long : length numbers ≡ 8 + 8 * (s.hashes * s.buckets) = omega (arith, length-bytes (numbers_of s), count) in
      ap (λ (d : ℕ). 24 + 8 * (s.hashes * d)) buckets ∙ omega (arith, long, length_back 0 s.buckets s.hashes (seed_hash s.seed) numbers)

-- what is spelled is an image, and is read to its end, whatever stands behind it
pub spelled_is_front : (least : ℤ) (greatest : ℕ) → least ≤ℤ pos 0 → ((z : ℤ) → InRange least greatest z → number_in least (bytes_of z) ≡ z) → SpelledIsFront least greatest
spelled_is_front least greatest low back image rest s h = by_total (s.total == 0) refl where
  by_total : (b : Bool) → (s.total == 0) ≡ b → IsImage least greatest s.seed (image ++ rest) s × (prefix_bytes (image ++ rest) ≡ length image)
  by_total true e =
      let none : s.total ≡ 0 = eqb-true _ 0 e in
      subst (λ (bytes : List ℕ). IsImage least greatest s.seed (bytes ++ rest) s × (prefix_bytes (bytes ++ rest) ≡ length bytes)) (sym (h.empty none)) (empty_image least greatest s rest h.state none, refl)
  by_total false e =
      let some : s.total ≢ 0 = λ none. false≢true (sym e ∙ eq-eqb _ 0 none) in
      let front = preamble 0 s.buckets s.hashes (seed_hash s.seed) in
      let numbers = flat_map bytes_of (numbers_of s) in
      subst (λ (bytes : List ℕ). IsImage least greatest s.seed (bytes ++ rest) s × (prefix_bytes (bytes ++ rest) ≡ length bytes)) (sym (h.full some))
      (subst (λ (bytes : List ℕ). IsImage least greatest s.seed bytes s × (prefix_bytes bytes ≡ length (front ++ numbers))) (sym (append_assoc front numbers rest))
      (full_image least greatest low back s h.state h.in_range rest, full_prefix least greatest low back s h.state h.in_range rest))

pub spelled_is_image : (least : ℤ) (greatest : ℕ) → least ≤ℤ pos 0 → ((z : ℤ) → InRange least greatest z → number_in least (bytes_of z) ≡ z) → SpelledIsImage least greatest
spelled_is_image least greatest low back image s h = subst (λ (bytes : List ℕ). IsImage least greatest s.seed bytes s) (append-nil image) (spelled_is_front least greatest low back image [] s h).0

-- what is read at the front of bytes
pub front_read : (least : ℤ) (greatest seed : ℕ) → least ≤ℤ pos 0 → ((z : ℤ) → InRange least greatest z → number_in least (bytes_of z) ≡ z) → (bytes : List ℕ) (new : CountState) (used : ℕ) → IsImage least greatest seed bytes new → used ≡ prefix_bytes bytes → ReadsFront least greatest seed bytes new used
front_read least greatest seed low back bytes new used read used_is image rest old seed_is spelled is =
    let front = spelled_is_front least greatest low back image rest old spelled in
    let value = subst (λ (b : List ℕ). new ≡ value_at least seed b) is read.value in
    (value ∙ ap (λ (k : ℕ). value_at least k (image ++ rest)) seed_is ∙ sym front.0.value, used_is ∙ ap prefix_bytes is ∙ front.1)
