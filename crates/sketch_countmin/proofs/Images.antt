-- What is read is what the image says.
use Rattle.std.proofs.Common.{◌≡◌, ◌≢◌, ℕ, zero, suc, ◌*◌, ◌+◌, ◌<◌, ◌≤◌, ◌^◌, Bool, true, false, ◌||◌, List, [], ◌∷◌, length, drop, get_or, Option, Some, None, ℤ, pos, unsigned_abs, ◌≤ℤ◌, T, replicate, ◌++◌, refl, sym, ap, subst, ◌∙◌, arith, eq-eqb, All, inl}
use Rattle.std.specs.Prelude.{Result, Ok, Err, IfOk, OnOk, slice_index, if◌then◌else◌, nat_le, nat_lt, int_le}
use Rattle.std.specs.Int.Signed.{le_z_yes}
use Rattle.std.proofs.lemmas.Bool.{leb-true, ltb-true, le-ltb, lt-ltb, and_parts, not-true, false≢true}
use Rattle.std.proofs.lemmas.Int.{ints}
use Rattle.std.proofs.lemmas.List.{length-replicate, get_or-replicate}
use Rattle.std.proofs.lemmas.Nat.{mul-le}
use Rattle.std.proofs.lemmas.List.Concat.{flat_map-cons}
use Rattle.std.proofs.lemmas.List.Elements.{All-nil, All-cons, All-get_or, All-from_get_or}
use Rattle.sketch_base.specs.Checks.{first_failing, or_else, IsImageRefusal}
use Rattle.sketch_base.specs.Errors.{ErrorValue, no_memory}
use Rattle.sketch_base.specs.Hashes.{seed_hash}
use Rattle.sketch_base.specs.declared.fault.Fault.{Fault}
use Rattle.sketch_base.specs.declared.fault.Fault.TheVariants.{ValueOutOfRange, CellAboveTotal, InsufficientData}
use Rattle.sketch_countmin.specs.Buckets.{row_seed}
use Rattle.sketch_countmin.specs.History.CountHistory.{Restored}
use Rattle.sketch_countmin.specs.Image.{says_empty, hashes_at, buckets_at, num_cells_at, numbers_in, total_at, cells_at, value_at, is_in_range, total_checks, cell_checks, cells_checks, early_checks, early_fault, early_fault_within, limit_fault, late_fault, first_fault, first_fault_within, IsImage, Restores}
use Rattle.sketch_countmin.specs.Preamble.{IsPreamble}
use Rattle.sketch_countmin.specs.Rows.{cell_at}
use Rattle.sketch_countmin.specs.Stands.{StandsFor}
use Rattle.sketch_countmin.specs.State.{CountState, IsCountState, empty_state}
use Rattle.sketch_countmin.specs.Table.{IsTable, state_of}
use Rattle.sketch_countmin.specs.declared.image.Preamble.{Preamble}
use Rattle.sketch_countmin.proofs.Reading.{first_failing-append}
use Rattle.sketch_countmin.proofs.Tables.{length-rows_of, rows_width, rows_all, rows_of-replicate, zeros_read, shape_is}

-- so many numbers are read
pub length-numbers_in : (least : ℤ) (n : ℕ) (bytes : List ℕ) → length (numbers_in least n bytes) ≡ n
length-numbers_in least zero bytes = refl
length-numbers_in least (suc n) bytes = omega (arith, length-numbers_in least n (drop 8 bytes))

-- neither of two faults
pub neither : (first last : Option Fault) → or_else first last ≡ None → (first ≡ None) × (last ≡ None)
neither None last h = (refl, h)
neither (Some fault) last h = cc

-- the second of two checks passes
second_passes : (a b : Bool) (f g : Fault) → (if a then (if b then None else Some g) else Some f) ≡ None → b ≡ true
second_passes true true f g h = refl
second_passes true false f g h = cc
second_passes false b f g h = cc

-- no cell that passes is further from zero than the total
within_total : (least : ℤ) (greatest total : ℕ) (cells : List ℤ) → first_failing (cells_checks least greatest total cells) ≡ None → (k : ℕ) → unsigned_abs (get_or cells k (pos 0)) ≤ total
within_total least greatest total [] h k = omega arith
within_total least greatest total (z ∷ zs) h k =
    let both = neither (first_failing (cell_checks least greatest total z)) (first_failing (cells_checks least greatest total zs))
    (sym (first_failing-append (cell_checks least greatest total z) (cells_checks least greatest total zs)) ∙ (sym (ap first_failing (flat_map-cons (cell_checks least greatest total) z zs)) ∙ h)) in
    at k (within_total least greatest total zs both.1) (leb-true _ _ (second_passes (is_in_range least greatest z) (nat_le (unsigned_abs z) total) ValueOutOfRange CellAboveTotal both.0))
  where
    at : (k : ℕ) → ((j : ℕ) → unsigned_abs (get_or zs j (pos 0)) ≤ total) → unsigned_abs z ≤ total → unsigned_abs (get_or (z ∷ zs) k (pos 0)) ≤ total
    at zero rest here = here
    at (suc j) rest here = rest j

-- the parts of a sketch that was read
pub table_read : (least : ℤ) (greatest : ℕ) (row_seeds : List ℕ) (d seed m n most : ℕ) (total : ℤ) (cells : List ℤ) (bytes : List ℕ) → length row_seeds ≡ m → d ≡ n → 1 ≤ m → m ≤ 255 → 3 ≤ n → m * n < 2 ^ 30 → seed_hash seed ≢ 0
    → ((r : ℕ) → r < m → slice_index row_seeds r ≡ row_seed r seed) → total ≡ pos (unsigned_abs total) → unsigned_abs total ≤ greatest → most ≡ unsigned_abs total
    → cells ≡ numbers_in least (m * n) bytes → first_failing (cells_checks least greatest most (numbers_in least (m * n) bytes)) ≡ None → IsTable greatest row_seeds d seed total cells
table_read least greatest row_seeds d seed m n most total cells bytes height width some few wide small seeded right not_negative fits most_is cells_are pass =
    let area : length row_seeds * d ≡ m * n = ap (λ (k : ℕ). k * d) height ∙ ap (λ (k : ℕ). m * k) width in
    record {
      shape = shape_is row_seeds d seed m n height width some few wide small seeded right;
      size = ap length cells_are ∙ (length-numbers_in least (m * n) bytes ∙ sym area);
      total_is = not_negative;
      fits = fits;
      bounded = λ k. rw (cells_are, sym most_is) (within_total least greatest most (numbers_in least (m * n) bytes) pass k);
    }

-- the late checks of an image that has a total and cells
late_is : (least : ℤ) (greatest : ℕ) (image : List ℕ) (p : Preamble) → IsPreamble image p → p.is_empty ≡ false
    → late_fault least greatest image
    ≡ or_else (first_failing (total_checks least greatest (total_at least image))) (first_failing (cells_checks least greatest (unsigned_abs (total_at least image)) (numbers_in least (p.num_hashes * p.num_buckets) (drop 24 image))))
late_is least greatest image p fields full =
    let not_empty : says_empty image ≡ false = sym fields.is_empty ∙ full in
    let size : num_cells_at image ≡ p.num_hashes * p.num_buckets = ap (λ (k : ℕ). k * buckets_at image) (sym fields.num_hashes) ∙ ap (λ (k : ℕ). p.num_hashes * k) (sym fields.num_buckets) in
    rw (not_empty) (first_failing-append (total_checks least greatest (total_at least image)) (cells_checks least greatest (unsigned_abs (total_at least image)) (cells_at least image))
    ∙ ap (λ (n : ℕ). or_else (first_failing (total_checks least greatest (total_at least image))) (first_failing (cells_checks least greatest (unsigned_abs (total_at least image)) (numbers_in least n (drop 24 image))))) size)

-- a fault of the total is the first of them
pub total_fault : (least : ℤ) (greatest : ℕ) (image : List ℕ) (p : Preamble) (fault : Fault) → IsPreamble image p → p.is_empty ≡ false → first_failing (total_checks least greatest (total_at least image)) ≡ Some fault → late_fault least greatest image ≡ Some fault
total_fault least greatest image p fault fields full fails =
    late_is least greatest image p fields full
    ∙ ap (λ (o : Option Fault). or_else o (first_failing (cells_checks least greatest (unsigned_abs (total_at least image)) (numbers_in least (p.num_hashes * p.num_buckets) (drop 24 image))))) fails

module _ (least : ℤ) (greatest : ℕ) (image : List ℕ) (p : Preamble) (fields : IsPreamble image p) (full : p.is_empty ≡ false) where
  module _ (most : ℕ) (most_is : most ≡ unsigned_abs (total_at least image)) (passes : first_failing (total_checks least greatest (total_at least image)) ≡ None) where
    -- where the total passes, the first of them is a cell's
    by_cells : late_fault least greatest image ≡ first_failing (cells_checks least greatest most (numbers_in least (p.num_hashes * p.num_buckets) (drop 24 image)))
    by_cells = late_is least greatest image p fields full ∙ rw (passes, sym most_is) refl

    pub late_passes : first_failing (cells_checks least greatest most (numbers_in least (p.num_hashes * p.num_buckets) (drop 24 image))) ≡ None → late_fault least greatest image ≡ None
    late_passes h = by_cells ∙ h

    pub cells_refusal : (e : ErrorValue) → IsImageRefusal None (first_failing (cells_checks least greatest most (numbers_in least (p.num_hashes * p.num_buckets) (drop 24 image)))) e → IsImageRefusal None (late_fault least greatest image) e
    cells_refusal e h = subst (λ (o : Option Fault). IsImageRefusal None o e) (sym by_cells) h

-- what was read is what an image says that has a total and cells
pub value_read : (least : ℤ) (image : List ℕ) (p : Preamble) → IsPreamble image p → p.is_empty ≡ false → (row_seeds : List ℕ) (d seed : ℕ) (total : ℤ) (cells : List ℤ) → length row_seeds ≡ p.num_hashes → d ≡ p.num_buckets → total ≡ total_at least image
    → cells ≡ numbers_in least (p.num_hashes * p.num_buckets) (drop 24 image) → state_of row_seeds d seed total cells ≡ value_at least seed image
value_read least image p fields full row_seeds d seed total cells height width total_is cells_are =
    let not_empty : says_empty image ≡ false = sym fields.is_empty ∙ full in
    rw (not_empty, cells_are, height, width, total_is, fields.num_hashes, fields.num_buckets) refl

-- where no check of a list fails, each passes
pub each_passes : (checks : List (Bool × Fault)) → first_failing checks ≡ None → All (λ check. check.0 ≡ true) checks
each_passes [] h = All-nil (λ (check : Bool × Fault). check.0 ≡ true)
each_passes (check ∷ checks) h =
    let both = first_passes check.0 check.1 (first_failing checks) h in
    All-cons (λ (c : Bool × Fault). c.0 ≡ true) check checks both.0 (each_passes checks both.1)
  where
    first_passes : (b : Bool) (fault : Fault) (rest : Option Fault) → (if b then rest else Some fault) ≡ None → (b ≡ true) × (rest ≡ None)
    first_passes true fault rest h = (refl, h)
    first_passes false fault rest h = cc

-- what holds of an image where no early check fails
pub record PassesEarly (seed : ℕ) (image : List ℕ) : Type 0 where
  pub long : 16 ≤ length image
  pub seeded : seed_hash seed ≢ 0
  pub some_hashes : 1 ≤ hashes_at image
  pub some_buckets : 3 ≤ buckets_at image
  pub few_cells : num_cells_at image < 1073741824
  pub cells : says_empty image ≡ false → 24 + 8 * num_cells_at image ≤ length image

pub passes_early : (seed : ℕ) (image : List ℕ) → early_fault seed image ≡ None → PassesEarly seed image
passes_early seed image passes = record {
  long = leb-true 16 (length image) (check 4 (omega arith));
  seeded = λ zero. false≢true (sym (not-true _ (check 5 (omega arith))) ∙ eq-eqb (seed_hash seed) 0 zero);
  some_hashes = leb-true 1 (hashes_at image) (check 7 (omega arith));
  some_buckets = leb-true 3 (buckets_at image) (check 8 (omega arith));
  few_cells = ltb-true (num_cells_at image) 1073741824 (check 9 (omega arith));
  cells = λ full. leb-true (24 + 8 * num_cells_at image) (length image) (second (says_empty image) _ full (check 10 (omega arith)));
}
  where
    check : (k : ℕ) → k < 11 → (get_or (early_checks seed image) k (true, InsufficientData)).0 ≡ true
    check k lt = All-get_or (λ (c : Bool × Fault). c.0 ≡ true) (early_checks seed image) k (true, InsufficientData) lt (each_passes (early_checks seed image) passes)

    second : (a b : Bool) → a ≡ false → (a || b) ≡ true → b ≡ true
    second true b full h = cc
    second false b full h = h

-- the greatest limit refuses nothing
no_limit : (size seed : ℕ) (image : List ℕ) → size ≤ 8 → early_fault seed image ≡ None → limit_fault size 18446744073709551615 image ≡ None
no_limit size seed image small passes =
    let image_is = passes_early seed image passes in
    by_size (hashes_at image) (num_cells_at image) image_is.some_buckets image_is.few_cells
    (mul-le (hashes_at image) 1 (hashes_at image) (buckets_at image) (omega arith) (omega (arith, image_is.some_buckets))) (mul-le (num_cells_at image) size (num_cells_at image) 8 (omega arith) small)
  where
    by_size : (hashes cells : ℕ) → 3 ≤ buckets_at image → cells < 1073741824 → hashes * 1 ≤ cells → cells * size ≤ cells * 8 → (if nat_lt 18446744073709551615 (cells * size + 8 * hashes) then Some (Fault.TableTooLarge) else None) ≡ None
    by_size hashes cells wide few many long = rw (le-ltb 18446744073709551615 (cells * size + 8 * hashes) (omega arith)) refl

-- so with it the faults are those without a limit
pub refusal_without_limit : (least : ℤ) (greatest size seed : ℕ) (image : List ℕ) (e : ErrorValue) → size ≤ 8 → IsImageRefusal (early_fault_within size 18446744073709551615 seed image) (first_fault_within least greatest size 18446744073709551615 seed image) e
    → IsImageRefusal (early_fault seed image) (first_fault least greatest seed image) e
refusal_without_limit least greatest size seed image e small h =
    let same : early_fault_within size 18446744073709551615 seed image ≡ early_fault seed image = unlimited (early_fault seed image) (limit_fault size 18446744073709551615 image) (no_limit size seed image small) in
    subst (λ (early : Option Fault). IsImageRefusal early (or_else early (late_fault least greatest image)) e) same h
  where
    unlimited : (early limit : Option Fault) → (early ≡ None → limit ≡ None) → or_else early limit ≡ early
    unlimited None limit h = h refl
    unlimited (Some fault) limit h = refl

-- ---- a reader's limit

-- a number of either of two sketches
of_either : (b : Bool) (x y : CountState) (f : CountState → ℕ) (k : ℕ) → f x ≡ k → f y ≡ k → f (if b then x else y) ≡ k
of_either true x y f k e h = e
of_either false x y f k e h = h

module _ (least : ℤ) (greatest size max_bytes seed : ℕ) (image : List ℕ) where
  -- a fault of the early checks is the first
  pub early_first : (fault : Fault) → early_fault seed image ≡ Some fault → first_fault_within least greatest size max_bytes seed image ≡ Some fault
  early_first fault e = ap (λ (o : Option Fault). or_else (or_else o (limit_fault size max_bytes image)) (late_fault least greatest image)) e

  module _ (p : Preamble) (fields : IsPreamble image p) (passes : early_fault seed image ≡ None) where
    bytes_are : p.num_hashes * p.num_buckets * size + 8 * p.num_hashes ≡ num_cells_at image * size + 8 * hashes_at image
    bytes_are = rw (fields.num_hashes, fields.num_buckets) refl

    -- the limit by the fields that were read
    pub limit_first : max_bytes < p.num_hashes * p.num_buckets * size + 8 * p.num_hashes → first_fault_within least greatest size max_bytes seed image ≡ Some (Fault.TableTooLarge)
    limit_first above = rw (passes, lt-ltb max_bytes (num_cells_at image * size + 8 * hashes_at image) (subst (λ (n : ℕ). max_bytes < n) bytes_are above)) refl

    within_limit : p.num_hashes * p.num_buckets * size + 8 * p.num_hashes ≤ max_bytes → early_fault_within size max_bytes seed image ≡ None
    within_limit below = rw (passes, le-ltb max_bytes (num_cells_at image * size + 8 * hashes_at image) (subst (λ (n : ℕ). n ≤ max_bytes) bytes_are below)) refl

    -- within it nothing was wrong before memory was asked for
    pub memory_refusal : p.num_hashes * p.num_buckets * size + 8 * p.num_hashes ≤ max_bytes → (e : ErrorValue) → e ≡ no_memory
        → IsImageRefusal (early_fault_within size max_bytes seed image) (first_fault_within least greatest size max_bytes seed image) e
    memory_refusal below e h = inl (h, within_limit below)

    -- and the faults are the late ones
    pub late_refusal : p.num_hashes * p.num_buckets * size + 8 * p.num_hashes ≤ max_bytes → (e : ErrorValue) → IsImageRefusal None (late_fault least greatest image) e
        → IsImageRefusal (early_fault_within size max_bytes seed image) (first_fault_within least greatest size max_bytes seed image) e
    late_refusal below e h = subst (λ (early : Option Fault). IsImageRefusal early (or_else early (late_fault least greatest image)) e) (sym (within_limit below)) h

    -- and what the image says is within it
    pub value_within : p.num_hashes * p.num_buckets * size + 8 * p.num_hashes ≤ max_bytes → (s : CountState) → s ≡ value_at least seed image → s.hashes * s.buckets * size + 8 * s.hashes ≤ max_bytes
    value_within below s s_is =
        let bytes : CountState → ℕ = λ u. u.hashes * u.buckets * size + 8 * u.hashes in
        subst (λ (n : ℕ). n ≤ max_bytes) (bytes_are ∙ sym (ap bytes s_is ∙ of_either (says_empty image) _ _ bytes _ refl refl)) below

-- ---- what was read is what the image says

pub empty_image : (least : ℤ) (greatest seed : ℕ) (image : List ℕ) (p : Preamble) → IsPreamble image p → p.is_empty ≡ true → early_fault seed image ≡ None
    → (s : CountState) → s ≡ empty_state p.num_hashes p.num_buckets seed → IsImage least greatest seed image s
empty_image least greatest seed image p fields is_empty passes s s_is =
    let empty : says_empty image ≡ true = sym fields.is_empty ∙ is_empty in
    record {
      no_fault = rw (passes, empty) refl;
      value = rw empty (s_is ∙ (ap (λ (m : ℕ). empty_state m p.num_buckets seed) fields.num_hashes ∙ ap (λ (n : ℕ). empty_state (hashes_at image) n seed) fields.num_buckets));
    }

pub image_read : (least : ℤ) (greatest seed : ℕ) (image : List ℕ) (r : Result CountState ErrorValue) → early_fault seed image ≡ None → OnOk r (late_fault least greatest image ≡ None)
    → IfOk r (λ s. s ≡ value_at least seed image) → IfOk r (λ s. IsImage least greatest seed image s)
image_read least greatest seed image (Ok s) passes late value = record { no_fault = ap (λ (o : Option Fault). or_else o (late_fault least greatest image)) passes ∙ late; value = value }
image_read least greatest seed image (Err e) passes late value = tt

-- what the image says stands for what a sketch of the image stood for
pub restores : (least : ℤ) (greatest seed : ℕ) (image : List ℕ) (s : CountState) → IsImage least greatest seed image s → Restores least greatest seed image s
restores least greatest seed image s now = λ old before h stands. subst (λ (t : CountState). StandsFor t (Restored h)) (before.value ∙ sym now.value) (record { hashes = stands.hashes; buckets = stands.buckets; seed = stands.seed; total = stands.total; cells = stands.cells })

-- ---- what an image says is a sketch

-- rows of zeros have zeros
zeros_at : (m d : ℕ) → (r b : ℕ) → cell_at (replicate m (replicate d (pos 0))) r b ≡ pos 0
zeros_at m d r b =
    subst (λ (rows : List (List ℤ)). cell_at rows r b ≡ pos 0) (rows_of-replicate m d (pos 0)) (rows_all (λ (z : ℤ). z ≡ pos 0) refl m d (replicate (m * d) (pos 0)) (zeros_read (m * d)) r b)

-- a total that passes is no greater than the type's greatest number
total_fits : (least : ℤ) (greatest : ℕ) (total : ℤ) → first_failing (total_checks least greatest total) ≡ None → unsigned_abs total ≤ greatest
total_fits least greatest total h =
    let each = each_passes (total_checks least greatest total) h in
    let none : Bool × Fault = (true, InsufficientData) in
    let range : is_in_range least greatest total ≡ true = All-get_or (λ (c : Bool × Fault). c.0 ≡ true) (total_checks least greatest total) 0 none (omega arith) each in
    let some : int_le (pos 0) total ≡ true = All-get_or (λ (c : Bool × Fault). c.0 ≡ true) (total_checks least greatest total) 1 none (omega arith) each in
    let above : pos 0 ≤ℤ total = in_order (pos 0) total some in
    let below : total ≤ℤ pos greatest = in_order total (pos greatest) (and_parts (int_le least total) (int_le total (pos greatest)) range).1 in
    omega (arith, ints, above, below)
  where
    in_order : (a b : ℤ) → int_le a b ≡ true → a ≤ℤ b
    in_order a b e = le_z_yes (subst T (sym e) tt)

-- neither the total nor the cells fail where no late check does
pub full_passes : (least : ℤ) (greatest : ℕ) (image : List ℕ) → says_empty image ≡ false → late_fault least greatest image ≡ None
    → (first_failing (total_checks least greatest (total_at least image)) ≡ None) × (first_failing (cells_checks least greatest (unsigned_abs (total_at least image)) (cells_at least image)) ≡ None)
full_passes least greatest image full passes =
    let totals = total_checks least greatest (total_at least image) in
    let cells = cells_checks least greatest (unsigned_abs (total_at least image)) (cells_at least image) in
    let late : first_failing (totals ++ cells) ≡ None = rw full at passes in
    neither (first_failing totals) (first_failing cells) (sym (first_failing-append totals cells) ∙ late)

-- where no check of a list of bytes fails, what it says is a sketch
pub state_at : (least : ℤ) (greatest seed : ℕ) (image : List ℕ) → All (λ byte. byte < 2 ^ 8) image → first_fault least greatest seed image ≡ None → IsCountState greatest (value_at least seed image)
state_at least greatest seed image bytes passes = by_flag (says_empty image) refl
  where
    parts : (early_fault seed image ≡ None) × (late_fault least greatest image ≡ None)
    parts = neither (early_fault seed image) (late_fault least greatest image) passes

    early : PassesEarly seed image
    early = passes_early seed image parts.0

    few_hashes : hashes_at image ≤ 255
    few_hashes =
        let byte : hashes_at image < 2 ^ 8 = All-get_or (λ (n : ℕ). n < 2 ^ 8) image 12 0 (omega (arith, early.long)) bytes in
        omega (arith, byte)

    by_flag : (b : Bool) → says_empty image ≡ b → IsCountState greatest (value_at least seed image)
    by_flag true e = rw e (record {
      some_hashes = omega (arith, early.some_hashes);
      few_hashes = few_hashes;
      some_buckets = early.some_buckets;
      few_cells = early.few_cells;
      seeded = early.seeded;
      height = length-replicate (hashes_at image) (replicate (buckets_at image) (pos 0));
      width = All-from_get_or (λ (row : List ℤ). length row ≡ buckets_at image) (replicate (hashes_at image) (replicate (buckets_at image) (pos 0))) []
          (λ i lt. ap length (get_or-replicate (hashes_at image) i (replicate (buckets_at image) (pos 0)) [] (omega (arith, lt, length-replicate (hashes_at image) (replicate (buckets_at image) (pos 0))))) ∙ length-replicate (buckets_at image) (pos 0));
      fits = omega arith;
      bounded = λ r b. rw (zeros_at (hashes_at image) (buckets_at image) r b) (omega arith);
    })
    by_flag false e =
        let both = full_passes least greatest image e parts.1 in
        rw e (record {
          some_hashes = omega (arith, early.some_hashes);
          few_hashes = few_hashes;
          some_buckets = early.some_buckets;
          few_cells = early.few_cells;
          seeded = early.seeded;
          height = length-rows_of (hashes_at image) (buckets_at image) (cells_at least image);
          width = rows_width (hashes_at image) (buckets_at image) (cells_at least image) (length-numbers_in least (num_cells_at image) (drop 24 image));
          fits = total_fits least greatest (total_at least image) both.0;
          bounded = λ r b. rows_all (λ (z : ℤ). unsigned_abs z ≤ unsigned_abs (total_at least image)) (omega arith) (hashes_at image) (buckets_at image) (cells_at least image)
              (within_total least greatest (unsigned_abs (total_at least image)) (cells_at least image) both.1) r b;
        })
