-- A view of an image: its cells are bytes of the image, or zeros.
use Rattle.std.proofs.Common.{◌≡◌, ℕ, zero, suc, ◌+◌, ◌*◌, ◌/◌, ◌<◌, ◌≤◌, ◌==◌, Bool, true, false, List, [], ◌∷◌, take, drop, map, replicate, length, get_or, ℤ, pos, unsigned_abs, refl, sym, ap, subst, ◌∙◌, arith, length-drop, eq-eqb, None, T}
use Rattle.std.specs.Prelude.{if◌then◌else◌, slice_index, ◌≤ℤ◌, nat_le, int_le}
use Rattle.std.specs.Int.Signed.{le_z_yes}
use Rattle.std.proofs.lemmas.Bool.{leb-true, and_parts}
use Rattle.std.proofs.lemmas.Bool.Decides.{nat_tests}
use Rattle.std.proofs.lemmas.Int.{ints}
use Rattle.std.proofs.lemmas.List.{length-replicate, length-take-le}
use Rattle.std.proofs.lemmas.List.Concat.{flat_map-cons}
use Rattle.std.proofs.lemmas.List.Elements.{All-get_or}
use Rattle.std.proofs.lemmas.Nat.{mul-le}
use Rattle.sketch_base.specs.Checks.{first_failing}
use Rattle.sketch_base.specs.declared.fault.Fault.{Fault}
use Rattle.sketch_base.specs.declared.fault.Fault.TheVariants.{InsufficientData}
use Rattle.sketch_countmin.specs.Buckets.{bucket_by, bucket_of}
use Rattle.sketch_countmin.specs.Cells.{IsMinOf}
use Rattle.sketch_countmin.specs.History.CountHistory.{Restored}
use Rattle.sketch_countmin.specs.Image.{IsImage, Restores, says_empty, numbers_in, total_at, cells_at, value_at, is_in_range, cell_checks, cells_checks, early_fault, late_fault}
use Rattle.sketch_countmin.specs.Preamble.{IsPreamble}
use Rattle.sketch_countmin.specs.Stands.{StandsFor}
use Rattle.sketch_countmin.specs.State.{CountState, IsMinCell, item_cell}
use Rattle.sketch_countmin.specs.Table.{IsTableShape, state_of}
use Rattle.sketch_countmin.specs.View.{IsView, nearest, cells_shown, cells_of_bytes, view_at}
use Rattle.sketch_countmin.specs.declared.image.Preamble.{Preamble}
use Rattle.sketch_countmin.proofs.ByteCells.{length-cells_of_bytes, cells_of_part}
use Rattle.sketch_countmin.proofs.Images.{neither, each_passes, full_passes}
use Rattle.sketch_countmin.proofs.Nearest.{nearest_bounded, nearest_self}
use Rattle.sketch_countmin.proofs.Reading.{first_failing-append}
use Rattle.sketch_countmin.proofs.Estimates.{bucket_below, least_here}
use Rattle.sketch_countmin.proofs.Tables.{read_rows, zeros_read, empty_value}

-- the cells where there are no bytes, and where there are some
shown_none : (least : ℤ) (total n : ℕ) (bytes : List ℕ) → (length bytes == 0) ≡ true → cells_shown least total n bytes ≡ replicate n (pos 0)
shown_none least total n bytes e = ap (λ (b : Bool). if b then replicate n (pos 0) else cells_of_bytes least total bytes) e

pub shown_some : (least : ℤ) (total n : ℕ) (bytes : List ℕ) → (length bytes == 0) ≡ false → cells_shown least total n bytes ≡ cells_of_bytes least total bytes
shown_some least total n bytes e = ap (λ (b : Bool). if b then replicate n (pos 0) else cells_of_bytes least total bytes) e

module _ (least : ℤ) (greatest n : ℕ) (row_seeds : List ℕ) (d seed : ℕ) (total : ℤ) (bytes input : List ℕ) where
  -- the state that the fields show
  abbrev pub view_of : CountState
  view_of = state_of row_seeds d seed total (cells_shown least (unsigned_abs total) (length row_seeds * d) bytes)

  -- without bytes each cell is zero, and so is the least
  pub least_of_none : IsView least greatest n row_seeds d seed total bytes → (length bytes == 0) ≡ true → (z : ℤ) → z ≡ pos 0 → IsMinCell view_of input z
  least_of_none v none z zero_is = record {
    below = λ r lr. subst (λ (w : ℤ). z ≤ℤ w) (sym (here r lr)) (omega (arith, ints, zero_is));
    reached = (0, v.table.some_rows, zero_is ∙ sym (here 0 v.table.some_rows));
  }
    where
      here : (r : ℕ) → r < length row_seeds → item_cell view_of input r ≡ pos 0
      here r lr =
          read_rows (length row_seeds) d (cells_shown least (unsigned_abs total) (length row_seeds * d) bytes) r (bucket_of d seed r input) lr (bucket_below d seed r input (omega (arith, v.table.some_buckets)))
          ∙ (ap (λ (cells : List ℤ). get_or cells (r * d + bucket_of d seed r input) (pos 0)) (shown_none least (unsigned_abs total) (length row_seeds * d) bytes none)
          ∙ zeros_read (length row_seeds * d) (r * d + bucket_of d seed r input))

  -- with bytes it is the least of theirs
  pub least_of_some : IsView least greatest n row_seeds d seed total bytes → (length bytes == 0) ≡ false → (cells : List ℤ) (z : ℤ) → cells ≡ cells_of_bytes least (unsigned_abs total) bytes
      → IsMinOf d cells (λ r. bucket_by d (slice_index row_seeds r) input) (length row_seeds) z → IsMinCell view_of input z
  least_of_some v some cells z cells_are h =
      least_here greatest row_seeds d seed total (cells_shown least (unsigned_abs total) (length row_seeds * d) bytes) input z v.table
      (subst (λ (xs : List ℤ). IsMinOf d xs (λ r. bucket_by d (slice_index row_seeds r) input) (length row_seeds) z)
      (cells_are ∙ sym (shown_some least (unsigned_abs total) (length row_seeds * d) bytes some)) h)

-- ---- what holds of the cells that are shown

-- each is no further from zero than the total
nearest_within : (least : ℤ) (total : ℕ) → least ≤ℤ pos 0 → (zs : List ℤ) (k : ℕ) → unsigned_abs (get_or (map (nearest least total) zs) k (pos 0)) ≤ total
nearest_within least total low [] k = omega arith
nearest_within least total low (z ∷ zs) zero = nearest_bounded least total z low
nearest_within least total low (z ∷ zs) (suc k) = nearest_within least total low zs k

shown_within : (least : ℤ) (total n : ℕ) (bytes : List ℕ) → least ≤ℤ pos 0 → (k : ℕ) → unsigned_abs (get_or (cells_shown least total n bytes) k (pos 0)) ≤ total
shown_within least total n bytes low k = by_size (length bytes == 0) refl where
  by_size : (b : Bool) → (length bytes == 0) ≡ b → unsigned_abs (get_or (cells_shown least total n bytes) k (pos 0)) ≤ total
  by_size true e = rw (shown_none least total n bytes e, zeros_read n k) (omega arith)
  by_size false e = rw (shown_some least total n bytes e) (nearest_within least total low (numbers_in least (length bytes / 8) bytes) k)

-- there are as many as the shape says
shown_size : (least : ℤ) (total n : ℕ) (bytes : List ℕ) → (0 < length bytes → length bytes ≡ 8 * n) → length (cells_shown least total n bytes) ≡ n
shown_size least total n bytes whole = by_size (length bytes == 0) refl where
  by_size : (b : Bool) → (length bytes == 0) ≡ b → length (cells_shown least total n bytes) ≡ n
  by_size true e = ap length (shown_none least total n bytes e) ∙ length-replicate n (pos 0)
  by_size false e =
      let some : 0 < length bytes = grind (arith, nat_tests) in
      ap length (shown_some least total n bytes e) ∙ (length-cells_of_bytes least total bytes ∙ omega (arith, whole some))

-- ---- the view of an image

-- the bytes that it has
abbrev pub bytes_for : List ℕ → Preamble → List ℕ
bytes_for image p = if p.is_empty then [] else take (8 * (p.num_hashes * p.num_buckets)) (drop 24 image)

module _ (least : ℤ) (greatest : ℕ) (image bytes : List ℕ) (p : Preamble) (row_seeds : List ℕ) (d seed : ℕ) (total : ℤ)
    (fields : IsPreamble image p) (there : p.is_empty ≡ false → 24 + 8 * (p.num_hashes * p.num_buckets) ≤ length image) (bytes_are : bytes ≡ bytes_for image p)
    (height : length row_seeds ≡ p.num_hashes) (width : d ≡ p.num_buckets) (total_is : total ≡ (if p.is_empty then pos 0 else total_at least image)) where
  area : length row_seeds * d ≡ p.num_hashes * p.num_buckets
  area = ap (λ (k : ℕ). k * d) height ∙ ap (λ (k : ℕ). p.num_hashes * k) width

  -- without a mark they are those of the cells
  part : p.is_empty ≡ false → bytes ≡ take (8 * (p.num_hashes * p.num_buckets)) (drop 24 image)
  part full = bytes_are ∙ ap (λ (b : Bool). if b then [] else take (8 * (p.num_hashes * p.num_buckets)) (drop 24 image)) full

  part_size : p.is_empty ≡ false → length bytes ≡ 8 * (p.num_hashes * p.num_buckets)
  part_size full = ap length (part full) ∙ length-take-le (8 * (p.num_hashes * p.num_buckets)) (drop 24 image) (omega (arith, there full, length-drop 24 image))

  none : p.is_empty ≡ true → bytes ≡ []
  none marked = bytes_are ∙ ap (λ (b : Bool). if b then [] else take (8 * (p.num_hashes * p.num_buckets)) (drop 24 image)) marked

  whole : 0 < length bytes → length bytes ≡ 8 * (length row_seeds * d)
  whole = by_mark p.is_empty refl where
    by_mark : (b : Bool) → p.is_empty ≡ b → 0 < length bytes → length bytes ≡ 8 * (length row_seeds * d)
    by_mark true e some = let size : length bytes ≡ 0 = ap length (none e) in absurd (omega arith)
    by_mark false e some = part_size e ∙ ap (λ (k : ℕ). 8 * k) (sym area)

  -- the invariant of its fields
  pub view_fields : IsTableShape row_seeds d seed → least ≤ℤ pos 0 → total ≡ pos (unsigned_abs total) → unsigned_abs total ≤ greatest → IsView least greatest p.num_hashes row_seeds d seed total bytes
  view_fields shape low not_negative fits = record {
    rows = height;
    table = record {
      shape = shape;
      size = shown_size least (unsigned_abs total) (length row_seeds * d) bytes whole;
      total_is = not_negative;
      fits = fits;
      bounded = shown_within least (unsigned_abs total) (length row_seeds * d) bytes low;
    };
    whole = whole;
  }

  -- its value
  pub view_value : 1 ≤ p.num_hashes → 3 ≤ p.num_buckets → state_of row_seeds d seed total (cells_shown least (unsigned_abs total) (length row_seeds * d) bytes) ≡ view_at least seed image
  view_value some_hashes some_buckets = by_mark p.is_empty refl where
    by_mark : (b : Bool) → p.is_empty ≡ b → state_of row_seeds d seed total (cells_shown least (unsigned_abs total) (length row_seeds * d) bytes) ≡ view_at least seed image
    by_mark true e =
        let marked : says_empty image ≡ true = sym fields.is_empty ∙ e in
        let zero_total : total ≡ pos 0 = total_is ∙ ap (λ (b : Bool). if b then pos 0 else total_at least image) e in
        let size : (length bytes == 0) ≡ true = eq-eqb (length bytes) 0 (ap length (none e)) in
        empty_value row_seeds p.num_hashes d seed total (cells_shown least (unsigned_abs total) (length row_seeds * d) bytes) height zero_total (shown_none least (unsigned_abs total) (length row_seeds * d) bytes size)
        ∙ rw (marked, width, fields.num_hashes, fields.num_buckets) refl
    by_mark false e =
        let full : says_empty image ≡ false = sym fields.is_empty ∙ e in
        let read : total ≡ total_at least image = total_is ∙ ap (λ (b : Bool). if b then pos 0 else total_at least image) e in
        let some : 0 < p.num_hashes * p.num_buckets = omega (arith, mul-le 1 1 p.num_hashes p.num_buckets some_hashes (omega arith)) in
        let size : (length bytes == 0) ≡ false = (let s = part_size e in grind (arith, nat_tests)) in
        let cells : cells_shown least (unsigned_abs total) (length row_seeds * d) bytes ≡ map (nearest least (unsigned_abs total)) (numbers_in least (p.num_hashes * p.num_buckets) (drop 24 image)) =
        shown_some least (unsigned_abs total) (length row_seeds * d) bytes size
        ∙ ap (cells_of_bytes least (unsigned_abs total)) (part e)
        ∙ cells_of_part least (unsigned_abs total) (p.num_hashes * p.num_buckets) (drop 24 image) (omega (arith, there e, length-drop 24 image)) in
        rw (full, cells, height, width, read, fields.num_hashes, fields.num_buckets) refl

-- ---- where reading succeeds

-- cells that pass are nearest to themselves
cells_stay : (least : ℤ) (greatest total : ℕ) (cells : List ℤ) → first_failing (cells_checks least greatest total cells) ≡ None → map (nearest least total) cells ≡ cells
cells_stay least greatest total [] h = refl
cells_stay least greatest total (z ∷ zs) h =
    let both = neither (first_failing (cell_checks least greatest total z)) (first_failing (cells_checks least greatest total zs))
    (sym (first_failing-append (cell_checks least greatest total z) (cells_checks least greatest total zs)) ∙ (sym (ap first_failing (flat_map-cons (cell_checks least greatest total) z zs)) ∙ h)) in
    λ i. here both.0 i ∷ cells_stay least greatest total zs both.1 i
  where
    check : Bool × Fault
    check = (true, InsufficientData)

    here : first_failing (cell_checks least greatest total z) ≡ None → nearest least total z ≡ z
    here passes =
        let each = each_passes (cell_checks least greatest total z) passes in
        let range : is_in_range least greatest z ≡ true = All-get_or (λ (c : Bool × Fault). c.0 ≡ true) (cell_checks least greatest total z) 0 check (omega arith) each in
        let within : nat_le (unsigned_abs z) total ≡ true = All-get_or (λ (c : Bool × Fault). c.0 ≡ true) (cell_checks least greatest total z) 1 check (omega arith) each in
        nearest_self least total z (le_z_yes (subst T (sym (and_parts (int_le least z) (int_le z (pos greatest)) range).0) tt)) (leb-true _ _ within)

-- the view is the sketch that is read
pub view_reads : (least : ℤ) (greatest seed : ℕ) (image : List ℕ) (s : CountState) → IsImage least greatest seed image s → view_at least seed image ≡ s
view_reads least greatest seed image s is = by_mark (says_empty image) refl ∙ sym is.value where
  late : late_fault least greatest image ≡ None
  late = (neither (early_fault seed image) (late_fault least greatest image) is.no_fault).1

  by_mark : (b : Bool) → says_empty image ≡ b → view_at least seed image ≡ value_at least seed image
  by_mark true e = rw e refl
  by_mark false e =
      let stay = cells_stay least greatest (unsigned_abs (total_at least image)) (cells_at least image) (full_passes least greatest image e late).1 in
      rw (e, stay) refl

-- so it stands for the restored history
pub view_restores : (least : ℤ) (greatest seed : ℕ) (image : List ℕ) (s : CountState) → s ≡ view_at least seed image → Restores least greatest seed image s
view_restores least greatest seed image s is = λ old before h stands.
    subst (λ (t : CountState). StandsFor t (Restored h)) (sym (is ∙ view_reads least greatest seed image old before))
    (record { hashes = stands.hashes; buckets = stands.buckets; seed = stands.seed; total = stands.total; cells = stands.cells })
