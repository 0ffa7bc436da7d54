-- The image of a sketch: its fields by offset, its checks in order, its value, and its bytes. A type of numbers is
-- given by its minimum, `least`, and its maximum, `greatest`.
use Rattle.std.specs.Prelude.{◌≡◌, ◌≢◌, ℕ, zero, suc, ◌+◌, ◌*◌, ◌^◌, nat_le, nat_lt, ◌==◌, Bool, ◌&&◌, ◌||◌, not, Option, None, Some, List, [], ◌∷◌, ◌++◌, length, take, drop, ℤ, pos, int_le, unsigned_abs, bit_and, if◌then◌else◌}
use Rattle.std.specs.Int.{w16, w32, to_le_bytes}
use Rattle.std.specs.List.{flat_map}
use Rattle.sketch_base.specs.Checks.{first_failing, or_else}
use Rattle.sketch_base.specs.Fields.{byte_at, le_at}
use Rattle.sketch_base.specs.Hashes.{seed_hash}
use Rattle.sketch_base.specs.declared.fault.Fault.{Fault}
use Rattle.sketch_base.specs.declared.fault.Fault.TheVariants.{InsufficientData, BadFamily, BadVersion, BadPreamble, ZeroSeedHash, SeedHashMismatch, BadNumHashes, BadNumBuckets, TableTooLarge, ValueOutOfRange, NegativeTotal, CellAboveTotal}
use Rattle.sketch_countmin.specs.History.CountHistory.{Restored}
use Rattle.sketch_countmin.specs.Rows.{cell_at, rows_of}
use Rattle.sketch_countmin.specs.Shapes.{grid_bytes}
use Rattle.sketch_countmin.specs.Stands.{Extends}
use Rattle.sketch_countmin.specs.State.{CountState, IsCountState, empty_state}
use Rattle.sketch_countmin.specs.Values.{InRange, bytes_of, number_in}

-- ---- the fields

-- bit 0 of the flags alone marks the total as 0
abbrev pub says_empty : List ℕ → Bool
says_empty image = not (bit_and (byte_at image 3) 1 == 0)

abbrev pub buckets_at : List ℕ → ℕ
buckets_at image = le_at w32 image 8

abbrev pub hashes_at : List ℕ → ℕ
hashes_at image = byte_at image 12

abbrev pub seed_hash_at : List ℕ → ℕ
seed_hash_at image = le_at w16 image 13

-- the number of cells
abbrev pub num_cells_at : List ℕ → ℕ
num_cells_at image = hashes_at image * buckets_at image

-- the number of eight bytes at an offset
unfoldable pub number_at : ℤ → List ℕ → ℕ → ℤ
number_at least image index = number_in least (take 8 (drop index image))

-- the first n numbers of eight bytes
abbrev pub numbers_in : ℤ → ℕ → List ℕ → List ℤ
numbers_in least zero bytes = []
numbers_in least (suc n) bytes = number_at least bytes 0 ∷ numbers_in least n (drop 8 bytes)

abbrev pub total_at : ℤ → List ℕ → ℤ
total_at least image = number_at least image 16

-- all cells, row by row
abbrev pub cells_at : ℤ → List ℕ → List ℤ
cells_at least image = numbers_in least (num_cells_at image) (drop 24 image)

-- how many bytes the image at the front takes: what follows is not part of it
abbrev pub prefix_bytes : List ℕ → ℕ
prefix_bytes image = if says_empty image then 16 else 24 + 8 * num_cells_at image

-- ---- the checks: a test, and the fault if it fails

-- the checks before any allocation
abbrev pub early_checks : (seed : ℕ) → List ℕ → List (Bool × Fault)
early_checks seed image =
    (nat_le 8 (length image), InsufficientData)
    ∷ (byte_at image 2 == 18, BadFamily)
    ∷ (byte_at image 1 == 1, BadVersion)
    ∷ (byte_at image 0 == 2, BadPreamble)
    ∷ (nat_le 16 (length image), InsufficientData)
    ∷ (not (seed_hash seed == 0), ZeroSeedHash)
    ∷ (seed_hash_at image == seed_hash seed, SeedHashMismatch)
    ∷ (nat_le 1 (hashes_at image), BadNumHashes)
    ∷ (nat_le 3 (buckets_at image), BadNumBuckets)
    ∷ (nat_lt (num_cells_at image) (2 ^ 30), TableTooLarge)
    ∷ (says_empty image || nat_le (24 + 8 * num_cells_at image) (length image), InsufficientData)
    ∷ []

-- whether the number is in the range of the type
abbrev pub is_in_range : ℤ → ℕ → ℤ → Bool
is_in_range least greatest z = int_le least z && int_le z (pos greatest)

abbrev pub total_checks : ℤ → ℕ → ℤ → List (Bool × Fault)
total_checks least greatest total =
    (is_in_range least greatest total, ValueOutOfRange)
    ∷ (int_le (pos 0) total, NegativeTotal)
    ∷ []

-- the cell is in the range of the type, and no further from zero than the total
abbrev pub cell_checks : ℤ → ℕ → (total : ℕ) → ℤ → List (Bool × Fault)
cell_checks least greatest total cell =
    (is_in_range least greatest cell, ValueOutOfRange)
    ∷ (nat_le (unsigned_abs cell) total, CellAboveTotal)
    ∷ []

-- the checks of all cells, one cell after another
abbrev pub cells_checks : ℤ → ℕ → (total : ℕ) → List ℤ → List (Bool × Fault)
cells_checks least greatest total cells = flat_map (cell_checks least greatest total) cells

abbrev pub late_checks : ℤ → ℕ → List ℕ → List (Bool × Fault)
late_checks least greatest image =
    if says_empty image then [] else
    (total_checks least greatest (total_at least image)
    ++ cells_checks least greatest (unsigned_abs (total_at least image)) (cells_at least image))

abbrev pub early_fault : (seed : ℕ) → List ℕ → Option Fault
early_fault seed image = first_failing (early_checks seed image)

abbrev pub late_fault : ℤ → ℕ → List ℕ → Option Fault
late_fault least greatest image = first_failing (late_checks least greatest image)

-- the fault of the first check that fails
abbrev pub first_fault : ℤ → ℕ → (seed : ℕ) → List ℕ → Option Fault
first_fault least greatest seed image = or_else (early_fault seed image) (late_fault least greatest image)

-- a reader's own limit, in bytes of the sketch, is checked after the early checks; a value takes `size` bytes
abbrev pub limit_fault : (size max_bytes : ℕ) → List ℕ → Option Fault
limit_fault size max_bytes image =
    if nat_lt max_bytes (grid_bytes size (hashes_at image) (buckets_at image)) then Some TableTooLarge else None

abbrev pub early_fault_within : (size max_bytes seed : ℕ) → List ℕ → Option Fault
early_fault_within size max_bytes seed image = or_else (early_fault seed image) (limit_fault size max_bytes image)

abbrev pub first_fault_within : ℤ → ℕ → (size max_bytes seed : ℕ) → List ℕ → Option Fault
first_fault_within least greatest size max_bytes seed image =
    or_else (early_fault_within size max_bytes seed image) (late_fault least greatest image)

-- ---- the value of an image

-- the sketch of the fields, with the given seed
abbrev pub value_at : ℤ → (seed : ℕ) → List ℕ → CountState
value_at least seed image =
    if says_empty image then empty_state (hashes_at image) (buckets_at image) seed else
    record {
      hashes = hashes_at image;
      buckets = buckets_at image;
      seed = seed;
      total = unsigned_abs (total_at least image);
      rows = rows_of (hashes_at image) (buckets_at image) (cells_at least image);
    }

-- the bytes are an image of the sketch with the given seed; bytes that are not named here are free
pub record IsImage (least : ℤ) (greatest seed : ℕ) (image : List ℕ) (s : CountState) : Type 0 where
  pub no_fault : first_fault least greatest seed image ≡ None
  pub value : s ≡ value_at least seed image

-- ---- the bytes that are written

-- the longs of the preamble, the version, the family, the flags, the shape and the hash of the seed
abbrev pub preamble : (flags num_buckets num_hashes hash : ℕ) → List ℕ
preamble flags num_buckets num_hashes hash =
    2 ∷ 1 ∷ 18 ∷ flags ∷ 0 ∷ 0 ∷ 0 ∷ 0 ∷ [] ++ to_le_bytes w32 num_buckets
    ++ num_hashes ∷ [] ++ to_le_bytes w16 hash ++ 0 ∷ []

-- the numbers of a list of rows, row by row
abbrev pub all_cells : List (List ℤ) → List ℤ
all_cells rows = flat_map (λ row. row) rows

-- the total and all cells, row by row
abbrev pub numbers_of : CountState → List ℤ
numbers_of s = pos s.total ∷ all_cells s.rows

-- the bytes are the image that is written for the sketch
pub record IsSpelled (least : ℤ) (greatest : ℕ) (image : List ℕ) (s : CountState) : Type 0 where
  pub state : IsCountState greatest s
  -- each cell is in the range of the type
  pub in_range : (r b : ℕ) → InRange least greatest (cell_at s.rows r b)
  pub empty : s.total ≡ 0 → image ≡ preamble 1 s.buckets s.hashes (seed_hash s.seed)
  pub full : s.total ≢ 0
      → image ≡ preamble 0 s.buckets s.hashes (seed_hash s.seed) ++ flat_map bytes_of (numbers_of s)

-- the length of the image that is written for the sketch
abbrev pub image_bytes : CountState → ℕ
image_bytes s = if s.total == 0 then 16 else 24 + 8 * (s.hashes * s.buckets)

-- ---- the promise of a reader

-- if a sketch stands for a history and has this image, the sketch that is read stands for the restored history
abbrev pub Restores : ℤ → ℕ → (seed : ℕ) → List ℕ → CountState → Type 0
Restores least greatest seed image new =
    (old : CountState) → IsImage least greatest seed image old → Extends old new Restored

-- if the bytes begin with the image that is written for a sketch of this seed, that sketch was read, and the image takes the bytes
-- that were read
abbrev pub ReadsFront : ℤ → ℕ → (seed : ℕ) → List ℕ → CountState → ℕ → Type 0
ReadsFront least greatest seed bytes new used =
    (image rest : List ℕ) (old : CountState) → seed ≡ old.seed → IsSpelled least greatest image old →
    bytes ≡ image ++ rest → (new ≡ old) × (used ≡ length image)
