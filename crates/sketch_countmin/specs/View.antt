-- A sketch in the bytes of its image: its checks, and its value.
use Rattle.std.specs.Prelude.{◌≡◌, ℕ, ◌*◌, ◌/◌, ◌<◌, ◌==◌, Option, List, [], length, map, replicate, ℤ, pos, ◌-ℤ◌, unsigned_abs, if◌then◌else◌}
use Rattle.std.specs.Int.{int_min, int_max}
use Rattle.sketch_base.specs.Checks.{first_failing, or_else}
use Rattle.sketch_base.specs.declared.fault.Fault.{Fault}
use Rattle.sketch_countmin.specs.Image.{says_empty, hashes_at, buckets_at, numbers_in, total_at, cells_at, total_checks, early_fault}
use Rattle.sketch_countmin.specs.Rows.{rows_of}
use Rattle.sketch_countmin.specs.State.{CountState, empty_state}
use Rattle.sketch_countmin.specs.Table.{IsTable}

-- the number nearest to z that passes the checks of a cell: it is in the range of the type, and no further from zero than
-- the total
abbrev pub nearest : ℤ → (total : ℕ) → ℤ → ℤ
nearest least total z = int_max (int_max least (pos 0 -ℤ pos total)) (int_min z (pos total))

-- the fault of the first check that fails, of those before the cells
abbrev pub view_fault : ℤ → ℕ → (seed : ℕ) → List ℕ → Option Fault
view_fault least greatest seed image =
    or_else (early_fault seed image)
    (first_failing (if says_empty image then [] else total_checks least greatest (total_at least image)))

-- the sketch of the fields, with the given seed, in which each cell is the nearest that passes
abbrev pub view_at : ℤ → (seed : ℕ) → List ℕ → CountState
view_at least seed image =
    if says_empty image then empty_state (hashes_at image) (buckets_at image) seed else
    record {
      hashes = hashes_at image;
      buckets = buckets_at image;
      seed = seed;
      total = unsigned_abs (total_at least image);
      rows = rows_of (hashes_at image) (buckets_at image)
          (map (nearest least (unsigned_abs (total_at least image))) (cells_at least image));
    }

-- ---- the fields of a view

-- the cells of bytes
abbrev pub cells_of_bytes : ℤ → (total : ℕ) → List ℕ → List ℤ
cells_of_bytes least total bytes = map (nearest least total) (numbers_in least (length bytes / 8) bytes)

-- n cells: those of the bytes, or zeros if there are no bytes
abbrev pub cells_shown : ℤ → (total n : ℕ) → List ℕ → List ℤ
cells_shown least total n bytes = if length bytes == 0 then replicate n (pos 0) else cells_of_bytes least total bytes

-- the fields are consistent
pub record IsView (least : ℤ) (greatest num_hashes : ℕ) (row_seeds : List ℕ) (buckets seed : ℕ) (total : ℤ) (bytes : List ℕ) : Type 0 where
  pub rows : length row_seeds ≡ num_hashes
  pub table : IsTable greatest row_seeds buckets seed total
      (cells_shown least (unsigned_abs total) (length row_seeds * buckets) bytes)
  pub whole : 0 < length bytes → length bytes ≡ 8 * (length row_seeds * buckets)
