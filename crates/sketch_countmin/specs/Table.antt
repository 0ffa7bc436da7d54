-- The cells of a sketch as it stores them: in one list, row by row.
use Rattle.std.specs.Prelude.{◌≡◌, ◌≢◌, ℕ, ◌*◌, ◌^◌, ◌<◌, ◌≤◌, List, length, slice_index, slice_index_or, ℤ, pos, unsigned_abs}
use Rattle.sketch_base.specs.Hashes.{seed_hash}
use Rattle.sketch_countmin.specs.Rows.{rows_of}
use Rattle.sketch_countmin.specs.Buckets.{row_seed}
use Rattle.sketch_countmin.specs.State.{CountState}

-- the sketch with these seeds of rows
abbrev pub state_of : List ℕ → ℕ → ℕ → ℤ → List ℤ → CountState
state_of row_seeds buckets seed total cells = record {
  hashes = length row_seeds;
  buckets = buckets;
  seed = seed;
  total = unsigned_abs total;
  rows = rows_of (length row_seeds) buckets cells;
}

-- what holds of the rows and buckets of every sketch, and no call changes
pub record IsTableShape (row_seeds : List ℕ) (buckets seed : ℕ) : Type 0 where
  pub some_rows : 0 < length row_seeds
  pub few_rows : length row_seeds ≤ 255
  pub some_buckets : 3 ≤ buckets
  pub few_cells : length row_seeds * buckets < 2 ^ 30
  pub seeded : seed_hash seed ≢ 0
  pub seeds : (r : ℕ) → r < length row_seeds → slice_index row_seeds r ≡ row_seed r seed

-- what holds of the parts of every sketch
pub record IsTable (greatest : ℕ) (row_seeds : List ℕ) (buckets seed : ℕ) (total : ℤ) (cells : List ℤ) : Type 0 where
  pub shape : IsTableShape row_seeds buckets seed
  pub open shape use *
  pub size : length cells ≡ length row_seeds * buckets
  pub total_is : total ≡ pos (unsigned_abs total)
  pub fits : unsigned_abs total ≤ greatest
  pub bounded : (k : ℕ) → unsigned_abs (slice_index_or cells k (pos 0)) ≤ unsigned_abs total
