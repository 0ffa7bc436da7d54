-- The grid of a sketch: the seeds of its rows, the number of buckets in each, and the cells, row by row.
use Rattle.std.specs.Prelude.{◌≡◌, ℕ, ◌*◌, ◌^◌, ◌<◌, List, length, slice_index, ℤ}
use Rattle.sketch_countmin.specs.Buckets.{bucket_by, row_seed}
use Rattle.sketch_countmin.specs.Cells.{RowCounted, RowsCounted}
use Rattle.sketch_countmin.specs.Items.{IsItemAdded, IsItemMin}

pub record GridState : Type 0 where
  pub row_seeds : List ℕ
  pub buckets : ℕ
  pub cells : List ℤ

-- the grid of these parts
abbrev pub grid_of : List ℕ → ℕ → List ℤ → GridState
grid_of row_seeds buckets cells = record { row_seeds = row_seeds; buckets = buckets; cells = cells }

-- what holds of every grid
pub record IsGrid (g : GridState) : Type 0 where
  pub some_rows : 0 < length g.row_seeds
  pub few_cells : length g.row_seeds * g.buckets < 2 ^ 30
  pub size : length g.cells ≡ length g.row_seeds * g.buckets

-- the grid with a row for each hash under this seed, and these cells
pub record IsGridOf (hashes buckets seed : ℕ) (cells : List ℤ) (g : GridState) : Type 0 where
  pub height : length g.row_seeds ≡ hashes
  pub width : g.buckets ≡ buckets
  pub seeds : (r : ℕ) → r < hashes → slice_index g.row_seeds r ≡ row_seed r seed
  pub cells_are : g.cells ≡ cells

-- z is the minimum of the item's cells
abbrev pub IsMinIn : GridState → (bytes : List ℕ) → ℤ → Type 0
IsMinIn g bytes z = IsItemMin g.buckets g.row_seeds bytes g.cells z

-- new has the rows and the buckets of old, and as many cells
pub record KeepsShape (old new : GridState) : Type 0 where
  pub row_seeds : new.row_seeds ≡ old.row_seeds
  pub buckets : new.buckets ≡ old.buckets
  pub size : length new.cells ≡ length old.cells

-- new is old with w added at the item's bucket in each row
pub record AddsItem (bytes : List ℕ) (w : ℤ) (old new : GridState) : Type 0 where
  pub shape : KeepsShape old new
  pub added : IsItemAdded old.buckets old.row_seeds bytes w old.cells new.cells

-- new is old with 1 added at each item's bucket in one row
pub record CountsInRow (items : List (List ℕ)) (row : ℕ) (old new : GridState) : Type 0 where
  pub shape : KeepsShape old new
  pub counted : RowCounted old.buckets (bucket_by old.buckets (slice_index old.row_seeds row)) items row old.cells new.cells

-- new is old with 1 added at each item's bucket in each of the first n rows
pub record CountsInRows (items : List (List ℕ)) (n : ℕ) (old new : GridState) : Type 0 where
  pub shape : KeepsShape old new
  pub counted : RowsCounted old.buckets (λ r. bucket_by old.buckets (slice_index old.row_seeds r)) items n old.cells new.cells
