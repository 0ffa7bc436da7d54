-- What is done to the cells of an item, and what is read of them.
use Rattle.std.specs.Prelude.{ℕ, List, length, ℤ}
use Rattle.sketch_countmin.specs.Buckets.{buckets_by}
use Rattle.sketch_countmin.specs.Cells.{RowsAdded, IsMinOf}

-- each row has w added at the item's bucket; all other cells are unchanged
abbrev pub IsItemAdded : (buckets : ℕ) (row_seeds bytes : List ℕ) (w : ℤ) (old new : List ℤ) → Type 0
IsItemAdded buckets row_seeds bytes w old new = RowsAdded buckets w (buckets_by buckets row_seeds bytes) (length row_seeds) old new

-- z is the minimum of the item's cells
abbrev pub IsItemMin : (buckets : ℕ) (row_seeds bytes : List ℕ) (cells : List ℤ) (z : ℤ) → Type 0
IsItemMin buckets row_seeds bytes cells z = IsMinOf buckets cells (buckets_by buckets row_seeds bytes) (length row_seeds) z
