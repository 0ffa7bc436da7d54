-- Cells stored row by row in one list, and the effect of loops over them.
use Rattle.std.specs.Prelude.{◌≡◌, ℕ, ◌+◌, ◌*◌, ◌<◌, ◌≤◌, ◌==◌, if◌then◌else◌, List, count_by, slice_index_or, ◌⊎◌, ℤ, pos, ◌+ℤ◌, ◌≤ℤ◌}

-- the cell at an index of the list, or 0 past its end
abbrev pub cell_in : List ℤ → ℕ → ℤ
cell_in cells k = slice_index_or cells k (pos 0)

-- the cell of row r and bucket b
abbrev pub flat_at : ℕ → List ℤ → ℕ → ℕ → ℤ
flat_at buckets cells r b = cell_in cells (r * buckets + b)

-- each of the first n rows has w added at its bucket; all other cells are unchanged
pub record RowsAdded (buckets : ℕ) (w : ℤ) (bucket : ℕ → ℕ) (n : ℕ) (old new : List ℤ) : Type 0 where
  pub done : (r : ℕ) → r < n → (b : ℕ) → b < buckets
      → flat_at buckets new r b ≡ flat_at buckets old r b +ℤ (if bucket r == b then w else pos 0)
  pub rest : (k : ℕ) → n * buckets ≤ k → cell_in new k ≡ cell_in old k

-- row n has 1 added at each item's bucket; all other cells are unchanged
pub record RowCounted (buckets : ℕ) (bucket : List ℕ → ℕ) (items : List (List ℕ)) (n : ℕ) (old new : List ℤ) : Type 0 where
  pub done : (b : ℕ) → b < buckets
      → flat_at buckets new n b ≡ flat_at buckets old n b +ℤ pos (count_by (λ bytes. bucket bytes == b) items)
  pub before : (k : ℕ) → k < n * buckets → cell_in new k ≡ cell_in old k
  pub behind : (k : ℕ) → n * buckets + buckets ≤ k → cell_in new k ≡ cell_in old k

-- each of the first n rows has 1 added at each item's bucket; all other cells are unchanged
pub record RowsCounted (buckets : ℕ) (bucket : ℕ → List ℕ → ℕ) (items : List (List ℕ)) (n : ℕ) (old new : List ℤ) : Type 0 where
  pub done : (r : ℕ) → r < n → (b : ℕ) → b < buckets
      → flat_at buckets new r b ≡ flat_at buckets old r b +ℤ pos (count_by (λ bytes. bucket r bytes == b) items)
  pub rest : (k : ℕ) → n * buckets ≤ k → cell_in new k ≡ cell_in old k

-- the first n cells have those of another list added; all others are unchanged
pub record CellsAdded (n : ℕ) (old other new : List ℤ) : Type 0 where
  pub done : (k : ℕ) → k < n → cell_in new k ≡ cell_in old k +ℤ cell_in other k
  pub rest : (k : ℕ) → n ≤ k → cell_in new k ≡ cell_in old k

-- z is the minimum of the cells at the buckets of the first n rows
pub record IsMinOf (buckets : ℕ) (cells : List ℤ) (bucket : ℕ → ℕ) (n : ℕ) (z : ℤ) : Type 0 where
  pub below : (r : ℕ) → r < n → z ≤ℤ flat_at buckets cells r (bucket r)
  pub reached : (r : ℕ) × (r < n) × (z ≡ flat_at buckets cells r (bucket r))

-- z is the minimum of x and y
pub record IsLesser (x y z : ℤ) : Type 0 where
  pub first : z ≤ℤ x
  pub second : z ≤ℤ y
  pub either : (z ≡ x) ⊎ (z ≡ y)
