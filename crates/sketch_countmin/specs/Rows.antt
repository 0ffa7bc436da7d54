-- A table of numbers: a list of rows.
use Rattle.std.specs.Prelude.{ℕ, zero, suc, ℤ, pos, List, [], ◌∷◌, take, drop, slice_index_or}

-- the cell of a row at a bucket, or 0 past the ends
abbrev pub cell_at : List (List ℤ) → ℕ → ℕ → ℤ
cell_at rows r b = slice_index_or (slice_index_or rows r []) b (pos 0)

-- the rows of this width in a list of cells, one after another
unfoldable pub rows_of : ℕ → ℕ → List ℤ → List (List ℤ)
rows_of zero width cells = []
rows_of (suc count) width cells = take width cells ∷ rows_of count width (drop width cells)
