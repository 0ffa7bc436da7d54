-- Which rows of a column are valid, by a bitmap.
use Rattle.std.specs.Prelude.{ℕ, zero, suc, ◌/◌, ◌%◌, ◌==◌, Bool, true, false, List, [], ◌∷◌, ◌++◌}

-- the lowest bits of a number, lowest first
abbrev pub low_bits : (count : ℕ) → ℕ → List Bool
low_bits zero n = []
low_bits (suc count) n = (n % 2 == 1) ∷ low_bits count (n / 2)

-- the bits of bytes, in each byte the lowest first
abbrev pub bits_of : List ℕ → List Bool
bits_of [] = []
bits_of (byte ∷ bytes) = low_bits 8 byte ++ bits_of bytes

-- the rows whose bits are set. A row without a bit is left out
abbrev pub valid : {A : Type 0} → (bits : List Bool) → (rows : List A) → List A
valid bits [] = []
valid [] (row ∷ rows) = []
valid (true ∷ bits) (row ∷ rows) = row ∷ valid bits rows
valid (false ∷ bits) (row ∷ rows) = valid bits rows
