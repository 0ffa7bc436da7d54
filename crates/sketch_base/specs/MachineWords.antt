-- Arithmetic modulo 2^64, and the little-endian words in a list of bytes.
use Rattle.std.specs.Prelude.{ℕ, ◌+◌, ◌*◌, ◌%◌, ◌^◌, List, [], ◌∷◌, slice_index}
use Rattle.std.specs.Int.{w32, w64, from_le_bytes}

-- wrapping sums and products
abbrev pub wrapping_add : ℕ → ℕ → ℕ
wrapping_add x y = (x + y) % 2 ^ 64

abbrev pub wrapping_mul : ℕ → ℕ → ℕ
wrapping_mul x y = (x * y) % 2 ^ 64

-- the word of eight bytes at an offset
abbrev pub word_at : List ℕ → ℕ → ℕ
word_at bytes i = from_le_bytes w64
    (slice_index bytes i ∷ slice_index bytes (i + 1) ∷ slice_index bytes (i + 2) ∷ slice_index bytes (i + 3)
    ∷ slice_index bytes (i + 4) ∷ slice_index bytes (i + 5) ∷ slice_index bytes (i + 6)
    ∷ slice_index bytes (i + 7) ∷ [])

-- the word of four bytes at an offset
abbrev pub half_word_at : List ℕ → ℕ → ℕ
half_word_at bytes i = from_le_bytes w32
    (slice_index bytes i ∷ slice_index bytes (i + 1) ∷ slice_index bytes (i + 2) ∷ slice_index bytes (i + 3) ∷ [])

-- the number whose bytes these are, the lowest first
abbrev pub le_number : List ℕ → ℕ
le_number [] = 0
le_number (byte ∷ bytes) = byte + 256 * le_number bytes
