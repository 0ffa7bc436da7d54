-- Numbers in a list of bytes, by their offsets. All are little-endian.
use Rattle.std.specs.Prelude.{ℕ, zero, suc, ℤ, List, [], ◌∷◌, take, drop, slice_index}
use Rattle.std.specs.Int.{Width, w64, byte_len, from_le_bytes, to_le_bytes, cast_signed}
use Rattle.std.specs.List.{flat_map}

-- the byte at an offset
abbrev pub byte_at : List ℕ → ℕ → ℕ
byte_at bytes place = slice_index bytes place

-- the number of this width at an offset
unfoldable pub le_at : Width → List ℕ → ℕ → ℕ
le_at w bytes place = from_le_bytes w (take (byte_len w) (drop place bytes))

-- the signed number of this width at an offset
abbrev pub signed_le_at : Width → List ℕ → ℕ → ℤ
signed_le_at w bytes place = cast_signed w (le_at w bytes place)

-- the first n words of 64 bits
abbrev pub words_in : ℕ → List ℕ → List ℕ
words_in zero bytes = []
words_in (suc n) bytes = le_at w64 bytes 0 ∷ words_in n (drop 8 bytes)

-- the bytes of words of 64 bits, one after another
abbrev pub bytes_of_words : List ℕ → List ℕ
bytes_of_words words = flat_map (to_le_bytes w64) words
