-- Integers of a type with a minimum and a maximum.
use Rattle.std.specs.Prelude.{◌≡◌, ℕ, ℤ, pos, negsuc, ◌≤ℤ◌, ◌*ℤ◌, Option, Some, None, List}
use Rattle.std.specs.Int.{w64, to_le_bytes, from_le_bytes, cast_unsigned, cast_signed, int_div_euclid}

-- z is in the range of the type
abbrev pub InRange : ℤ → ℕ → ℤ → Type 0
InRange least greatest z = (least ≤ℤ z) × (z ≤ℤ pos greatest)

-- the result is the value of z, or None exactly if z is out of range
abbrev pub Checks : {T : Type 0} → (T → ℤ) → ℤ → ℕ → ℤ → Option T → Type 0
Checks number least greatest z None = ¬ InRange least greatest z
Checks number least greatest z (Some v) = (number v ≡ z) × InRange least greatest z

-- z times n over d, rounded down
abbrev pub scaled : ℕ → ℕ → ℤ → ℤ
scaled n d z = int_div_euclid (z *ℤ pos n) (pos d)

-- half of z, rounded down
abbrev pub halved : ℤ → ℤ
halved z = int_div_euclid z (pos 2)

-- a number of 64 bits as bytes, little-endian
abbrev pub bytes_of : ℤ → List ℕ
bytes_of z = to_le_bytes w64 (cast_unsigned w64 z)

-- the number of eight bytes; it is signed if the type has negative numbers
abbrev pub number_in : ℤ → List ℕ → ℤ
number_in (pos _) bytes = pos (from_le_bytes w64 bytes)
number_in (negsuc _) bytes = cast_signed w64 (from_le_bytes w64 bytes)
