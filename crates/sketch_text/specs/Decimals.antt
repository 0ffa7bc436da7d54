-- Numbers in decimal digits.
use Rattle.std.specs.Prelude.{ℕ, ℤ, ◌^◌, ◌==◌, nat_lt, neg_ℤ, pos, ◌&&◌, List, [], ◌∷◌, length, Option, Some, None, if◌then◌else◌}
use Rattle.std.specs.Option.{option_and_then}
use Rattle.std.specs.Str.{all_ascii_digits}
use Rattle.std.specs.Str.Parse.{digits_value}

-- the number below 2^64 that decimal digits spell, if the bytes are one or more digits and nothing else
abbrev pub number_in : List ℕ → Option ℕ
number_in text =
    if nat_lt 0 (length text) && all_ascii_digits text && nat_lt (digits_value 10 text) (2 ^ 64)
    then Some (digits_value 10 text) else None

-- a number, if it is below 2^63
abbrev pub not_negative : ℕ → Option ℤ
not_negative size = if nat_lt size (2 ^ 63) then Some (pos size) else None

-- minus a number, if that is at least -2^63
abbrev pub negative : ℕ → Option ℤ
negative size = if nat_lt (2 ^ 63) size then None else Some (neg_ℤ (pos size))

-- the number from -2^63 to 2^63 - 1 that decimal digits spell, with or without a minus sign before them
abbrev pub signed_in : List ℕ → Option ℤ
signed_in [] = None
signed_in (x ∷ xs) = if x == 45 then option_and_then negative (number_in xs) else option_and_then not_negative (number_in (x ∷ xs))
