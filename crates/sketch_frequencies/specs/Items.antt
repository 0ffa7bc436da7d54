-- How items are compared, written and read, and the encodings of numbers and strings.
use Rattle.std.specs.Prelude.{◌≡◌, ◌⊎◌, ℕ, ℤ, pos, negsuc, ◌+◌, ◌^◌, ◌≤◌, nat_lt, nat_eq, Bool, true, false, List, ◌++◌, length, take, drop, Result, Ok, Err, IsOk, if◌then◌else◌}
use Rattle.std.specs.Cmp.{IsEquivalence}
use Rattle.std.specs.Int.{w32, w64, to_le_bytes, cast_unsigned}
use Rattle.std.specs.Ordering.{int_eq}
use Rattle.std.specs.Result.{IsOkAnd}
use Rattle.std.specs.Str.{is_utf8, bytes_eq}
use Rattle.sketch_base.specs.Errors.{ErrorValue, invalid_argument, invalid_data, no_memory}
use Rattle.sketch_base.specs.Fields.{le_at, signed_le_at}
use Rattle.sketch_base.specs.declared.fault.Fault.{Fault}
use Rattle.sketch_base.specs.declared.fault.Fault.TheVariants.{InsufficientData, ItemTooLong, InvalidUtf8, BadItem}

-- how items are compared, written and read by their contents, which are independent of where the items lie in memory
pub record Codec (C : Type 0) : Type 0 where
  -- whether two contents are those of equal items
  pub same : C → C → Bool
  -- the bytes of a content, or the fault for which it has none
  pub encoding : C → Result (List ℕ) Fault
  -- the content at the front of the bytes and how many of them it takes, or the fault for which there is none
  pub reading : List ℕ → Result (C × ℕ) Fault
  -- whether items may own memory outside of themselves
  pub owns : Bool
  -- how many bytes of memory an item of this content owns
  pub owned : C → ℕ

-- the maximum bytes of memory that items own if they take n bytes in an image: n, or none if items own no memory
abbrev pub max_owned : {C : Type 0} → Codec C → ℕ → ℕ
max_owned codec n = if codec.owns then n else 0

-- each content is written in at most n bytes
abbrev pub IsWithin : {C : Type 0} → Codec C → ℕ → Type 0
IsWithin {C} codec n = (v : C) (bytes : List ℕ) → codec.encoding v ≡ Ok bytes → length bytes ≤ n

-- Equality is an equivalence. What was written is read as an equal item, whatever follows it. An item that was read lies within
-- the bytes, and owns at most the number of bytes that it takes.
pub record IsLawful {C : Type 0} (codec : Codec C) : Type 0 where
  pub equivalence : IsEquivalence codec.same
  pub read_back :
      (v : C) (bytes rest : List ℕ) → codec.encoding v ≡ Ok bytes →
      (w : C) × (codec.reading (bytes ++ rest) ≡ Ok (w, length bytes)) × (codec.same w v ≡ true)
  pub within : (v : C) (used : ℕ) (bytes : List ℕ) → codec.reading bytes ≡ Ok (v, used) → used ≤ length bytes
  pub owned_bound :
      (v : C) (used : ℕ) (bytes : List ℕ) → codec.reading bytes ≡ Ok (v, used) → codec.owned v ≤ max_owned codec used

module _ {C : Type 0} (codec : Codec C) where
  -- the item was written after the old bytes
  abbrev pub Writes : List ℕ → C → List ℕ → Type 0
  Writes old v new = IsOkAnd (codec.encoding v) (λ bytes. new ≡ old ++ bytes)

  -- the item was read at the front of the old bytes, and the new ones remain
  pub record Reads (old : List ℕ) (v : C) (new : List ℕ) : Type 0 where
    pub used : ℕ
    pub within : used ≤ length old
    pub read : codec.reading old ≡ Ok (v, used)
    pub left : new ≡ drop used old

  -- an allocation failed, or the item cannot be written for this fault
  abbrev pub IsWritingRefusal : C → ErrorValue → Type 0
  IsWritingRefusal v e =
      (e ≡ no_memory) ⊎ ((e ≡ invalid_argument e.fault) × (codec.encoding v ≡ Err e.fault))

  -- an allocation failed, or there is no item at the front of the bytes for this fault
  abbrev pub IsReadingRefusal : List ℕ → ErrorValue → Type 0
  IsReadingRefusal bytes e =
      (e ≡ no_memory) ⊎ ((e ≡ invalid_data e.fault) × (codec.reading bytes ≡ Err e.fault))

-- some bytes, perhaps none, were added at the end
abbrev pub AddsBytes : List ℕ → List ℕ → Type 0
AddsBytes old new = (part : List ℕ) × (new ≡ old ++ part)

-- some bytes, perhaps none, were taken from the front
abbrev pub TakesBytes : List ℕ → List ℕ → Type 0
TakesBytes old new = (n : ℕ) × (new ≡ drop n old)

-- ---- unsigned numbers of 64 bits: eight bytes

abbrev pub u64_encoding : ℕ → Result (List ℕ) Fault
u64_encoding n = if nat_lt n (2 ^ 64) then Ok (to_le_bytes w64 n) else Err BadItem

abbrev pub u64_reading : List ℕ → Result (ℕ × ℕ) Fault
u64_reading bytes = if nat_lt (length bytes) 8 then Err InsufficientData else Ok (le_at w64 bytes 0, 8)

abbrev pub u64_codec : Codec ℕ
u64_codec =
    record { same = nat_eq; encoding = u64_encoding; reading = u64_reading; owns = false; owned = λ n. 0 }

-- ---- signed numbers of 64 bits: the eight bytes of their two's complement

-- negsuc n is the number - n - 1
abbrev pub fits_i64 : ℤ → Bool
fits_i64 (pos n) = nat_lt n (2 ^ 63)
fits_i64 (negsuc n) = nat_lt n (2 ^ 63)

abbrev pub i64_encoding : ℤ → Result (List ℕ) Fault
i64_encoding z = if fits_i64 z then Ok (to_le_bytes w64 (cast_unsigned w64 z)) else Err BadItem

abbrev pub i64_reading : List ℕ → Result (ℤ × ℕ) Fault
i64_reading bytes = if nat_lt (length bytes) 8 then Err InsufficientData else Ok (signed_le_at w64 bytes 0, 8)

abbrev pub i64_codec : Codec ℤ
i64_codec =
    record { same = int_eq; encoding = i64_encoding; reading = i64_reading; owns = false; owned = λ n. 0 }

-- ---- strings: four bytes of length, and then that many bytes of UTF-8

abbrev pub text_encoding : List ℕ → Result (List ℕ) Fault
text_encoding text =
    if is_utf8 text
    then (if nat_lt (length text) (2 ^ 32) then Ok (to_le_bytes w32 (length text) ++ text) else Err ItemTooLong)
    else Err BadItem

-- the string of the first n bytes
abbrev pub text_taken : ℕ → List ℕ → Result (List ℕ) Fault
text_taken n bytes =
    if nat_lt (length bytes) n then Err InsufficientData
    else (if is_utf8 (take n bytes) then Ok (take n bytes) else Err InvalidUtf8)

-- the string, and how many bytes it takes with its length
abbrev pub with_length : ℕ → Result (List ℕ) Fault → Result (List ℕ × ℕ) Fault
with_length used (Ok text) = Ok (text, used)
with_length used (Err fault) = Err fault

abbrev pub text_reading : List ℕ → Result (List ℕ × ℕ) Fault
text_reading bytes =
    if nat_lt (length bytes) 4 then Err InsufficientData
    else with_length (4 + le_at w32 bytes 0) (text_taken (le_at w32 bytes 0) (drop 4 bytes))

-- the allocation of a complete string failed, or the first n bytes are no string for this fault
abbrev pub IsTextRefusal : ℕ → List ℕ → ErrorValue → Type 0
IsTextRefusal n bytes e =
    ((e ≡ no_memory) × IsOk (text_taken n bytes)) ⊎ ((e ≡ invalid_data e.fault) × (text_taken n bytes ≡ Err e.fault))

-- strings are compared, written and read by their bytes, which they own
abbrev pub text_codec : Codec (List ℕ)
text_codec =
    record { same = bytes_eq; encoding = text_encoding; reading = text_reading; owns = true; owned = λ text. length text }
