-- Many strings: in one buffer of bytes with offsets, where each string goes from one offset to the next, or as slices.
use Rattle.std.specs.Prelude.{◌≡◌, ℕ, ◌+◌, ◌-◌, ◌<◌, ◌≤◌, List, length, map, drop, slice_index, All, EachIndex}
use Rattle.std.specs.List.{slice_range, zip}
use Rattle.std.specs.Str.{IsUtf8}
use Rattle.std.specs.Borrow.{Bor}

-- the strings of a buffer: one fewer than its offsets
unfoldable pub strings_of : (bytes offsets : List ℕ) → List (List ℕ)
strings_of bytes offsets = map (λ ends. slice_range bytes ends.0 ends.1) (zip offsets (drop 1 offsets))

-- there is an offset, none is below the one before it, and none exceeds the length of the buffer
pub record AreOffsets (bytes offsets : List ℕ) : Type 0 where
  pub some : 0 < length offsets
  pub ascending : (k : ℕ) → k + 1 < length offsets → slice_index offsets k ≤ slice_index offsets (k + 1)
  pub within : EachIndex offsets (λ k. slice_index offsets k ≤ length bytes)

-- the offsets are valid, and the bytes between each offset and the next are UTF-8
pub record AreStrings (bytes offsets : List ℕ) : Type 0 where
  pub ends : AreOffsets bytes offsets
  pub utf8 : All IsUtf8 (strings_of bytes offsets)

-- the strings fill the buffer: the last offset is its length
pub record AreBuffered (bytes offsets : List ℕ) : Type 0 where
  pub strings : AreStrings bytes offsets
  pub end : slice_index offsets (length offsets - 1) ≡ length bytes

-- the strings of slices
abbrev pub strings_at : List (Bor (List ℕ)) → List (List ℕ)
strings_at items = map (λ item. item.now) items
