-- The words and the lines of a string.
use Rattle.std.specs.Prelude.{◌≡◌, ℕ, ◌-◌, ◌<◌, ◌≤◌, ◌==◌, Bool, true, false, nat_lt, List, [], ◌∷◌, ◌++◌, filter, length, map, take, drop, Option, MatchOption, slice_index}
use Rattle.std.specs.Borrow.{Bor}
use Rattle.std.specs.Char.{is_ascii_whitespace}
use Rattle.std.specs.List.{All, position_or_len, slice_split}
use Rattle.std.specs.Simd.Lanes.{mask_l}
use Rattle.std.specs.Str.{IsUtf8}
use Rattle.std.specs.Str.Lines.{lines}
use Rattle.sketch_base.specs.declared.separator.Separator.{Separator}
use Rattle.sketch_base.specs.declared.separator.Separator.TheVariants.{Space, LineFeed, AsciiWhitespace}

-- whether a byte stands between words
abbrev pub separates : Separator → ℕ → Bool
separates Space byte = byte == 32
separates LineFeed byte = byte == 10
separates AsciiWhitespace byte = is_ascii_whitespace byte

-- the index of the first element of a list that passes a test, or its length if none does. Bit i of `marks` is set exactly
-- if element i passes
abbrev pub IsFirstMarked : ℕ → ℕ → ℕ → Type 0
IsFirstMarked marks len at =
    (test : ℕ → Bool) (xs : List ℕ) → length xs ≡ len → len ≤ 64 → marks ≡ mask_l (map test xs) → at ≡ position_or_len test xs

-- the words: the nonempty parts between separators
abbrev pub words_by : Separator → List ℕ → List (List ℕ)
words_by separator text = filter (λ word. nat_lt 0 (length word)) (slice_split (separates separator) text)

-- the words between bytes of ASCII white space
abbrev pub words_of : List ℕ → List (List ℕ)
words_of text = words_by AsciiWhitespace text

-- a word and the words after it, or no words if it is empty
abbrev pub with_word : List ℕ → List (List ℕ) → List (List ℕ)
with_word [] words = []
with_word (x ∷ xs) words = (x ∷ xs) ∷ words

-- the first line and the string after it. A string without lines is empty
abbrev pub TakesLine : List ℕ → Option (Bor (List ℕ) × Bor (List ℕ)) → Type 0
TakesLine text found =
    MatchOption found (text ≡ []) (λ taken. (lines text ≡ taken.0.now ∷ lines taken.1.now) × (length taken.1.now < length text))

-- the index behind the last byte that passes the test, or 0 if there is none
abbrev pub IsBehindLast : (ℕ → Bool) → List ℕ → ℕ → Type 0
IsBehindLast test bytes at = (0 < at → test (slice_index bytes (at - 1)) ≡ true) × All (λ byte. test byte ≡ false) (drop at bytes)

-- whatever comes after these bytes, its parts are those before the index and those from the index on
abbrev pub SplitsAt : (List ℕ → List (List ℕ)) → List ℕ → ℕ → Type 0
SplitsAt parts bytes at =
    (more : List ℕ) → parts (bytes ++ more) ≡ parts (take at bytes) ++ parts (drop at bytes ++ more)

-- UTF-8 that begins with these bytes may be cut at the index
abbrev pub CutsUtf8 : List ℕ → ℕ → Type 0
CutsUtf8 bytes at = (more : List ℕ) → IsUtf8 (bytes ++ more) → IsUtf8 (take at bytes) × IsUtf8 (drop at bytes ++ more)
