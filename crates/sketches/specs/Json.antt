-- Strings in JSON.
use Rattle.std.specs.Prelude.{◌≡◌, ℕ, ◌/◌, ◌%◌, ◌==◌, ◌||◌, nat_lt, Bool, true, List, [], ◌∷◌, ◌++◌, length, drop, Option, None, Some, option_map, slice_index, codes, encode_utf8, if◌then◌else◌}
use Rattle.std.specs.List.{flat_map}
use Rattle.std.specs.Str.Lossy.{utf8_lossy}
use Rattle.std.specs.Str.Parse.{digits_value}

-- the number of a byte, in four hexadecimal digits
abbrev pub numbered_byte : ℕ → List ℕ
numbered_byte byte =
    codes "\\u00" ++ slice_index (codes "0123456789abcdef") (byte / 16) ∷ slice_index (codes "0123456789abcdef") (byte % 16) ∷ []

-- a byte of a string: a control character by its number, a quote and a backslash after a backslash, others unchanged
abbrev pub escaped_byte : ℕ → List ℕ
escaped_byte byte =
    if nat_lt byte 32 then numbered_byte byte
    else if (byte == slice_index (codes "\"") 0 || byte == slice_index (codes "\\") 0) then codes "\\" ++ byte ∷ []
    else byte ∷ []

-- what a JSON string has between its quotes, for the bytes of a string in UTF-8
abbrev pub json_escaped : List ℕ → List ℕ
json_escaped bytes = flat_map escaped_byte bytes

-- the same for bytes that may not be UTF-8, with U+FFFD for each sequence that is not
abbrev pub json_lossy : List ℕ → List ℕ
json_lossy bytes = json_escaped (utf8_lossy bytes)

-- ---- what a JSON string means (RFC 8259, section 7)

-- whether the bytes after a backslash are a whole escape: u and four digits, or another letter
abbrev pub is_escape : List ℕ → Bool
is_escape escape = if slice_index escape 0 == slice_index (codes "u") 0 then length escape == 5 else true

-- the byte that a letter stands for; a quote, a backslash and a slash stand for themselves
abbrev pub byte_of_letter : ℕ → ℕ
byte_of_letter letter =
    if letter == slice_index (codes "b") 0 then 8
    else if letter == slice_index (codes "t") 0 then 9
    else if letter == slice_index (codes "n") 0 then 10
    else if letter == slice_index (codes "f") 0 then 12
    else if letter == slice_index (codes "r") 0 then 13
    else letter

-- the bytes that an escape stands for: those of a character, whose number is no half of a pair of surrogates
abbrev pub escape_means : List ℕ → List ℕ
escape_means escape =
    if slice_index escape 0 == slice_index (codes "u") 0 then encode_utf8 (digits_value 16 (drop 1 escape))
    else byte_of_letter (slice_index escape 0) ∷ []

-- these bytes before what was read
abbrev pub with_front : List ℕ → Option (List ℕ × List ℕ) → Option (List ℕ × List ℕ)
with_front front read = option_map (λ pair. (front ++ pair.0, pair.1)) read

-- the string that ends at the first quote, and the bytes after the quote. `escape` has what was read of an escape after its backslash
abbrev pub read_after : (escape : Option (List ℕ)) → List ℕ → Option (List ℕ × List ℕ)
read_after escape [] = None
read_after None (x ∷ text) =
    if x == slice_index (codes "\"") 0 then Some ([], text)
    else if x == slice_index (codes "\\") 0 then read_after (Some []) text
    else if nat_lt x 32 then None
    else with_front (x ∷ []) (read_after None text)
read_after (Some escape) (x ∷ text) =
    if is_escape (escape ++ x ∷ []) then with_front (escape_means (escape ++ x ∷ [])) (read_after None text)
    else read_after (Some (escape ++ x ∷ [])) text

-- what a reader of JSON takes after the first quote of a string
abbrev pub json_read : List ℕ → Option (List ℕ × List ℕ)
json_read text = read_after None text

-- A reader takes these bytes for the string, whatever follows its last quote.
abbrev pub MeansString : (written bytes : List ℕ) → Type 0
MeansString written bytes = (rest : List ℕ) → json_read (written ++ slice_index (codes "\"") 0 ∷ rest) ≡ Some (bytes, rest)
