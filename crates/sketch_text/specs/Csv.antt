-- CSV: records between line feeds, fields between delimiters, and either byte may stand in quotes (RFC 4180, read leniently).
use Rattle.std.specs.Prelude.{◌≡◌, ℕ, ◌<◌, ◌==◌, ◌||◌, ◌&&◌, Bool, true, false, not, if◌then◌else◌, List, [], ◌∷◌, ◌++◌, length, map, take, drop, slice_index, Option, MatchOption}
use Rattle.std.specs.Borrow.{Bor}
use Rattle.std.specs.List.{flat_map, list_any, onto_first}
use Rattle.std.specs.Str.Lines.{lines_of_parts}
use Rattle.sketch_text.specs.declared.place.Place.{Place}
use Rattle.sketch_text.specs.declared.place.Place.TheVariants.{Start, Bare, Quoted, Closed}

-- the quote
abbrev pub quote : ℕ
quote = 34

-- The place in a field after a byte, where `is_end` says whether the byte ends a field outside of quotes. A quote opens quotes at the
-- start of a field only. In quotes a quote closes them, unless another quote follows: two quotes stand for one.
abbrev pub after_byte : (is_end : Bool) → Place → ℕ → Place
after_byte is_end Start byte = if byte == quote then Quoted else if is_end then Start else Bare
after_byte is_end Bare byte = if is_end then Start else Bare
after_byte is_end Quoted byte = if byte == quote then Closed else Quoted
after_byte is_end Closed byte = if byte == quote then Quoted else if is_end then Start else Bare

-- whether a byte at this place stands in quotes
abbrev pub in_quotes : Place → Bool
in_quotes Start = false
in_quotes Bare = false
in_quotes Quoted = true
in_quotes Closed = false

-- the place after bytes
abbrev pub after_bytes : (ends : ℕ → Bool) → Place → List ℕ → Place
after_bytes ends place [] = place
after_bytes ends place (x ∷ xs) = after_bytes ends (after_byte (ends x) place x) xs

-- whether a byte at this place passes a test and is not in quotes
abbrev pub cuts : (test : ℕ → Bool) → Place → ℕ → Bool
cuts test place byte = not (in_quotes place) && test byte

-- the parts of bytes, from this place on, between those that pass a test and are not in quotes
abbrev pub split_unquoted : (ends test : ℕ → Bool) → Place → List ℕ → List (List ℕ)
split_unquoted ends test place [] = [] ∷ []
split_unquoted ends test place (x ∷ xs) =
    if cuts test place x then [] ∷ split_unquoted ends test Start xs
    else onto_first x (split_unquoted ends test (after_byte (ends x) place x) xs)

-- none of these bytes, from this place on, passes a test and is not in quotes
abbrev pub IsOnePart : (ends test : ℕ → Bool) → Place → List ℕ → Type 0
IsOnePart ends test place [] = Unit {0}
IsOnePart ends test place (x ∷ xs) = (cuts test place x ≡ false) × IsOnePart ends test (after_byte (ends x) place x) xs

-- none of the bytes before the index passes a test outside of quotes, from this place on. The byte at the index does, or the index is the
-- number of bytes
abbrev pub IsFirstCut : (ends test : ℕ → Bool) → Place → List ℕ → ℕ → Type 0
IsFirstCut ends test place bytes at =
    IsOnePart ends test place (take at bytes)
    × (at < length bytes → cuts test (after_bytes ends place (take at bytes)) (slice_index bytes at) ≡ true)

-- the bytes leave the place as it is, and outside of quotes none of them passes a test that only bytes pass that end a field
abbrev pub IsStill : (ends : ℕ → Bool) → Place → List ℕ → Type 0
IsStill ends place bytes =
    (after_bytes ends place bytes ≡ place)
    × ((test : ℕ → Bool) → ((x : ℕ) → test x ≡ true → ends x ≡ true) → IsOnePart ends test place bytes)

-- ---- records

-- a line feed
abbrev pub is_feed : ℕ → Bool
is_feed byte = byte == 10

-- a byte that ends a field of a record: a line feed or the delimiter
abbrev pub ends_field : (delimiter : ℕ) → ℕ → Bool
ends_field delimiter byte = byte == 10 || byte == delimiter

-- the parts between line feeds that are not in quotes
abbrev pub record_parts : (delimiter : ℕ) → List ℕ → List (List ℕ)
record_parts delimiter bytes = split_unquoted (ends_field delimiter) is_feed Start bytes

-- The records: these parts, each without a carriage return before its line feed. An empty last part is no record.
abbrev pub csv_records : (delimiter : ℕ) → List ℕ → List (List ℕ)
csv_records delimiter bytes = lines_of_parts (record_parts delimiter bytes)

-- the parts, each with its line feed. The last has none, and if it is empty, it is left out
abbrev pub with_feeds : List (List ℕ) → List (List ℕ)
with_feeds [] = []
with_feeds (x ∷ []) = if length x == 0 then [] else x ∷ []
with_feeds (x ∷ y ∷ more) = (x ++ 10 ∷ []) ∷ with_feeds (y ∷ more)

-- the records with their ends
abbrev pub raw_csv_records : (delimiter : ℕ) → List ℕ → List (List ℕ)
raw_csv_records delimiter bytes = with_feeds (record_parts delimiter bytes)

-- none of these bytes, from this place on, ends a record
abbrev pub IsInOneRecord : (delimiter : ℕ) → Place → List ℕ → Type 0
IsInOneRecord delimiter place bytes = IsOnePart (ends_field delimiter) is_feed place bytes

-- the place after bytes of records
abbrev pub place_after : (delimiter : ℕ) → Place → List ℕ → Place
place_after delimiter place bytes = after_bytes (ends_field delimiter) place bytes

-- the byte at the index is the first that ends a record, from this place on, or the index is the number of bytes
abbrev pub IsFirstEnd : (delimiter : ℕ) → Place → List ℕ → ℕ → Type 0
IsFirstEnd delimiter place bytes at = IsFirstCut (ends_field delimiter) is_feed place bytes at

-- the last of these bytes, from this place on, ends a record
abbrev pub EndsRecord : (delimiter : ℕ) → Place → List ℕ → Type 0
EndsRecord delimiter place bytes = (front : List ℕ) × (bytes ≡ front ++ 10 ∷ []) × (in_quotes (place_after delimiter place front) ≡ false)

-- the index is behind the last byte that ends a record, from this place on, or it is 0 and none does
abbrev pub IsBehindLastEnd : (delimiter : ℕ) → Place → List ℕ → ℕ → Type 0
IsBehindLastEnd delimiter place bytes at =
    (0 < at → EndsRecord delimiter place (take at bytes))
    × IsInOneRecord delimiter (place_after delimiter place (take at bytes)) (drop at bytes)

-- the first record with its end, the same record without it, and the bytes after it. Bytes without records are empty
abbrev pub TakesRecord : (delimiter : ℕ) → List ℕ → Option (Bor (List ℕ) × Bor (List ℕ) × Bor (List ℕ)) → Type 0
TakesRecord delimiter bytes found =
    MatchOption found (bytes ≡ []) (λ taken. (raw_csv_records delimiter bytes ≡ taken.0.now ∷ raw_csv_records delimiter taken.2.now)
    × (csv_records delimiter bytes ≡ taken.1.now ∷ csv_records delimiter taken.2.now)
    × (csv_records delimiter taken.0.now ≡ taken.1.now ∷ []) × (length taken.2.now < length bytes))

-- ---- fields

-- the parts between delimiters that are not in quotes
abbrev pub parts_between : (delimiter : ℕ) → List ℕ → List (List ℕ)
parts_between delimiter bytes = split_unquoted (λ byte. byte == delimiter) (λ byte. byte == delimiter) Start bytes

-- the fields of a record, with their quotes. A record without bytes has none
abbrev pub csv_fields : (delimiter : ℕ) → List ℕ → List (List ℕ)
csv_fields delimiter [] = []
csv_fields delimiter (x ∷ xs) = parts_between delimiter (x ∷ xs)

-- the index is that of the first delimiter outside of quotes, or the number of bytes
abbrev pub IsFieldEnd : (delimiter : ℕ) → List ℕ → ℕ → Type 0
IsFieldEnd delimiter bytes at = IsFirstCut (λ byte. byte == delimiter) (λ byte. byte == delimiter) Start bytes at

-- whether the first byte is a quote
abbrev pub begins_with_quote : List ℕ → Bool
begins_with_quote [] = false
begins_with_quote (x ∷ xs) = x == quote

-- what a byte at this place adds to the text of its field
abbrev pub added_at : Place → ℕ → List ℕ
added_at Start byte = if byte == quote then [] else byte ∷ []
added_at Bare byte = byte ∷ []
added_at Quoted byte = if byte == quote then [] else byte ∷ []
added_at Closed byte = byte ∷ []

-- the text of a field, from this place on: its bytes without the quotes around them, and one quote for two in quotes
abbrev pub text_from : Place → List ℕ → List ℕ
text_from place [] = []
text_from place (x ∷ xs) = added_at place x ++ text_from (after_byte false place x) xs

abbrev pub text_of_field : List ℕ → List ℕ
text_of_field field = text_from Start field

-- the field of an index, counted from 0, with its quotes, or nothing if the record has too few fields
abbrev pub field_at : (delimiter index : ℕ) → List ℕ → List (List ℕ)
field_at delimiter index row = take 1 (drop index (csv_fields delimiter row))

-- its text
abbrev pub field_text : (delimiter index : ℕ) → List ℕ → List (List ℕ)
field_text delimiter index row = map text_of_field (field_at delimiter index row)

-- ---- the spelling of a text

-- a byte that only a field in quotes may have: the delimiter, a quote, a line feed or a carriage return
abbrev pub needs_quotes : (delimiter : ℕ) → ℕ → Bool
needs_quotes delimiter byte = byte == delimiter || byte == quote || byte == 10 || byte == 13

-- a byte in quotes: a quote is doubled
abbrev pub in_quotes_as : ℕ → List ℕ
in_quotes_as byte = if byte == quote then quote ∷ quote ∷ [] else byte ∷ []

-- a field that has a text: in quotes exactly if one of its bytes needs them
abbrev pub spelled : (delimiter : ℕ) → List ℕ → List ℕ
spelled delimiter text =
    if list_any (needs_quotes delimiter) text then quote ∷ flat_map in_quotes_as text ++ quote ∷ [] else text
