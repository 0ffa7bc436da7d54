-- The columns of records, and items of several of them.
use Rattle.std.specs.Prelude.{◌≡◌, ℕ, ◌-◌, ◌<◌, ◌==◌, nat_lt, Bool, false, List, [], ◌∷◌, length, map, take, drop, Option, None, Some, if◌then◌else◌}
use Rattle.std.specs.Borrow.{Bor}
use Rattle.std.specs.Char.{is_ascii_whitespace}
use Rattle.std.specs.List.{All, flat_map, join_with_byte, list_all, slice_split}
use Rattle.sketch_base.specs.Split.{words_of}
use Rattle.sketch_text.specs.Csv.{csv_fields, parts_between, spelled, text_of_field}
use Rattle.sketch_text.specs.declared.columns.Column.{Column}
use Rattle.sketch_text.specs.declared.columns.Column.TheVariants.{FromFirst, FromLast}
use Rattle.sketch_text.specs.declared.columns.Columns.{Columns}
use Rattle.sketch_text.specs.declared.columns.Split.{Split}
use Rattle.sketch_text.specs.declared.columns.Split.TheVariants.{Words, Fields, Csv}
use Rattle.sketch_text.specs.declared.records.Records.{Records}
use Rattle.sketch_text.specs.declared.records.Records.TheVariants as records

-- the columns of a record
abbrev pub columns_of : Split → List ℕ → List (List ℕ)
columns_of Words line = words_of line
columns_of (Fields delimiter) line = slice_split (λ byte. byte == delimiter) line
columns_of (Csv delimiter) row = csv_fields delimiter row

-- the columns of what follows a delimiter
abbrev pub columns_after : Split → List ℕ → List (List ℕ)
columns_after Words rest = words_of rest
columns_after (Fields delimiter) rest = slice_split (λ byte. byte == delimiter) rest
columns_after (Csv delimiter) rest = parts_between delimiter rest

-- the columns that are left, if any are
abbrev pub columns_left : Split → Option (Bor (List ℕ)) → List (List ℕ)
columns_left split None = []
columns_left split (Some rest) = columns_after split rest.now

-- how bytes are split into records that have these columns
abbrev pub records_with : Split → Records
records_with Words = records.Lines
records_with (Fields delimiter) = records.Lines
records_with (Csv delimiter) = records.Csv delimiter

-- the column that has n columns behind it, if there is one
abbrev pub from_last : (n : ℕ) → List (List ℕ) → List (List ℕ)
from_last n columns = if nat_lt n (length columns) then take 1 (drop (length columns - 1 - n) columns) else []

-- a column of a record, or nothing if the record has too few
abbrev pub column_in : Split → List ℕ → Column → List (List ℕ)
column_in split row (FromFirst n) = take 1 (drop n (columns_of split row))
column_in split row (FromLast n) = from_last n (columns_of split row)

-- whether a record has a column
abbrev pub has_column : Split → List ℕ → Column → Bool
has_column split row column = nat_lt 0 (length (column_in split row column))

-- the text of a column
abbrev pub text_of : Split → List ℕ → List ℕ
text_of Words column = column
text_of (Fields delimiter) column = column
text_of (Csv delimiter) column = text_of_field column

-- what a column adds to an item of several columns: of CSV, the spelling of its text
abbrev pub added_by : Split → List ℕ → List ℕ
added_by Words column = column
added_by (Fields delimiter) column = column
added_by (Csv delimiter) column = spelled delimiter (text_of_field column)

-- the byte between the columns of an item: a space between words, else the delimiter
abbrev pub between : Split → ℕ
between Words = 32
between (Fields delimiter) = delimiter
between (Csv delimiter) = delimiter

-- what the columns of a record add to an item
abbrev pub added_in : Split → List ℕ → List Column → List (List ℕ)
added_in split row columns = flat_map (λ column. map (added_by split) (column_in split row column)) columns

-- the columns of an item
abbrev pub chosen_by : Columns → List Column
chosen_by chosen = chosen.first ∷ take chosen.num_more chosen.more

-- what columns of a record add to an item, joined, or nothing if the record does not have all of them
abbrev pub joined_of : Columns → List ℕ → List (List ℕ)
joined_of chosen row =
    if list_all (has_column chosen.split row) (chosen_by chosen)
    then join_with_byte (between chosen.split) (added_in chosen.split row (chosen_by chosen)) ∷ [] else []

-- the item that columns of a record make, or nothing if the record does not have all of them: the text of one column, or several joined
abbrev pub item_of : Columns → List ℕ → List (List ℕ)
item_of chosen row =
    if chosen.num_more == 0 then map (text_of chosen.split) (column_in chosen.split row chosen.first) else joined_of chosen row

-- ---- columns that are read back from an item

-- a word: it has a byte, and none of its bytes is ASCII white space
abbrev pub IsWord : List ℕ → Type 0
IsWord word = (0 < length word) × All (λ byte. is_ascii_whitespace byte ≡ false) word

-- a field between delimiters: none of its bytes is the delimiter
abbrev pub IsField : (delimiter : ℕ) → List ℕ → Type 0
IsField delimiter field = All (λ byte. (byte == delimiter) ≡ false) field
