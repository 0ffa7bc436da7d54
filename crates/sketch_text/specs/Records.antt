-- The records of bytes, which are lines or records of CSV, and their parts.
use Rattle.std.specs.Prelude.{◌≡◌, ℕ, ◌-◌, ◌<◌, ◌==◌, Bool, false, true, List, [], ◌∷◌, length, take, drop, Option, MatchOption}
use Rattle.std.specs.Borrow.{Bor}
use Rattle.std.specs.List.{list_any, slice_split}
use Rattle.std.specs.Str.Lines.{lines}
use Rattle.sketch_base.specs.Split.{words_of}
use Rattle.sketch_text.specs.Columns.{item_of, records_with}
use Rattle.sketch_text.specs.Csv.{begins_with_quote, csv_records, field_at, field_text}
use Rattle.sketch_text.specs.declared.part.Part.{Part}
use Rattle.sketch_text.specs.declared.part.Part.TheVariants as part
use Rattle.sketch_text.specs.declared.record_part.RecordPart.{RecordPart}
use Rattle.sketch_text.specs.declared.record_part.RecordPart.TheVariants as record_part
use Rattle.sketch_text.specs.declared.records.Records.{Records}
use Rattle.sketch_text.specs.declared.records.Records.TheVariants as records

-- a part of a line, or nothing if the line has too few words or fields
abbrev pub part_of : Part → List ℕ → List (List ℕ)
part_of part.Line line = line ∷ []
part_of (part.Word index) line = take 1 (drop index (words_of line))
part_of (part.Field field) line = take 1 (drop field.index (slice_split (λ byte. byte == field.delimiter) line))

-- how bytes are split into records that have a part
abbrev pub splits_by : RecordPart → Records
splits_by (record_part.Line chosen) = records.Lines
splits_by (record_part.Csv field) = records.Csv field.delimiter
splits_by (record_part.Columns chosen) = records_with chosen.split

-- a part of a record: a part of a line, the text of a field of CSV, or an item of columns. Nothing if the record does not have it
abbrev pub part_in : RecordPart → List ℕ → List (List ℕ)
part_in (record_part.Line chosen) line = part_of chosen line
part_in (record_part.Csv field) row = field_text field.delimiter field.index row
part_in (record_part.Columns chosen) row = item_of chosen row

-- whether a part of a record may not stand in one piece: a field of CSV in quotes, or columns
abbrev pub may_be_made : RecordPart → List ℕ → Bool
may_be_made (record_part.Line chosen) line = false
may_be_made (record_part.Csv field) row = list_any begins_with_quote (field_at field.delimiter field.index row)
may_be_made (record_part.Columns chosen) row = true

-- the records of bytes, without their ends
abbrev pub records_in : Records → List ℕ → List (List ℕ)
records_in records.Lines bytes = lines bytes
records_in (records.Csv delimiter) bytes = csv_records delimiter bytes

abbrev pub records_by : RecordPart → List ℕ → List (List ℕ)
records_by part bytes = records_in (splits_by part) bytes

-- the first record without its end, and the bytes after it. Bytes without records are empty
abbrev pub TakesRecord : RecordPart → List ℕ → Option (Bor (List ℕ) × Bor (List ℕ)) → Type 0
TakesRecord part bytes found =
    MatchOption found (bytes ≡ []) (λ taken. (records_by part bytes ≡ taken.0.now ∷ records_by part taken.1.now)
    × (length taken.1.now < length bytes))

-- these are the last of the bytes
abbrev pub IsEndOf : (bytes end : List ℕ) → Type 0
IsEndOf bytes end = end ≡ drop (length bytes - length end) bytes
