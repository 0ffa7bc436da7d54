-- Records with their ends.
use Rattle.std.specs.Prelude.{◌≡◌, ℕ, ◌<◌, List, [], ◌∷◌, length, Option, MatchOption}
use Rattle.std.specs.Borrow.{Bor}
use Rattle.sketch_text.specs.Csv.{raw_csv_records}
use Rattle.sketch_text.specs.Records.{records_by, splits_by}
use Rattle.sketches.specs.RawLines.{raw_lines}
use Rattle.sketch_text.specs.declared.record_part.RecordPart.{RecordPart}
use Rattle.sketch_text.specs.declared.records.Records.{Records}
use Rattle.sketch_text.specs.declared.records.Records.TheVariants as records

-- the records of an input with their ends
abbrev pub raw_records_in : Records → List ℕ → List (List ℕ)
raw_records_in records.Lines bytes = raw_lines bytes
raw_records_in (records.Csv delimiter) bytes = raw_csv_records delimiter bytes

abbrev pub raws_by : RecordPart → List ℕ → List (List ℕ)
raws_by part bytes = raw_records_in (splits_by part) bytes

-- the first record with its end, the same record without it, and the bytes after it. Bytes without records are empty
abbrev pub TakesRawRecord : RecordPart → List ℕ → Option (Bor (List ℕ) × Bor (List ℕ) × Bor (List ℕ)) → Type 0
TakesRawRecord part bytes found =
    MatchOption found (bytes ≡ []) (λ taken. (raws_by part bytes ≡ taken.0.now ∷ raws_by part taken.2.now)
    × (records_by part taken.0.now ≡ taken.1.now ∷ []) × (length taken.2.now < length bytes))
