-- How much of a chunk of a stream is finished, whatever comes after it.
use Rattle.std.specs.Ordering.{int_eq}
use Rattle.core.specs.Str.{IsValidUpTo}
use Rattle.std.specs.Prelude.{◌≡◌, ℕ, ℤ, pos, List, length, Option, Some, None, if◌then◌else◌}
use Rattle.std.specs.Str.{IsUtf8}
use Rattle.std.specs.Str.Lines.{lines}
use Rattle.sketch_base.specs.Split.{CutsUtf8, IsBehindLast, SplitsAt, separates, words_by}
use Rattle.sketch_base.specs.declared.separator.Separator.TheVariants.{AsciiWhitespace, LineFeed}
use Rattle.sketch_text.specs.Csv.{IsBehindLastEnd, csv_records}
use Rattle.sketch_text.specs.declared.place.Place.TheVariants.{Start}
use Rattle.datasketches_c.specs.declared.chunks.Chunk.{Chunk}
use Rattle.datasketches_c.specs.declared.chunks.Chunk.TheVariants.{Words, Lines, CsvRecords, Utf8}

-- what chunks have that one of C's `DS_CHUNK_WORDS` .. names, if it is one of them
abbrev pub chunk_numbered : ℤ → Option Chunk
chunk_numbered chunk =
    if int_eq chunk (pos 1) then Some Words else if int_eq chunk (pos 2) then Some Lines
    else if int_eq chunk (pos 3) then Some CsvRecords else if int_eq chunk (pos 4) then Some Utf8 else None

-- the bytes before the first that is not part of valid UTF-8
pub record IsValidPart (bytes : List ℕ) (n : ℕ) : Type 0 where
  pub valid : IsUtf8 bytes → n ≡ length bytes
  pub invalid : ¬ (IsUtf8 bytes) → IsValidUpTo bytes n

-- so many bytes end behind the last separator or end of a record. The words, lines or records of the bytes are those before and those
-- behind
abbrev pub IsFinished : Chunk → (delimiter : ℕ) → List ℕ → ℕ → Type 0
IsFinished Words delimiter bytes n =
    IsBehindLast (separates AsciiWhitespace) bytes n × SplitsAt (words_by AsciiWhitespace) bytes n × CutsUtf8 bytes n
IsFinished Lines delimiter bytes n = IsBehindLast (separates LineFeed) bytes n × SplitsAt lines bytes n × CutsUtf8 bytes n
IsFinished CsvRecords delimiter bytes n = IsBehindLastEnd delimiter Start bytes n × SplitsAt (csv_records delimiter) bytes n
IsFinished Utf8 delimiter bytes n = IsValidPart bytes n

-- the same, or none if nothing is named so
abbrev pub IsFinishedIn : Option Chunk → (delimiter : ℕ) → List ℕ → ℕ → Type 0
IsFinishedIn (Some chunk) delimiter bytes n = IsFinished chunk delimiter bytes n
IsFinishedIn None delimiter bytes n = n ≡ 0
