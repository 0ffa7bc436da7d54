-- The numbers of lines in an input, counted from 1.
use Rattle.std.specs.Prelude.{◌≡◌, ℕ, ◌+◌, ◌-◌, ◌^◌, ◌<◌, ◌==◌, List, [], ◌∷◌, ◌++◌, length, min, sum_by}
use Rattle.std.specs.List.{AllZip, count_by, flat_map}
use Rattle.sketches.specs.Reading.{AreFirstRecords}
use Rattle.sketch_text.specs.Records.{records_in, splits_by}
use Rattle.sketch_text.specs.declared.records.Records.{Records}
use Rattle.sketch_text.specs.declared.records.Records.TheVariants.{Lines, Csv}
use Rattle.sketches.specs.declared.item.weighing.Weighing.{Weighing}
use Rattle.sketches.specs.declared.item.weighing.Weighing.TheVariants as weighing

-- the number of line feeds in bytes
abbrev pub feeds_in : List ℕ → ℕ
feeds_in bytes = count_by (λ byte. byte == 10) bytes

-- the number of lines of a record, given without its end: 1, and for CSV 1 more for each line feed, which stands in quotes
abbrev pub lines_of_row : Records → List ℕ → ℕ
lines_of_row Lines row = 1
lines_of_row (Csv delimiter) row = 1 + feeds_in row

-- the number of lines of records
abbrev pub lines_of : Records → List (List ℕ) → ℕ
lines_of splits rows = sum_by (lines_of_row splits) rows

-- the number of lines that are counted for records: none if each item has the weight 1
abbrev pub lines_counted : Weighing → List (List ℕ) → ℕ
lines_counted (weighing.Once chosen) rows = 0
lines_counted (weighing.Field part) rows = lines_of Lines rows
lines_counted (weighing.Record chosen) rows = lines_of (splits_by chosen.item) rows

-- the record has an item and no weight, and its first line has this number
abbrev pub IsUnweighedAt : (unweighed : List ℕ → List (List ℕ)) (row : List ℕ) (number : ℕ) → (line : ℕ) → Type 0
IsUnweighedAt unweighed row number line = (0 < length (unweighed row)) × (line ≡ number)

-- One of these records has an item and no weight. `line` is the number of the first line of the first such record, at most `u64::MAX`, if
-- `count` lines of the input come before these records.
pub record IsFirstUnweighed (lines : List (List ℕ) → ℕ) (unweighed : List ℕ → List (List ℕ)) (count : ℕ) (rows : List (List ℕ)) (line : ℕ) : Type 0 where
  pub earlier : List (List ℕ)
  pub row : List ℕ
  pub later : List (List ℕ)
  pub parts : rows ≡ earlier ++ row ∷ later
  pub weighed : flat_map unweighed earlier ≡ []
  pub without : 0 < length (unweighed row)
  pub number : line ≡ min (count + lines earlier + 1) (2 ^ 64 - 1)

-- One of these inputs has a record that has an item and no weight. `line` is the number of the first line of the first such record of this
-- input, at most `u64::MAX`. What was read of the inputs before it has no such record.
pub record HaveUnweighed (splits : Records) (unweighed : List ℕ → List (List ℕ)) (inputs : List (List ℕ)) (line : ℕ) : Type 0 where
  pub earlier : List (List ℕ)
  pub input : List ℕ
  pub later : List (List ℕ)
  pub parts : inputs ≡ earlier ++ input ∷ later
  pub read : List (List ℕ)
  pub fronts : AllZip (AreFirstRecords splits) earlier read
  pub weighed : flat_map unweighed (flat_map (records_in splits) read) ≡ []
  pub first : IsFirstUnweighed (lines_of splits) unweighed 0 (records_in splits input) line
