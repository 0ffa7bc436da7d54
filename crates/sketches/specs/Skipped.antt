-- How many records have an item and no weight, and count with the weight 0.
use Rattle.std.specs.Prelude.{ℕ, List, [], ◌∷◌, Option, None, Some, sum_by}
use Rattle.std.specs.Str.Lossy.{utf8_lossy}
use Rattle.sketch_text.specs.Records.{part_in, part_of}
use Rattle.sketches.specs.Weights.{weight_in, weight_on}
use Rattle.sketches.specs.declared.item.weighing.Unweighed.{Unweighed}
use Rattle.sketches.specs.declared.item.weighing.Unweighed.TheVariants.{Fails, IsZero}
use Rattle.sketches.specs.declared.item.weighing.WeighedPart.{WeighedPart}
use Rattle.sketches.specs.declared.item.weighing.WeighedRecord.{WeighedRecord}
use Rattle.sketches.specs.declared.item.weighing.Weighing.{Weighing}
use Rattle.sketches.specs.declared.item.weighing.Weighing.TheVariants as weighing

-- 1 for a record with an item if it has no weight and such a record has the weight 0, and else 0
abbrev pub skips : Unweighed → Option ℕ → ℕ
skips unweighed (Some weight) = 0
skips Fails None = 0
skips IsZero None = 1

-- the same for a record with these items, which may be none
abbrev pub skips_of : Unweighed → List (List ℕ) → Option ℕ → ℕ
skips_of unweighed [] weight = 0
skips_of unweighed (item ∷ items) weight = skips unweighed weight

-- the same for a line and for a record
abbrev pub skips_line : WeighedPart → List ℕ → ℕ
skips_line part line = skips_of part.unweighed (part_of part.item (utf8_lossy line)) (weight_in part.weight line)

abbrev pub skips_row : WeighedRecord → List ℕ → ℕ
skips_row chosen row = skips_of chosen.unweighed (part_in chosen.item row) (weight_on chosen.weight row)

-- the number of records that have an item and no weight, and whose weight is 0
abbrev pub skipped_rows : WeighedRecord → List (List ℕ) → ℕ
skipped_rows chosen rows = sum_by (skips_row chosen) rows

abbrev pub skipped_in : Weighing → List (List ℕ) → ℕ
skipped_in (weighing.Once chosen) lines = 0
skipped_in (weighing.Field part) lines = sum_by (skips_line part) lines
skipped_in (weighing.Record chosen) rows = skipped_rows chosen rows
