-- The items of records with their weights.
use Rattle.std.specs.Prelude.{ℕ, nat_lt, List, [], map, sum_by, Option, Some, None, if◌then◌else◌}
use Rattle.std.specs.List.{flat_map}
use Rattle.std.specs.Str.{bytes_eq}
use Rattle.std.specs.Str.Lossy.{utf8_lossy}
use Rattle.sketches.specs.Items.{items_of_raw_line}
use Rattle.sketch_text.specs.Records.{part_in, part_of, records_in, splits_by}
use Rattle.sketches.specs.Weights.{counted_weight, taken_weight, weight_in}
use Rattle.sketch_text.specs.declared.records.Records.{Records}
use Rattle.sketch_text.specs.declared.records.Records.TheVariants as records
use Rattle.sketches.specs.declared.item.weighing.WeighedPart.{WeighedPart}
use Rattle.sketches.specs.declared.item.weighing.WeighedRecord.{WeighedRecord}
use Rattle.sketches.specs.declared.item.weighing.Weighing.{Weighing}
use Rattle.sketches.specs.declared.item.weighing.Weighing.TheVariants as weighing

-- items with their weights
abbrev pub Weighed : Type 0
Weighed = List (List ℕ × ℕ)

-- the weight of an item: the sum of its weights
abbrev pub weight_of : Weighed → List ℕ → ℕ
weight_of items item = sum_by (λ pair. if bytes_eq pair.0 item then pair.1 else 0) items

-- the weight of all items
abbrev pub total_of : Weighed → ℕ
total_of items = sum_by (λ pair. pair.1) items

-- each item with a weight of 1
abbrev pub once : List (List ℕ) → Weighed
once items = map (λ item. (item, 1)) items

-- the items with a weight, if there is one and it is not 0
abbrev pub with_weight : List (List ℕ) → Option ℕ → Weighed
with_weight items None = []
with_weight items (Some weight) = if nat_lt 0 weight then map (λ item. (item, weight)) items else []

-- the items, if there is no weight
abbrev pub without_weight : List (List ℕ) → Option ℕ → List (List ℕ)
without_weight items None = items
without_weight items (Some weight) = []

-- how inputs are split into records
abbrev pub splits_of : Weighing → Records
splits_of (weighing.Once chosen) = records.Lines
splits_of (weighing.Field part) = records.Lines
splits_of (weighing.Record chosen) = splits_by chosen.item

-- the records of an input
abbrev pub records_of : Weighing → List ℕ → List (List ℕ)
records_of chosen bytes = records_in (splits_of chosen) bytes

-- the weight that counts of a line
abbrev pub line_weight : WeighedPart → List ℕ → Option ℕ
line_weight part line = taken_weight part.unweighed (weight_in part.weight line)

-- the item of a record, with U+FFFD for bytes that are not UTF-8, if the record has it
abbrev pub items_of_record : WeighedRecord → List ℕ → List (List ℕ)
items_of_record chosen row = map utf8_lossy (part_in chosen.item row)

-- the items of a record with their weights. An item of weight 0 is left out
abbrev pub weighed_of_line : Weighing → List ℕ → Weighed
weighed_of_line (weighing.Once chosen) line = once (items_of_raw_line chosen line)
weighed_of_line (weighing.Field part) line = with_weight (part_of part.item (utf8_lossy line)) (line_weight part line)
weighed_of_line (weighing.Record chosen) row = with_weight (items_of_record chosen row) (counted_weight chosen row)

-- the items of a record that has no weight
abbrev pub unweighed_of_line : Weighing → List ℕ → List (List ℕ)
unweighed_of_line (weighing.Once chosen) line = []
unweighed_of_line (weighing.Field part) line = without_weight (part_of part.item (utf8_lossy line)) (line_weight part line)
unweighed_of_line (weighing.Record chosen) row = without_weight (items_of_record chosen row) (counted_weight chosen row)

-- the items of an input with their weights: those of each of its records
abbrev pub weighed_of : Weighing → List ℕ → Weighed
weighed_of chosen bytes = flat_map (weighed_of_line chosen) (records_of chosen bytes)

-- the items of the records of an input that have no weight
abbrev pub unweighed_of : Weighing → List ℕ → List (List ℕ)
unweighed_of chosen bytes = flat_map (unweighed_of_line chosen) (records_of chosen bytes)
