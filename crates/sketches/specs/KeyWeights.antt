-- Items with weights that were added to a Count-Min sketch, and what is printed of them.
use Rattle.std.specs.Prelude.{◌≡◌, ℕ, ℤ, ◌+◌, ◌-◌, ◌^◌, ◌<◌, ◌≤◌, ◌==◌, Bool, List, [], ◌++◌, map, min, All, Option, None, Some, codes, sum_by, pos, if◌then◌else◌}
use Rattle.std.specs.Fmt.{decimal}
use Rattle.std.specs.Io.KnownBytes.{Appends}
use Rattle.std.specs.List.{flat_map}
use Rattle.sketch_base.specs.Hashes.{seed_hash}
use Rattle.sketch_countmin.specs.Buckets.{bucket_of}
use Rattle.sketch_countmin.specs.History.{each_updated}
use Rattle.sketch_countmin.specs.History.CountHistory.{New}
use Rattle.sketch_countmin.specs.Sizes.{IsETimesWithin, IsWithinPowerOfE}
use Rattle.sketch_countmin.specs.Stands.{Extends, StandsFor}
use Rattle.sketch_countmin.specs.State.{CountState, IsMinCell, empty_state}
use Rattle.sketches.specs.Inputs.{AreRead}
use Rattle.sketches.specs.Json.{json_lossy}
use Rattle.sketches.specs.Outputs.{WritesFront}
use Rattle.sketches.specs.Reading.{AreFirstRecords, IsReadOf}
use Rattle.sketch_text.specs.Records.{part_in, records_by, splits_by}
use Rattle.sketches.specs.Skipped.{skipped_rows}
use Rattle.sketches.specs.TextEscapes.{text_escaped}
use Rattle.sketches.specs.Unseen.{hashed}
use Rattle.sketches.specs.Weighed.{Weighed, total_of, weight_of, without_weight}
use Rattle.sketches.specs.Weights.{counted_weight}
use Rattle.sketches.specs.declared.item.weighing.WeighedRecord.{WeighedRecord}
use Rattle.sketches.specs.declared.print.layout.Style.{Style}
use Rattle.sketches.specs.declared.print.layout.Style.TheVariants.{Plain, Escaped, Json}
use Rattle.sketch_text.specs.declared.record_part.RecordPart.{RecordPart}
use Rattle.sketches.specs.declared.weight.weigh.WeighOptions.{WeighOptions}

-- the items with a weight, if there is one
abbrev pub weigh : List (List ℕ) → Option ℕ → Weighed
weigh items None = []
weigh items (Some weight) = map (λ item. (item, weight)) items

-- the item of a record with its weight, if the record has an item and a weight that counts
abbrev pub weighed_line : WeighedRecord → List ℕ → Weighed
weighed_line chosen row = weigh (part_in chosen.item row) (counted_weight chosen row)

-- the item of a record that has no weight that counts
abbrev pub unweighed_line : WeighedRecord → List ℕ → List (List ℕ)
unweighed_line chosen row = without_weight (part_in chosen.item row) (counted_weight chosen row)

-- the items of records with their weights, and those without
abbrev pub weighed_lines : WeighedRecord → List (List ℕ) → Weighed
weighed_lines chosen all = flat_map (weighed_line chosen) all

abbrev pub unweighed_lines : WeighedRecord → List (List ℕ) → List (List ℕ)
unweighed_lines chosen all = flat_map (unweighed_line chosen) all

-- the items of inputs with their weights, and those without: those of each record of each input
abbrev pub weighed_in : WeighedRecord → List (List ℕ) → Weighed
weighed_in chosen inputs = weighed_lines chosen (flat_map (records_by chosen.item) inputs)

abbrev pub unweighed_in : WeighedRecord → List (List ℕ) → List (List ℕ)
unweighed_in chosen inputs = unweighed_lines chosen (flat_map (records_by chosen.item) inputs)

-- the parts of the records of an input
abbrev pub parts_in : RecordPart → List ℕ → List (List ℕ)
parts_in part bytes = flat_map (part_in part) (records_by part bytes)

-- the weight of all items in the bucket of a key, in a row
abbrev pub bucket_weight : (buckets seed : ℕ) → Weighed → List ℕ → ℕ → ℕ
bucket_weight buckets seed items key r =
    sum_by (λ pair. if bucket_of buckets seed r (hashed pair.0) == bucket_of buckets seed r (hashed key) then pair.1 else 0) items

-- ---- the sketch

-- what a sketch counts of an item: its hashed bytes, and its weight
abbrev pub counted : List ℕ × ℕ → List ℕ × ℤ
counted pair = (hashed pair.0, pos pair.1)

-- Each item was added with its weight, in order: the total grew by their weights, and the sketch represents each history that it
-- represented before, with these updates.
pub record CountsWeighed (old : CountState) (items : Weighed) (new : CountState) : Type 0 where
  pub total : new.total ≡ old.total + total_of items
  pub stands : Extends old new (λ h. each_updated h (map counted items))

-- the items of records were added with their weights, and each record with an item has a weight
abbrev pub CountsLines : WeighedRecord → CountState → List (List ℕ) → CountState → Type 0
CountsLines chosen old all new = CountsWeighed old (weighed_lines chosen all) new × (unweighed_lines chosen all ≡ [])

-- the seed of the sketch, for a seed that is wanted: the seeds of the published formats have a hash that is not 0
abbrev pub usable_seed : ℕ → ℕ
usable_seed seed = if seed_hash seed == 0 then 9001 else seed

-- The number of buckets is the least that is at least e times `parts`, and the number of hashes is the least with e to its power at
-- least `questions`.
pub record IsTableFor (parts questions hashes buckets : ℕ) : Type 0 where
  pub enough_buckets : IsETimesWithin parts buckets
  pub least_buckets : (m : ℕ) → IsETimesWithin parts m → buckets ≤ m
  pub enough_hashes : IsWithinPowerOfE questions hashes
  pub least_hashes : (m : ℕ) → IsWithinPowerOfE questions m → hashes ≤ m

-- An empty sketch for an error of the total over `parts`, which one of `questions` keys may exceed.
pub record IsEmptyTable (parts questions seed : ℕ) (s : CountState) : Type 0 where
  pub sizes : IsTableFor parts questions s.hashes s.buckets
  pub some_buckets : 0 < s.buckets
  pub is : s ≡ empty_state s.hashes s.buckets (usable_seed seed)
  pub stands : StandsFor s (New s.hashes s.buckets (usable_seed seed))

-- ---- what is printed

-- a number and a key
abbrev pub Row : Type 0
Row = ℕ × List ℕ

-- the line of a key: its number, a tab and the key, which may be escaped, or a JSON object
abbrev pub row_line : Style → Row → List ℕ
row_line Plain row = decimal row.0 ++ codes "\t" ++ row.1 ++ codes "\n"
row_line Escaped row = decimal row.0 ++ codes "\t" ++ text_escaped row.1 ++ codes "\n"
row_line Json row = codes "{\"weight\":" ++ decimal row.0 ++ codes ",\"item\":\"" ++ json_lossy row.1 ++ codes "\"}\n"

-- the line of the total weight
abbrev pub total_in : Style → ℕ → List ℕ
total_in Plain total = codes "# total " ++ decimal total ++ codes "\n"
total_in Escaped total = codes "# total " ++ decimal total ++ codes "\n"
total_in Json total = codes "{\"total\":" ++ decimal total ++ codes "}\n"

-- the first line, if it is wanted
abbrev pub total_line : Style → Bool → ℕ → List ℕ
total_line style wanted total = if wanted then total_in style total else []

-- The lines of these keys were written, in order, each with the estimate of a sketch.
pub record WritesEstimates (style : Style) (s : CountState) (keys : List (List ℕ)) (held holds : Option (List ℕ)) : Type 0 where
  pub rows : List Row
  pub keys_are : map (λ row. row.1) rows ≡ keys
  pub estimates : All (λ row. IsMinCell s (hashed row.1) (pos row.0)) rows
  pub wrote : Appends held holds (flat_map (row_line style) rows)

-- The same for the first of these keys, of whose lines the front was written.
pub record WritesSomeEstimates (style : Style) (s : CountState) (keys : List (List ℕ)) (held holds : Option (List ℕ)) : Type 0 where
  pub first : List (List ℕ)
  pub later : List (List ℕ)
  pub parts : keys ≡ first ++ later
  pub rows : List Row
  pub keys_are : map (λ row. row.1) rows ≡ first
  pub estimates : All (λ row. IsMinCell s (hashed row.1) (pos row.0)) rows
  pub wrote : WritesFront held holds (flat_map (row_line style) rows)

-- The number is at least the weight of the key, and at most the total of all weights. It is the least, over the rows, of the weight
-- of all items in the key's bucket. So it is exact if some row has no other item in that bucket. `below` and `reached` fix the number;
-- `enough` and `within` are laws that follow from them.
pub record IsWeightOf (hashes buckets seed : ℕ) (items : Weighed) (row : Row) : Type 0 where
  pub enough : weight_of items row.1 ≤ row.0
  pub within : row.0 ≤ total_of items
  pub below : (r : ℕ) → r < hashes → row.0 ≤ bucket_weight buckets seed items row.1 r
  pub reached : (r : ℕ) × (r < hashes) × (row.0 ≡ bucket_weight buckets seed items row.1 r)

-- The writer received the total weight of what was read of the inputs, and a line for each key of what was read of the file of keys,
-- in its order. Each record of the inputs with an item has a weight that counts. `unweighed` is the number of those that have an item and
-- no weight, and whose weight is 0.
pub record WritesWeights (options : WeighOptions) (inputs : List (List ℕ)) (fails : List Bool) (keys : List ℕ) (keys_fail : Bool) (unweighed : ℕ) (held holds : Option (List ℕ)) : Type 0 where
  pub read : List (List ℕ)
  pub are : AreRead (splits_by options.chosen.item) fails inputs read
  pub read_keys : List ℕ
  pub are_keys : IsReadOf (splits_by options.keys_part) keys_fail keys read_keys
  pub hashes : ℕ
  pub buckets : ℕ
  pub table : IsTableFor options.parts options.questions hashes buckets
  pub rows : List Row
  pub keys_are : map (λ row. row.1) rows ≡ parts_in options.keys_part read_keys
  pub each : unweighed_in options.chosen read ≡ []
  pub skipped : unweighed ≡ min (skipped_rows options.chosen (flat_map (records_by options.chosen.item) read)) (2 ^ 64 - 1)
  pub weights : All (IsWeightOf hashes buckets (usable_seed options.seed) (weighed_in options.chosen read)) rows
  pub wrote :
      Appends held holds
      (total_line options.style options.header (total_of (weighed_in options.chosen read)) ++ flat_map (row_line options.style) rows)

-- The writer received the front of that. The front has lines of the first keys of the file.
pub record WritesSomeWeights (options : WeighOptions) (inputs : List (List ℕ)) (fails : List Bool) (keys : List ℕ) (held holds : Option (List ℕ)) : Type 0 where
  pub read : List (List ℕ)
  pub are : AreRead (splits_by options.chosen.item) fails inputs read
  pub each : unweighed_in options.chosen read ≡ []
  pub hashes : ℕ
  pub buckets : ℕ
  pub table : IsTableFor options.parts options.questions hashes buckets
  pub read_keys : List ℕ
  pub front : AreFirstRecords (splits_by options.keys_part) keys read_keys
  pub rows : List Row
  pub later : List (List ℕ)
  pub keys_are : parts_in options.keys_part read_keys ≡ map (λ row. row.1) rows ++ later
  pub weights : All (IsWeightOf hashes buckets (usable_seed options.seed) (weighed_in options.chosen read)) rows
  pub wrote :
      WritesFront held holds
      (total_line options.style options.header (total_of (weighed_in options.chosen read)) ++ flat_map (row_line options.style) rows)
