-- Results and effects of calls on the items and weights in fields of records.
use Rattle.std.specs.Prelude.{◌≡◌, ◌≢◌, ◌⊎◌, ◌<◌, ℕ, ℤ, pos, List, length, Option, Some, None}
use Rattle.sketch_base.specs.declared.fault.Fault.{Fault}
use Rattle.sketch_base.specs.declared.fault.Fault.TheVariants.{NoMemory}
use Rattle.sketch_text.specs.Decimals.{number_in, signed_in}
use Rattle.sketch_text.specs.RecordItems.{AreItems, IsFirstBad, ItemsValue}
use Rattle.sketch_text.specs.Records.{records_by}
use Rattle.sketch_text.specs.declared.part.Part.TheVariants as part
use Rattle.sketch_text.specs.declared.record_items.WeighedRecord.{WeighedRecord}
use Rattle.sketch_text.specs.declared.record_part.RecordPart.{RecordPart}
use Rattle.sketch_text.specs.declared.record_part.RecordPart.TheVariants as record_part
use Rattle.any_sketch.specs.Batches.{InsertsAll, UpdatesAllSigned, UpdatesAllWeighted}
use Rattle.any_sketch.specs.Kinds.{kind_of}
use Rattle.any_sketch.specs.ManyItems.{ManyItems}
use Rattle.any_sketch.specs.ManyItems.Rows.{strings}
use Rattle.any_sketch.specs.declared.any_sketch.AnySketch.{AnySketch}
use Rattle.any_sketch.specs.declared.kind.Kind.{Kind}
use Rattle.any_sketch.specs.declared.kind.Kind.TheVariants.{CountI64, CountU64, Filter, FrequentStrings}
use Rattle.datasketches_c.specs.Calls.{IsDone}
use Rattle.datasketches_c.specs.Numbers.{bad_argument, no_sketch, refusal_number, wrong_kind}
use Rattle.datasketches_c.specs.Sharing.{unchangeable}
use Rattle.datasketches_c.specs.declared.held_sketch.HeldSketch.{HeldSketch}
use Rattle.datasketches_c.specs.declared.held_sketch.HeldSketch.TheVariants.{Own}
use Rattle.datasketches_c.specs.declared.fields_argument.FieldsArgument.{FieldsArgument}
use Rattle.datasketches_c.specs.declared.fields_argument.FieldsRead.{FieldsRead}

-- the index that names no field
abbrev pub no_field : ℕ
no_field = 4294967295

-- a delimiter between fields of lines: a byte of ASCII
abbrev pub IsLineDelimiter : ℕ → Type 0
IsLineDelimiter delimiter = delimiter < 128

-- a delimiter of CSV: no quote and no byte of a line's end
abbrev pub IsCsvDelimiter : ℕ → Type 0
IsCsvDelimiter delimiter = (delimiter ≢ 34) × (delimiter ≢ 10) × (delimiter ≢ 13)

-- The part of an index in records of a format: a word of a line (0), a field between delimiters of ASCII (1), or a field of CSV (2). In
-- lines, no field is the whole line. A delimiter that the format does not allow chooses nothing, also if no field is between delimiters.
-- No argument chooses several columns.
abbrev pub IsPart : (format : ℤ) → (delimiter index : ℕ) → RecordPart → Type 0
IsPart format delimiter index (record_part.Line part.Line) =
    ((format ≡ pos 0) ⊎ ((format ≡ pos 1) × IsLineDelimiter delimiter)) × (index ≡ no_field)
IsPart format delimiter index (record_part.Line (part.Word n)) = (format ≡ pos 0) × (index ≢ no_field) × (n ≡ index)
IsPart format delimiter index (record_part.Line (part.Field field)) =
    (format ≡ pos 1) × IsLineDelimiter delimiter × (index ≢ no_field) × (field.delimiter ≡ delimiter) × (field.index ≡ index)
IsPart format delimiter index (record_part.Csv field) =
    (format ≡ pos 2) × IsCsvDelimiter delimiter × (index ≢ no_field) × (field.delimiter ≡ delimiter) × (field.index ≡ index)
IsPart format delimiter index (record_part.Columns chosen) = ⊥

-- the part with the weight, if there is one
abbrev pub IsWeight : FieldsArgument → Option RecordPart → Type 0
IsWeight a None = a.weight ≡ no_field
IsWeight a (Some chosen) = (a.weight ≢ no_field) × IsPart a.format a.delimiter a.weight chosen

-- the item and the weight that an argument chooses
abbrev pub IsChosen : FieldsArgument → WeighedRecord → Type 0
IsChosen a chosen = IsPart a.format a.delimiter a.item chosen.item × IsWeight a chosen.weight

-- the argument chooses an item and a weight of which the statement holds, or nothing: then the result is `bad_argument`, and all is
-- unchanged
abbrev pub OnFields : FieldsArgument → (result : ℤ) → (unchanged : Type 0) → (said : WeighedRecord → Type 0) → Type 0
OnFields a result unchanged said =
    (((chosen : WeighedRecord) → ¬ IsChosen a chosen) × (result ≡ bad_argument) × unchanged)
    ⊎ ((chosen : WeighedRecord) × IsChosen a chosen × said chosen)

module _ {W : Type 0} (reads : List ℕ → Option W) (one : W) (chosen : WeighedRecord) (bytes : List ℕ) (result : ℤ) (old new : FieldsRead) where
  -- the result is the error of the first record with one, whose first byte was written, and nothing else
  pub record IsRefused : Type 0 where
    pub fault : Fault
    pub is : result ≡ refusal_number fault
    pub first : IsFirstBad reads one chosen bytes new.offset fault
    pub num_records : new.num_records ≡ old.num_records
    pub num_items : new.num_items ≡ old.num_items

  -- the numbers of records and of items were written, and the statement holds of the items
  pub record AreRead (said : ItemsValue W → Type 0) : Type 0 where
    pub found : ItemsValue W
    pub are : AreItems reads one chosen (records_by chosen.item bytes) found
    pub num_records : new.num_records ≡ found.num_records
    pub num_items : new.num_items ≡ length found.items
    pub offset : new.offset ≡ old.offset
    pub holds : said found

  -- The items of the records were read, or memory was exhausted, or a record has an error. Then all is unchanged, but for the offset of
  -- that record
  abbrev pub OnRead : (unchanged : Type 0) → (said : ItemsValue W → Type 0) → Type 0
  OnRead unchanged said =
      (((result ≡ refusal_number NoMemory) × (new ≡ old) × unchanged) ⊎ (IsRefused × unchanged)) ⊎ AreRead said

-- items that are strings, none of them null
abbrev pub all_strings : List (List ℕ) → ManyItems
all_strings items = record { rows = strings items; validity = None }

-- The items of records were added to a sketch of this kind with their weights, in order, or inserted into a filter. Weights have a sign if
-- those of the sketch do. Nothing is read for a kind that takes no strings, and nothing is written.
abbrev pub UpdatesFieldsOf : Kind → WeighedRecord → List ℕ → (old new : AnySketch) → (read_old read_new : FieldsRead) → ℤ → Type 0
UpdatesFieldsOf CountI64 chosen bytes s t a b result =
    OnRead signed_in (pos 1) chosen bytes result a b (t ≡ s) (λ found.
    IsDone result (UpdatesAllSigned s (all_strings found.items) found.weights t))
UpdatesFieldsOf CountU64 chosen bytes s t a b result =
    OnRead number_in 1 chosen bytes result a b (t ≡ s) (λ found.
    IsDone result (UpdatesAllWeighted s (all_strings found.items) found.weights t))
UpdatesFieldsOf FrequentStrings chosen bytes s t a b result =
    OnRead number_in 1 chosen bytes result a b (t ≡ s) (λ found.
    IsDone result (UpdatesAllWeighted s (all_strings found.items) found.weights t))
UpdatesFieldsOf Filter chosen bytes s t a b result =
    OnRead number_in 1 chosen bytes result a b (t ≡ s) (λ found. IsDone result (InsertsAll s (all_strings found.items) t))
UpdatesFieldsOf kind chosen bytes s t a b result = (result ≡ wrong_kind) × (t ≡ s) × (b ≡ a)

-- the same of what a handle holds, which is not changed if it is shared
abbrev pub UpdatesHeldFields : WeighedRecord → List ℕ → (old new : HeldSketch) → (read_old read_new : FieldsRead) → ℤ → Type 0
UpdatesHeldFields chosen bytes (Own s) (Own t) a b result = UpdatesFieldsOf (kind_of s) chosen bytes s t a b result
UpdatesHeldFields chosen bytes (Own s) new a b result = ⊥
UpdatesHeldFields chosen bytes old new a b result = (result ≡ unchangeable old) × (new ≡ old) × (b ≡ a)

-- the same of the handle's sketch, if any
abbrev pub UpdatesFields : WeighedRecord → List ℕ → (old new : Option HeldSketch) → (read_old read_new : FieldsRead) → ℤ → Type 0
UpdatesFields chosen bytes (Some old) (Some new) a b result = UpdatesHeldFields chosen bytes old new a b result
UpdatesFields chosen bytes None new a b result = (result ≡ no_sketch) × (new ≡ None) × (b ≡ a)
UpdatesFields chosen bytes (Some old) None a b result = ⊥
