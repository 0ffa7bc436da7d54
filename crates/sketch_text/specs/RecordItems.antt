-- The items of records with their weights.
use Rattle.std.specs.Prelude.{◌≡◌, ◌⊎◌, ℕ, List, [], ◌∷◌, ◌++◌, length, drop, map, Option, None, Some, if◌then◌else◌}
use Rattle.std.specs.List.{flat_map, slice_get}
use Rattle.std.specs.Option.{option_and_then}
use Rattle.std.specs.Str.{is_utf8}
use Rattle.sketch_base.specs.Errors.{ErrorValue, invalid_argument, no_memory}
use Rattle.sketch_base.specs.declared.fault.Fault.{Fault}
use Rattle.sketch_base.specs.declared.fault.Fault.TheVariants.{BadWeight, InvalidUtf8}
use Rattle.sketch_text.specs.Records.{part_in, records_by}
use Rattle.sketch_text.specs.declared.record_items.BadRecord.{BadRecord}
use Rattle.sketch_text.specs.declared.record_items.WeighedRecord.{WeighedRecord}
use Rattle.sketch_text.specs.declared.record_part.RecordPart.{RecordPart}

-- items in order, the weight of each, and the number of records that they were in
pub record ItemsValue (W : Type 0) : Type 0 where
  pub items : List (List ℕ)
  pub weights : List W
  pub num_records : ℕ

-- the weight in a part of a record, if the record has this part and it spells a weight. It is `one` if no part has it
abbrev pub weight_by : {W : Type 0} → (reads : List ℕ → Option W) → (one : W) → Option RecordPart → List ℕ → Option W
weight_by reads one None row = Some one
weight_by reads one (Some part) row = option_and_then reads (slice_get (part_in part row) 0)

-- an item with its weight, if there is one
abbrev pub with_weight : {W : Type 0} → Option W → List ℕ → List (List ℕ × W)
with_weight None item = []
with_weight (Some weight) item = (item, weight) ∷ []

-- the faults of an item: it is not UTF-8, or else it has no weight
abbrev pub faults_of : {W : Type 0} → Option W → List ℕ → List Fault
faults_of None item = if is_utf8 item then BadWeight ∷ [] else InvalidUtf8 ∷ []
faults_of (Some weight) item = if is_utf8 item then [] else InvalidUtf8 ∷ []

-- the item of a record with its weight, if the record has both
abbrev pub weighed_item : {W : Type 0} → (reads : List ℕ → Option W) → (one : W) → WeighedRecord → List ℕ → List (List ℕ × W)
weighed_item reads one chosen row = flat_map (with_weight (weight_by reads one chosen.weight row)) (part_in chosen.item row)

-- the faults of a record: none if it has no item
abbrev pub faults_in : {W : Type 0} → (reads : List ℕ → Option W) → (one : W) → WeighedRecord → List ℕ → List Fault
faults_in reads one chosen row = flat_map (faults_of (weight_by reads one chosen.weight row)) (part_in chosen.item row)

-- the items of records with their weights
abbrev pub weighed_items : {W : Type 0} → (reads : List ℕ → Option W) → (one : W) → WeighedRecord → List (List ℕ) → List (List ℕ × W)
weighed_items reads one chosen rows = flat_map (weighed_item reads one chosen) rows

-- records have no faults, and these are their items with their weights
pub record AreItems {W : Type 0} (reads : List ℕ → Option W) (one : W) (chosen : WeighedRecord) (rows : List (List ℕ)) (found : ItemsValue W) : Type 0 where
  pub good : flat_map (faults_in reads one chosen) rows ≡ []
  pub items : found.items ≡ map (λ pair. pair.0) (weighed_items reads one chosen rows)
  pub weights : found.weights ≡ map (λ pair. pair.1) (weighed_items reads one chosen rows)
  pub num_records : found.num_records ≡ length rows

-- the first record of bytes with a fault begins at the offset, and has this fault
pub record IsFirstBad {W : Type 0} (reads : List ℕ → Option W) (one : W) (chosen : WeighedRecord) (bytes : List ℕ) (offset : ℕ) (fault : Fault) : Type 0 where
  pub before : List (List ℕ)
  pub row : List ℕ
  pub after : List (List ℕ)
  pub split : records_by chosen.item bytes ≡ before ++ row ∷ after
  pub begins : records_by chosen.item (drop offset bytes) ≡ row ∷ after
  pub good : flat_map (faults_in reads one chosen) before ≡ []
  pub bad : faults_in reads one chosen row ≡ fault ∷ []

-- an allocation failed, or a record has a fault
abbrev pub FailsRecord : {W : Type 0} → (reads : List ℕ → Option W) → (one : W) → WeighedRecord → List ℕ → ErrorValue → Type 0
FailsRecord reads one chosen row e = (e ≡ no_memory) ⊎ ((fault : Fault) × (e ≡ invalid_argument fault) × (faults_in reads one chosen row ≡ fault ∷ []))

-- an allocation failed, or a record of bytes has a fault
abbrev pub FailsItems : {W : Type 0} → (reads : List ℕ → Option W) → (one : W) → WeighedRecord → List ℕ → BadRecord → Type 0
FailsItems reads one chosen bytes bad = (bad.error ≡ no_memory) ⊎ ((fault : Fault) × (bad.error ≡ invalid_argument fault) × IsFirstBad reads one chosen bytes bad.offset fault)
