-- The records whose items were not seen before.
use Rattle.std.specs.Prelude.{◌≡◌, ℕ, Bool, false, not, List, [], ◌∷◌, ◌++◌, map, Option, Contains, if◌then◌else◌}
use Rattle.std.specs.Hash as fed
use Rattle.std.specs.Io.KnownBytes.{Appends}
use Rattle.std.specs.List.{AllZip, flat_map, list_any}
use Rattle.sketch_base.specs.Hashes.{fed_bytes}
use Rattle.sketch_bloom.specs.State.{FilterState, all_inserted, contains_item}
use Rattle.sketches.specs.EndedText.{text_of}
use Rattle.sketches.specs.Inputs.{AreRead}
use Rattle.sketches.specs.Outputs.{WritesFront}
use Rattle.sketches.specs.Reading.{AreFirstRecords}
use Rattle.sketches.specs.RecordParts.{raws_by}
use Rattle.sketch_text.specs.Records.{part_in, records_by, splits_by}
use Rattle.sketches.specs.declared.print.ended_text.RecordForm.{RecordForm}
use Rattle.sketch_text.specs.declared.record_part.RecordPart.{RecordPart}

-- the item of a record with its end: a part of the record without it, if the record has this part
abbrev pub item_of : RecordPart → List ℕ → List (List ℕ)
item_of part raw = flat_map (part_in part) (records_by part raw)

-- what the filter hashes of an item: its bytes, and a last byte that no UTF-8 has
abbrev pub hashed : List ℕ → List ℕ
hashed item = fed_bytes fed.str item

-- whether the filter contains one of the items
abbrev pub is_seen : FilterState → List (List ℕ) → Bool
is_seen filter items = list_any (λ item. contains_item filter (hashed item)) items

-- the filter with the items inserted
abbrev pub with_items : FilterState → List (List ℕ) → FilterState
with_items filter items = all_inserted filter (map hashed items)

-- the filter after the items of records
abbrev pub with_lines : RecordPart → FilterState → List (List ℕ) → FilterState
with_lines part filter raws = with_items filter (flat_map (item_of part) raws)

-- whether a record is written: if the filter contains its item and `wanted` is true, or it does not and `wanted` is false
abbrev pub is_written : Bool → Bool → Bool
is_written wanted seen = if wanted then seen else not seen

-- the record if it is written
abbrev pub written_of : Bool → Bool → List ℕ → List (List ℕ)
written_of wanted seen raw = if is_written wanted seen then raw ∷ [] else []

-- those records that are written, given for each whether the filter contains its item
abbrev pub written_by : Bool → List Bool → List (List ℕ) → List (List ℕ)
written_by wanted (seen ∷ seens) (raw ∷ raws) = written_of wanted seen raw ++ written_by wanted seens raws
written_by wanted _ _ = []

-- the first records of bytes and the bytes after them. Each of these records has an item
pub record AreNextLines (part : RecordPart) (bytes rest : List ℕ) (raws items : List (List ℕ)) : Type 0 where
  pub parts : raws_by part bytes ≡ raws ++ raws_by part rest
  pub items_are : map (item_of part) raws ≡ map (λ item. item ∷ []) items

-- the records that are written, with their ends: for each record, the filter has taken the items of all records before it
abbrev pub unseen_lines : Bool → RecordPart → FilterState → List (List ℕ) → List (List ℕ)
unseen_lines repeated part filter [] = []
unseen_lines repeated part filter (raw ∷ later) =
    written_of repeated (is_seen filter (item_of part raw)) raw
    ++ unseen_lines repeated part (with_items filter (item_of part raw)) later

-- A law of filters, which holds for any list of records: a record whose item is not seen is the first with its item. It does not say
-- what a run writes.
abbrev pub AreFirst : RecordPart → FilterState → List (List ℕ) → Type 0
AreFirst part filter raws =
    (before after : List (List ℕ)) (raw item : List ℕ) → raws ≡ before ++ raw ∷ after →
    is_seen (with_lines part filter before) (item_of part raw) ≡ false →
    Contains (item_of part raw) item → Contains (flat_map (item_of part) before) item → ⊥

-- The writer received a header, and then the records of what was read of each input whose items were not seen before, or, with
-- `repeated`, the others. They are written in `form`: with their ends, or as JSON objects. The filter has taken the items of all records
-- that were read. What the run did is `are`, `written` and `kept`; `first` is the law above for these records.
pub record WritesUnseen (form : RecordForm) (repeated : Bool) (part : RecordPart) (header : List ℕ) (filter filter' : FilterState) (inputs : List (List ℕ)) (fails : List Bool) (held holds : Option (List ℕ)) : Type 0 where
  pub read : List (List ℕ)
  pub are : AreRead (splits_by part) fails inputs read
  pub written : Appends held holds (header ++ text_of form (unseen_lines repeated part filter (flat_map (raws_by part) read)))
  pub first : AreFirst part filter (flat_map (raws_by part) read)
  pub kept : filter' ≡ with_lines part filter (flat_map (raws_by part) read)

-- The writer received the front of that, for what was read of the first of these inputs.
pub record WritesSomeUnseen (form : RecordForm) (repeated : Bool) (part : RecordPart) (header : List ℕ) (filter : FilterState) (inputs : List (List ℕ)) (held holds : Option (List ℕ)) : Type 0 where
  pub first : List (List ℕ)
  pub later : List (List ℕ)
  pub parts : inputs ≡ first ++ later
  pub read : List (List ℕ)
  pub fronts : AllZip (AreFirstRecords (splits_by part)) first read
  pub written : WritesFront held holds (header ++ text_of form (unseen_lines repeated part filter (flat_map (raws_by part) read)))
