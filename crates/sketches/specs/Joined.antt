-- The records whose items are in a file of keys.
use Rattle.std.specs.Prelude.{◌≡◌, ℕ, Bool, List, [], ◌∷◌, ◌++◌, Contains, Option, if◌then◌else◌}
use Rattle.std.specs.Io.KnownBytes.{Appends}
use Rattle.std.specs.List.{AllZip, flat_map}
use Rattle.sketch_bloom.specs.State.{FilterState}
use Rattle.sketches.specs.EndedText.{text_of}
use Rattle.sketches.specs.Inputs.{AreRead}
use Rattle.sketches.specs.Outputs.{WritesFront}
use Rattle.sketches.specs.Reading.{AreFirstRecords}
use Rattle.sketches.specs.RecordParts.{raws_by}
use Rattle.sketch_text.specs.Records.{splits_by}
use Rattle.sketches.specs.Unseen.{is_seen, item_of, with_items, written_of}
use Rattle.sketches.specs.declared.print.ended_text.RecordForm.{RecordForm}
use Rattle.sketch_text.specs.declared.record_part.RecordPart.{RecordPart}

-- the keys in a file of keys: the items of its records
abbrev pub keys_of : RecordPart → List ℕ → List (List ℕ)
keys_of part bytes = flat_map (item_of part) (raws_by part bytes)

-- the records that are written, with their ends: if `wanted`, those of which the filter contains the item, else the others
abbrev pub joined_lines : Bool → RecordPart → FilterState → List (List ℕ) → List (List ℕ)
joined_lines wanted part filter raws = flat_map (λ raw. written_of wanted (is_seen filter (item_of part raw)) raw) raws

-- A law of filters, which holds for any keys: a record whose item is a key is written if `wanted`, else it is not. It does not say what a
-- run writes.
abbrev pub FindsKeys : Bool → RecordPart → FilterState → List (List ℕ) → Type 0
FindsKeys wanted part filter keys = (raw key : List ℕ) → Contains keys key → Contains (item_of part raw) key
    → written_of wanted (is_seen filter (item_of part raw)) raw ≡ (if wanted then raw ∷ [] else [])

-- The writer received a header, and then those records of what was read of each input whose items the filter of all keys contains, or,
-- unless `wanted`, the others. They are written in `form`: with their ends, or as JSON objects. The filter is returned.
-- What the run did is `are`, `written` and `returned`; `finds` is the law above for these keys.
pub record WritesJoined (form : RecordForm) (wanted : Bool) (part : RecordPart) (header : List ℕ) (filter filter' : FilterState) (keys : List (List ℕ)) (inputs : List (List ℕ)) (fails : List Bool) (held holds : Option (List ℕ)) : Type 0 where
  pub read : List (List ℕ)
  pub are : AreRead (splits_by part) fails inputs read
  pub written : Appends held holds (header ++ text_of form (joined_lines wanted part (with_items filter keys) (flat_map (raws_by part) read)))
  pub finds : FindsKeys wanted part (with_items filter keys) keys
  pub returned : filter' ≡ with_items filter keys

-- The writer received the front of that, for what was read of the first of these inputs.
pub record WritesSomeJoined (form : RecordForm) (wanted : Bool) (part : RecordPart) (header : List ℕ) (filter : FilterState) (keys : List (List ℕ)) (inputs : List (List ℕ)) (held holds : Option (List ℕ)) : Type 0 where
  pub first : List (List ℕ)
  pub later : List (List ℕ)
  pub parts : inputs ≡ first ++ later
  pub read : List (List ℕ)
  pub fronts : AllZip (AreFirstRecords (splits_by part)) first read
  pub written : WritesFront held holds (header ++ text_of form (joined_lines wanted part (with_items filter keys) (flat_map (raws_by part) read)))
