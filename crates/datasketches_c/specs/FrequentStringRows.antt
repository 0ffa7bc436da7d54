-- Reports of frequent items sketches of strings, written into the caller's buffers.
use Rattle.std.specs.Prelude.{◌≡◌, ◌≢◌, ◌⊎◌, ℕ, ℤ, ◌+◌, ◌<◌, ◌≤◌, List, length, map, take, drop}
use Rattle.std.specs.List.{concat}
use Rattle.std.specs.Global.{Global}
use Rattle.std.specs.String.{string_bytes}
use Rattle.std.specs.declared.string.String.{String}
use Rattle.sketch_base.specs.declared.fault.Fault.TheVariants.{NoMemory}
use Rattle.sketch_frequencies.specs.RowValue.{RowValue}
use Rattle.sketch_frequencies.specs.State.{FrequentState}
use Rattle.sketch_frequencies.specs.declared.error_type.ErrorType.{ErrorType}
use Rattle.datasketches_c.specs.FrequentRows.{AreFirstRows, bounds_in}
use Rattle.datasketches_c.specs.FrequentStrings.{strings_eq}
use Rattle.any_sketch.specs.declared.any_sketch.AnySketch.{AnySketch}
use Rattle.any_sketch.specs.declared.any_sketch.AnySketch.TheVariants.{FrequentStrings}
use Rattle.datasketches_c.specs.Numbers.{OnRefused, ok, no_room, refusal_number, wrong_kind}
use Rattle.sketch_base.specs.Strings.{strings_of}
use Rattle.datasketches_c.specs.Strings.{offsets_from}
use Rattle.sketch_frequencies.specs.declared.item_bounds.ItemBounds.{ItemBounds}

-- the bytes of each row's string
abbrev pub row_strings : List (RowValue (String Global)) → List (List ℕ)
row_strings rows = map (λ row. string_bytes row.item) rows

-- the buffers for a report of strings
pub record StringBuffers : Type 0 where
  pub bytes : List ℕ
  pub offsets : List ℕ
  pub bounds : List ItemBounds

-- the rows are at the front of the buffers, their strings one after another from the first byte on. The rest of the buffers is
-- unchanged
pub record StringsStandAtFront (rows : List (RowValue (String Global))) (old new : StringBuffers) : Type 0 where
  pub bytes : take (length (concat (row_strings rows))) new.bytes ≡ concat (row_strings rows)
  pub behind_bytes : drop (length (concat (row_strings rows))) new.bytes ≡ drop (length (concat (row_strings rows))) old.bytes
  pub offsets : take (length rows + 1) new.offsets ≡ offsets_from 0 (row_strings rows)
  pub behind_offsets : drop (length rows + 1) new.offsets ≡ drop (length rows + 1) old.offsets
  pub bounds : take (length rows) new.bounds ≡ map bounds_in rows
  pub behind_bounds : drop (length rows) new.bounds ≡ drop (length rows) old.bounds
  -- so the strings can be read back
  pub read_back : strings_of new.bytes (take (length rows + 1) new.offsets) ≡ row_strings rows

-- the rows and the bytes of their strings were counted, and written if all buffers have room for them. Otherwise the result is
-- `no_room`
pub record ReportsStrings
    (rows : List (RowValue (String Global))) (old new : StringBuffers) (count num_bytes : ℕ) (result : ℤ) : Type 0 where
  pub counted : count ≡ length rows
  pub measured : num_bytes ≡ length (concat (row_strings rows))
  pub written :
      num_bytes ≤ length old.bytes → count < length old.offsets → count ≤ length old.bounds →
      (result ≡ ok) × StringsStandAtFront rows old new
  pub few_bytes : length old.bytes < num_bytes → result ≡ no_room
  pub few_offsets : length old.offsets ≤ count → result ≡ no_room
  pub few_bounds : length old.bounds < count → result ≡ no_room

-- what a failed report leaves: unchanged buffers, and unchanged counts unless the result is `no_room`
pub record LeavesStringRows (old new : StringBuffers) (count_old count_new num_bytes_old num_bytes_new : ℕ) (result : ℤ) : Type 0 where
  pub untouched : OnRefused result ((new.bytes ≡ old.bytes) × (new.offsets ≡ old.offsets) × (new.bounds ≡ old.bounds))
  pub uncounted : result ≢ ok → result ≢ no_room → (count_new ≡ count_old) × (num_bytes_new ≡ num_bytes_old)

-- the report was made, or the result is `NoMemory`
abbrev pub WritesStringRows :
    ErrorType → (threshold limit : ℕ) → FrequentState (String Global) → (old new : StringBuffers) → (count num_bytes : ℕ) → ℤ → Type 0
WritesStringRows kind threshold limit s old new count num_bytes result =
    ((rows : List (RowValue (String Global))) × AreFirstRows strings_eq kind threshold s limit rows × ReportsStrings rows old new count num_bytes result)
    ⊎ (result ≡ refusal_number NoMemory)

-- the report on a sketch of frequent strings was made, or the sketch is of another kind
abbrev pub WritesRowsOfStrings :
    AnySketch → ErrorType → (threshold limit : ℕ) → (old new : StringBuffers) → (count num_bytes : ℕ) → ℤ → Type 0
WritesRowsOfStrings (FrequentStrings s) kind threshold limit old new count num_bytes result =
    WritesStringRows kind threshold limit s old new count num_bytes result
WritesRowsOfStrings sketch kind threshold limit old new count num_bytes result = result ≡ wrong_kind
