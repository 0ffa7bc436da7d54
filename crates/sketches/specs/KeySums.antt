-- Keys whose weights are summed exactly: the keys that are read, the weights that are added to them, and what is printed.
use Rattle.std.specs.Prelude.{◌≡◌, ◌⊎◌, ℕ, ◌+◌, ◌-◌, ◌^◌, ◌<◌, ◌≤◌, Bool, true, List, [], ◌∷◌, ◌++◌, map, min, length, slice_get, Contains, Option, None, Some, IfSome}
use Rattle.std.specs.Global.{Global}
use Rattle.std.specs.Io.KnownBytes.{Appends}
use Rattle.std.specs.List.{AllZip, IsDistinct, flat_map}
use Rattle.std.specs.Str.{bytes_eq}
use Rattle.std.specs.declared.io.Error.{Error}
use Rattle.std.specs.declared.vec.Vec.{Vec}
use Rattle.sketch_text.specs.Records.{records_by, splits_by}
use Rattle.sketches.specs.Inputs.{AreRead, HaveLongRecord}
use Rattle.sketches.specs.KeyWeights.{Row, parts_in, row_line, total_line, unweighed_in, unweighed_line, unweighed_lines, weighed_in, weighed_lines}
use Rattle.sketches.specs.LineNumbers.{HaveUnweighed}
use Rattle.sketches.specs.Outputs.{WritesFront}
use Rattle.sketches.specs.Reading.{HasLongRecord}
use Rattle.sketches.specs.Skipped.{skipped_rows}
use Rattle.sketches.specs.Utf8Lines.{GrowsBy}
use Rattle.sketches.specs.Weighed.{Weighed, total_of, weight_of}
use Rattle.sketches.specs.declared.weight.exact_weights.ExactFailure.{ExactFailure}
use Rattle.sketches.specs.declared.weight.exact_weights.ExactFailure.TheVariants.{Unread, Keys, Weights}
use Rattle.sketches.specs.declared.weight.exact_weights.ExactOptions.{ExactOptions}
use Rattle.sketches.specs.declared.failure.Failure.{Failure}
use Rattle.sketches.specs.declared.failure.Failure.TheVariants.{Memory, LineTooLong, TooManyItems, BadSize, BadWeight, Write}
use Rattle.sketches.specs.declared.item.weighing.WeighedRecord.{WeighedRecord}
use Rattle.sketches.specs.declared.print.layout.Style.{Style}

-- ---- what is printed

-- the line of each key: the sum of the weights of the items that are equal to it
abbrev pub sum_lines : Style → Weighed → List (List ℕ) → List ℕ
sum_lines style items keys = flat_map (λ key. row_line style (weight_of items key, key)) keys

-- all lines, for what was read of the inputs and the bytes of the file of keys
abbrev pub sums_text : ExactOptions → (read : List (List ℕ)) → (keys : List ℕ) → List ℕ
sums_text options read keys =
    total_line options.style options.header (total_of (weighed_in options.chosen read))
    ++ sum_lines options.style (weighed_in options.chosen read) (parts_in options.keys_part keys)

-- The writer received the total weight of what was read of the inputs, and the line of each key of the file, in its order. Each record
-- of the inputs with an item has a weight that counts. `unweighed` is the number of those that have an item and no weight, and whose weight
-- is 0.
pub record WritesSums (options : ExactOptions) (inputs : List (List ℕ)) (fails : List Bool) (keys : List ℕ) (unweighed : ℕ) (held holds : Option (List ℕ)) : Type 0 where
  pub read : List (List ℕ)
  pub are : AreRead (splits_by options.chosen.item) fails inputs read
  pub each : unweighed_in options.chosen read ≡ []
  pub skipped : unweighed ≡ min (skipped_rows options.chosen (flat_map (records_by options.chosen.item) read)) (2 ^ 64 - 1)
  pub wrote : Appends held holds (sums_text options read keys)

-- The writer received the front of that.
pub record WritesSomeSums (options : ExactOptions) (inputs : List (List ℕ)) (fails : List Bool) (keys : List ℕ) (held holds : Option (List ℕ)) : Type 0 where
  pub read : List (List ℕ)
  pub are : AreRead (splits_by options.chosen.item) fails inputs read
  pub each : unweighed_in options.chosen read ≡ []
  pub wrote : WritesFront held holds (sums_text options read keys)

-- ---- failures

-- there are more than `max` distinct keys among these
abbrev pub HaveMoreKeys : (max : ℕ) → List (List ℕ) → Type 0
HaveMoreKeys max keys =
    (some : List (List ℕ)) × IsDistinct bytes_eq some × ((key : List ℕ) → Contains some key → Contains keys key) × (max < length some)

-- there are at most `max` distinct keys among these
abbrev pub HaveFewKeys : (max : ℕ) → List (List ℕ) → Type 0
HaveFewKeys max keys = HaveMoreKeys max keys → ⊥

-- While the keys are taken, memory may be exhausted. Otherwise a record of the file has at least `limit` bytes, or the file has more than
-- `max_keys` distinct keys.
abbrev pub FailsKeys : ExactOptions → (limit : ℕ) → Option (List ℕ) → Failure → Type 0
FailsKeys options limit keys Memory = Unit {0}
FailsKeys options limit keys LineTooLong = IfSome keys (HasLongRecord (splits_by options.keys_part) limit)
FailsKeys options limit keys BadSize = IfSome keys (λ bytes. HaveMoreKeys options.max_keys (parts_in options.keys_part bytes))
FailsKeys options limit keys _ = ⊥

-- a read fails after the bytes of the keys, or a failure comes while they are taken
abbrev pub FailsFileKeys : ExactOptions → (limit : ℕ) → Option (List ℕ) → (fails : Bool) → ExactFailure → Type 0
FailsFileKeys options limit keys fails (Unread error) = IfSome keys (λ _. fails ≡ true)
FailsFileKeys options limit keys fails (Keys failure) = FailsKeys options limit keys failure
FailsFileKeys options limit keys fails (Weights failure) = ⊥

-- While the inputs are read and lines are written, memory may be exhausted, or a write has failed with this error. Otherwise a record of an input has
-- more bytes than the limit, the total of the inputs is at least 2^64, or a record of an input with an item has no weight that counts. The
-- error of such a record has the number of its first line.
abbrev pub FailsSums : WeighedRecord → (limit : ℕ) → Option (List (List ℕ)) → (write_error : Option Error) → Failure → Type 0
FailsSums chosen limit was write_error Memory = Unit {0}
FailsSums chosen limit was write_error LineTooLong = IfSome was (HaveLongRecord (splits_by chosen.item) limit)
FailsSums chosen limit was write_error TooManyItems = IfSome was (λ inputs. 2 ^ 64 ≤ total_of (weighed_in chosen inputs))
FailsSums chosen limit was write_error (BadWeight found) = IfSome was (λ inputs. HaveUnweighed (splits_by chosen.item) (unweighed_line chosen) inputs found.line)
FailsSums chosen limit was write_error BadSize = ⊥
FailsSums chosen limit was write_error (Write error) = write_error ≡ Some error

-- a read fails after the bytes of the keys; or a failure comes while keys are read, or later
abbrev pub FailsExact : ExactOptions → (keys : Option (List ℕ)) → (keys_fail : Bool) → Option (List (List ℕ)) → (write_error : Option Error) → ExactFailure → Type 0
FailsExact options keys keys_fail was write_error (Unread error) = IfSome keys (λ _. keys_fail ≡ true)
FailsExact options keys keys_fail was write_error (Keys failure) = FailsKeys options (options.max_line + 1) keys failure
FailsExact options keys keys_fail was write_error (Weights failure) = FailsSums options.chosen (options.max_line + 1) was write_error failure

-- the file of keys could not be read whole, or it has a key too many
abbrev pub IsOfKeys : ExactFailure → Type 0
IsOfKeys (Weights failure) = ⊥
IsOfKeys _ = Unit {0}

-- the failure may come after lines were written
abbrev pub ComesWhileWriting : ExactFailure → Type 0
ComesWhileWriting (Weights Memory) = Unit {0}
ComesWhileWriting (Weights (Write error)) = Unit {0}
ComesWhileWriting _ = ⊥

-- ---- the sums while they grow

-- the entries of a map: a key and its sum each
abbrev pub Sums : Type 0
Sums = List (Vec ℕ Global × ℕ)

-- the keys, in the order of the map
abbrev pub names : Sums → List (List ℕ)
names sums = map (λ entry. entry.0.items) sums

-- each sum is the weight of its key among the items
abbrev pub HoldsSums : Weighed → Sums → Type 0
HoldsSums items [] = Unit {0}
HoldsSums items (entry ∷ sums) = (entry.1 ≡ weight_of items entry.0.items) × HoldsSums items sums

-- The indices are those of these keys, in order. The map has no other keys, and each sum is 0.
pub record HoldsKeys (sums : Sums) (order : List ℕ) (keys : List (List ℕ)) : Type 0 where
  pub named : AllZip (λ index key. slice_get (names sums) index ≡ Some key) order keys
  pub among : (key : List ℕ) → Contains (names sums) key → Contains keys key
  pub empty : HoldsSums [] sums

-- The key has this index. It may be new, and is then the last key, with a sum of 0.
pub record FindsKey (sums : Sums) (key : List ℕ) (sums' : Sums) (index : ℕ) : Type 0 where
  pub at : slice_get (names sums') index ≡ Some key
  pub grows : (sums' ≡ sums) ⊎ ((stored : Vec ℕ Global) × (stored.items ≡ key) × (sums' ≡ sums ++ (stored, 0) ∷ []))

-- the keys follow those that the map had
abbrev pub TakesKeys : (sums : Sums) (order : List ℕ) → (more : List (List ℕ)) → (sums' : Sums) (order' : List ℕ) → Type 0
TakesKeys sums order more sums' order' = (keys : List (List ℕ)) → HoldsKeys sums order keys → HoldsKeys sums' order' (keys ++ more)

-- the map does not exceed `max` keys, if it did not before
abbrev pub StaysWithin : (max : ℕ) → Sums → Sums → Type 0
StaysWithin max sums sums' = length sums ≤ max → length sums' ≤ max

-- while keys are taken, memory is exhausted, or there are more than `max` distinct keys
abbrev pub FailsTakingKeys : (max : ℕ) (sums : Sums) (order : List ℕ) → (more : List (List ℕ)) → Failure → Type 0
FailsTakingKeys max sums order more Memory = Unit {0}
FailsTakingKeys max sums order more BadSize = (keys : List (List ℕ)) → HoldsKeys sums order keys → HaveMoreKeys max (keys ++ more)
FailsTakingKeys max sums order more _ = ⊥

-- Each item was added to the total, and to the sum of the key that is equal to it, if any.
pub record AddsItems (sums : Sums) (total : ℕ) (items : Weighed) (sums' : Sums) (total' : ℕ) : Type 0 where
  pub total_is : total' ≡ total + total_of items
  pub names_are : names sums' ≡ names sums
  pub adds : (before : Weighed) → total ≡ total_of before → HoldsSums before sums → HoldsSums (before ++ items) sums'

-- one item was added to the sum of the key that is equal to it, if any
abbrev pub AddsWeight : Sums → (item : List ℕ) (weight : ℕ) → Sums → Type 0
AddsWeight sums item weight sums' = (before : Weighed) → total_of before + weight < 2 ^ 64 → HoldsSums before sums → HoldsSums (before ++ (item, weight) ∷ []) sums'

-- the items of records were added, and each record with an item has a weight that counts
abbrev pub AddsLines : WeighedRecord → (sums : Sums) (total : ℕ) → List (List ℕ) → (sums' : Sums) (total' : ℕ) → Type 0
AddsLines chosen sums total all sums' total' = AddsItems sums total (weighed_lines chosen all) sums' total' × (unweighed_lines chosen all ≡ [])

-- What was read of inputs was added, from a total of 0. `unweighed` is the number of its records that have an item and no weight, and whose
-- weight is 0.
pub record SumsInputs (chosen : WeighedRecord) (sums : Sums) (inputs : List (List ℕ)) (fails : List Bool) (sums' : Sums) (total' unweighed : ℕ) : Type 0 where
  pub read : List (List ℕ)
  pub are : AreRead (splits_by chosen.item) fails inputs read
  pub each : unweighed_in chosen read ≡ []
  pub skipped : GrowsBy 0 (skipped_rows chosen (flat_map (records_by chosen.item) read)) unweighed
  pub adds : AddsItems sums 0 (weighed_in chosen read) sums' total'

-- ---- rows

-- the row of an entry, if any: its sum and its key
abbrev pub row_of : Option (Vec ℕ Global × ℕ) → List Row
row_of None = []
row_of (Some entry) = (entry.1, entry.0.items) ∷ []

-- the rows of the entries at these indices
abbrev pub rows_at : Sums → (order : List ℕ) → List Row
rows_at sums order = flat_map (λ index. row_of (slice_get sums index)) order

-- the line of the total, and those rows
abbrev pub rows_text : ExactOptions → (total : ℕ) → Sums → (order : List ℕ) → List ℕ
rows_text options total sums order = total_line options.style options.header total ++ flat_map (row_line options.style) (rows_at sums order)

-- The first of these bytes were written, and the others stay. All were written if `least` is 0.
pub record Sends (least : ℕ) (held : Option (List ℕ)) (bytes : List ℕ) (holds : Option (List ℕ)) (left : List ℕ) : Type 0 where
  pub sent : List ℕ
  pub parts : bytes ≡ sent ++ left
  pub wrote : Appends held holds sent
  pub all : least ≡ 0 → left ≡ []
