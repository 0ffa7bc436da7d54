-- The actions of a session, and the action of each command.
use Rattle.std.specs.Prelude.{ℕ, ℤ, List}
use Rattle.std.specs.String.{string_bytes}
use Rattle.sketch_bloom.specs.Building.{Request}
use Rattle.sketch_countmin.specs.declared.count_min_sizes.CountMinSizes.{CountMinSizes}
use Rattle.sketch_frequencies.specs.State.{max_sample_size}
use Rattle.sketch_frequencies.specs.declared.error_type.ErrorType.{ErrorType}
use Rattle.sketch_frequencies.specs.declared.frequent_items_sizes.FrequentItemsSizes.{FrequentItemsSizes}
use Rattle.datasketches.specs.declared.command.Command.{Command}
use Rattle.datasketches.specs.declared.command.Command.TheVariants as command
use Rattle.datasketches.specs.declared.image_kind.ImageKind.{ImageKind}

-- the kind of a new sketch and its sizes
pub data Shape : Type 0 where
  Frequent : FrequentItemsSizes → Shape
  CountI64 : CountMinSizes → Shape
  CountU64 : CountMinSizes → Shape
  Bloom : Request → Shape

-- the sizes of a sketch of frequent items whose purges sample as many counters as they may
abbrev pub usual_sizes : ℕ → FrequentItemsSizes
usual_sizes max_map_size = record { max_map_size = max_map_size; sample_size = max_sample_size max_map_size }

-- a way to combine another sketch into one: a merge or a set operation
pub data Join : Type 0 where
  Merge : Join
  Union : Join
  Intersect : Join
  Difference : Join

-- a change of one sketch
pub data Change (T : Type 0) : Type 0 where
  Add : (item : T) → (weight : ℕ) → Change T
  AddSigned : (item : T) → (weight : ℤ) → Change T
  Insert : (item : T) → Change T
  Reset : Change T
  Halve : Change T
  Decay : (numerator denominator : ℕ) → Change T

-- an action on the sketches and images of these names
pub data Action (T : Type 0) : Type 0 where
  Create : (name : List ℕ) → Shape → Action T
  Alter : (name : List ℕ) → Change T → Action T
  Combine : (into other : List ℕ) → Join → Action T
  Save : (name image : List ℕ) → Action T
  Restore : (image name : List ℕ) → Action T
  Load : (name : List ℕ) → ImageKind → (bytes : List ℕ) → (max_bytes : ℕ) → Action T
  ShowImage : (image : List ℕ) → Action T
  Ask : (name : List ℕ) → (item : T) → Action T
  GetStatus : (name : List ℕ) → Action T
  ListRows : (name : List ℕ) → ErrorType → (threshold : ℕ) → Action T

-- the action of the command
abbrev pub action_of : {T : Type 0} → Command T → Action T
action_of (command.CreateFrequent name max_map_size) = Create (string_bytes name) (Frequent (usual_sizes max_map_size))
action_of (command.CreateFrequentSampled name max_map_size sample_size) =
    Create (string_bytes name) (Frequent (record { max_map_size = max_map_size; sample_size = sample_size }))
action_of (command.CreateCountI64 name hashes buckets seed) =
    Create (string_bytes name) (CountI64 (record { num_hashes = hashes; num_buckets = buckets; seed = seed }))
action_of (command.CreateCountU64 name hashes buckets seed) =
    Create (string_bytes name) (CountU64 (record { num_hashes = hashes; num_buckets = buckets; seed = seed }))
action_of (command.CreateBloom name bits hashes seed) =
    Create (string_bytes name) (Bloom (record { num_bits = bits; num_hashes = hashes; seed = seed }))
action_of (command.Add name item weight) = Alter (string_bytes name) (Add item weight)
action_of (command.AddSigned name item weight) = Alter (string_bytes name) (AddSigned item weight)
action_of (command.Insert name item) = Alter (string_bytes name) (Insert item)
action_of (command.Merge into other) = Combine (string_bytes into) (string_bytes other) Merge
action_of (command.Union into other) = Combine (string_bytes into) (string_bytes other) Union
action_of (command.Intersect into other) = Combine (string_bytes into) (string_bytes other) Intersect
action_of (command.Difference into other) = Combine (string_bytes into) (string_bytes other) Difference
action_of (command.Reset name) = Alter (string_bytes name) Reset
action_of (command.Halve name) = Alter (string_bytes name) Halve
action_of (command.Decay name numerator denominator) = Alter (string_bytes name) (Decay numerator denominator)
action_of (command.Save name image) = Save (string_bytes name) (string_bytes image)
action_of (command.Restore image name) = Restore (string_bytes image) (string_bytes name)
action_of (command.Load name kind image max_bytes) = Load (string_bytes name) kind image.items max_bytes
action_of (command.ShowImage image) = ShowImage (string_bytes image)
action_of (command.Ask name item) = Ask (string_bytes name) item
action_of (command.GetStatus name) = GetStatus (string_bytes name)
action_of (command.ListRows name error_type threshold) = ListRows (string_bytes name) error_type threshold
