-- Images of sketches: how they are written and read, and for which histories they stand.
use Rattle.std.specs.Prelude.{◌≡◌, ◌⊎◌, ◌≤◌, ℕ, ◌*◌, nat_lt, ℤ, Bool, List, Option, Some, None, if◌then◌else◌}
use Rattle.counter_table.specs.Bytes.{slots_bytes}
use Rattle.sketch_base.specs.Checks.{IsImageRefusal, or_else}
use Rattle.sketch_base.specs.Errors.{ErrorValue, no_memory}
use Rattle.sketch_base.specs.declared.fault.Fault.{Fault}
use Rattle.sketch_base.specs.declared.fault.Fault.TheVariants.{TableTooLarge}
use Rattle.sketch_bloom.specs.History.{BloomHistory}
use Rattle.sketch_bloom.specs.Image as bloom
use Rattle.sketch_bloom.specs.Stands as bloom_stands
use Rattle.sketch_bloom.specs.State.{FilterState}
use Rattle.sketch_countmin.specs.History.{CountHistory}
use Rattle.sketch_countmin.specs.Image as count
use Rattle.sketch_countmin.specs.Shapes.{grid_bytes}
use Rattle.sketch_countmin.specs.Stands as count_stands
use Rattle.sketch_countmin.specs.State.{CountState}
use Rattle.sketch_frequencies.specs.History.{FrequentHistory}
use Rattle.sketch_frequencies.specs.Image as frequent
use Rattle.sketch_frequencies.specs.Items.{Codec, max_owned}
use Rattle.sketch_frequencies.specs.Memory.{memory_bytes, owned_by}
use Rattle.sketch_frequencies.specs.Stands as frequent_stands
use Rattle.sketch_frequencies.specs.State.{FrequentState, max_sample_size}
use Rattle.datasketches.specs.Actions.{Shape, Shape as shape}
use Rattle.datasketches.specs.Histories.{History, restored, stated_shape}
use Rattle.datasketches.specs.Histories.History.{OfFrequent, OfCountI64, OfCountU64, OfBloom, OfStranger}
use Rattle.datasketches.specs.Replies.{min_signed, max_signed, min_unsigned, max_unsigned}
use Rattle.datasketches.specs.Stands.{StandsFor, HasShape}
use Rattle.datasketches.specs.declared.image_kind.ImageKind.{ImageKind}
use Rattle.datasketches.specs.declared.image_kind.ImageKind.TheVariants as kind
use Rattle.datasketches.specs.declared.sketch.Sketch.{Sketch}
use Rattle.datasketches.specs.declared.sketch.Sketch.TheVariants.{Frequent, CountI64, CountU64, Bloom}

-- an image: its kind and its bytes
pub record Image : Type 0 where
  pub kind : ImageKind
  pub bytes : List ℕ

-- `codec` is how items are written and read, and `content` is what an image keeps of an item
module _ {T C : Type 0} (codec : Codec C) (content : T → C) where
  -- the image is one that the sketch writes, and is read under the sketch's seed
  abbrev pub IsWrittenBy : Sketch T → ImageKind → List ℕ → Type 0
  IsWrittenBy (Frequent s) kind.Frequent bytes = frequent.IsSpelledFor codec content bytes s
  IsWrittenBy (CountI64 s) (kind.CountI64 seed) bytes =
      (seed ≡ s.seed) × count.IsSpelled min_signed max_signed bytes s
  IsWrittenBy (CountU64 s) (kind.CountU64 seed) bytes =
      (seed ≡ s.seed) × count.IsSpelled min_unsigned max_unsigned bytes s
  IsWrittenBy (Bloom s) kind.Bloom bytes = bloom.IsSpelled bytes s
  IsWrittenBy _ _ _ = ⊥

  -- the error if a sketch is not written: `NoMemory`, or an item's own fault
  abbrev pub IsWriteRefusal : Sketch T → ErrorValue → Type 0
  IsWriteRefusal (Frequent s) e = frequent.IsImageWritingRefusal codec content s.counters e
  IsWriteRefusal (CountI64 s) e = e ≡ no_memory
  IsWriteRefusal (CountU64 s) e = e ≡ no_memory
  IsWriteRefusal (Bloom s) e = e ≡ no_memory

  -- the bytes are an image of the sketch. A frequent items sketch gets the sample size of a new one
  abbrev pub IsReadFrom : ImageKind → List ℕ → Sketch T → Type 0
  IsReadFrom kind.Frequent bytes (Frequent s) =
      frequent.IsImageOf codec content bytes s × (s.sample_size ≡ max_sample_size s.max_size)
  IsReadFrom (kind.CountI64 seed) bytes (CountI64 s) =
      count.IsImage min_signed max_signed seed bytes s
  IsReadFrom (kind.CountU64 seed) bytes (CountU64 s) =
      count.IsImage min_unsigned max_unsigned seed bytes s
  IsReadFrom kind.Bloom bytes (Bloom s) = bloom.IsImage bytes s
  IsReadFrom _ _ _ = ⊥

-- the error if an image is not read: its first fault, or `NoMemory` if no check before the allocation fails
abbrev pub IsReadRefusal : {C : Type 0} → Codec C → ImageKind → List ℕ → ErrorValue → Type 0
IsReadRefusal codec kind.Frequent bytes e =
    IsImageRefusal (frequent.early_fault bytes) (frequent.first_fault codec bytes) e
IsReadRefusal codec (kind.CountI64 seed) bytes e =
    IsImageRefusal (count.early_fault seed bytes)
    (count.first_fault min_signed max_signed seed bytes) e
IsReadRefusal codec (kind.CountU64 seed) bytes e =
    IsImageRefusal (count.early_fault seed bytes)
    (count.first_fault min_unsigned max_unsigned seed bytes) e
IsReadRefusal codec kind.Bloom bytes e =
    IsImageRefusal (bloom.early_fault bytes) (bloom.first_fault bytes) e

-- `TableTooLarge` if a sketch would take more bytes than the limit
abbrev pub over_limit : (max_bytes taken : ℕ) → Option Fault
over_limit max_bytes taken = if nat_lt max_bytes taken then Some TableTooLarge else None

-- the fault if the sketch of the image would exceed the limit. A slot of frequent items takes `slot` + 12 bytes, besides what the
-- items can own. A cell of a Count-Min sketch takes 8
abbrev pub load_fault : (slot : ℕ) → {C : Type 0} → Codec C → (max_bytes : ℕ) → ImageKind → List ℕ → Option Fault
load_fault slot codec max_bytes kind.Frequent bytes =
    over_limit max_bytes
    (memory_bytes (slots_bytes slot (frequent.restored_size bytes))
    (max_owned codec (frequent.bytes_of_items codec bytes)))
load_fault slot codec max_bytes (kind.CountI64 seed) bytes = count.limit_fault 8 max_bytes bytes
load_fault slot codec max_bytes (kind.CountU64 seed) bytes = count.limit_fault 8 max_bytes bytes
load_fault slot codec max_bytes kind.Bloom bytes = bloom.limit_fault max_bytes bytes

-- the error if an image is not loaded: that of reading it, or of the limit. The limit is the last check before the allocation
abbrev pub IsLoadRefusal : (slot : ℕ) → {C : Type 0} → Codec C → (max_bytes : ℕ) → ImageKind → List ℕ → ErrorValue → Type 0
IsLoadRefusal slot codec max_bytes kind.Frequent bytes e =
    let early = or_else (frequent.early_fault bytes) (load_fault slot codec max_bytes kind.Frequent bytes) in
    IsImageRefusal early (or_else early (frequent.late_fault codec bytes)) e
IsLoadRefusal slot codec max_bytes (kind.CountI64 seed) bytes e =
    IsImageRefusal (count.early_fault_within 8 max_bytes seed bytes)
    (count.first_fault_within min_signed max_signed 8 max_bytes seed bytes) e
IsLoadRefusal slot codec max_bytes (kind.CountU64 seed) bytes e =
    IsImageRefusal (count.early_fault_within 8 max_bytes seed bytes)
    (count.first_fault_within min_unsigned max_unsigned 8 max_bytes seed bytes) e
IsLoadRefusal slot codec max_bytes kind.Bloom bytes e =
    IsImageRefusal (bloom.early_fault_within max_bytes bytes)
    (bloom.first_fault_within max_bytes bytes) e

-- the sketch takes at most `max_bytes`, with the bytes that its items own
abbrev pub TakesWithin : (slot : ℕ) → {T C : Type 0} → Codec C → (T → C) → (max_bytes : ℕ) → Sketch T → Type 0
TakesWithin slot codec content max_bytes (Frequent s) =
    memory_bytes (slots_bytes slot s.size) (owned_by codec content s.counters) ≤ max_bytes
TakesWithin slot codec content max_bytes (CountI64 s) = grid_bytes 8 s.hashes s.buckets ≤ max_bytes
TakesWithin slot codec content max_bytes (CountU64 s) = grid_bytes 8 s.hashes s.buckets ≤ max_bytes
TakesWithin slot codec content max_bytes (Bloom s) = 8 * s.num_words ≤ max_bytes

-- the bytes were written by a filter that stands for the history
pub record IsFilterImage (bytes : List ℕ) (h : BloomHistory) : Type 0 where
  pub filter : FilterState
  pub spelled : bloom.IsSpelled bytes filter
  pub stands : bloom_stands.StandsFor filter h

-- the bytes were written by a Count-Min sketch that stands for the history, and are read under its seed. `least` and `greatest`
-- are the minimum and maximum of the weight type
pub record IsCountImage (least : ℤ) (greatest seed : ℕ) (bytes : List ℕ) (h : CountHistory) : Type 0 where
  pub sketch : CountState
  pub seed_is : seed ≡ sketch.seed
  pub spelled : count.IsSpelled least greatest bytes sketch
  pub stands : count_stands.StandsFor sketch h

module _ {T C : Type 0} (codec : Codec C) (content : T → C) where
  -- a sketch of this shape has written the image, or the image states the shape
  abbrev pub IsWrittenOrStated : {State : Type 0} → (State → Sketch T) → ImageKind → List ℕ → Shape → Type 0
  IsWrittenOrStated {State} of_state kind bytes known =
      ((s : State) × IsWrittenBy codec content (of_state s) kind bytes × HasShape (of_state s) known)
      ⊎ (known ≡ stated_shape kind bytes)

  -- the shape is of the image's kind. If that has a reset, a sketch of this shape has written the image, or the image states it
  abbrev pub IsImageOfShape : ImageKind → List ℕ → Shape → Type 0
  IsImageOfShape kind.Frequent bytes (shape.Frequent sizes) =
      IsWrittenOrStated Frequent kind.Frequent bytes (shape.Frequent sizes)
  IsImageOfShape (kind.CountI64 seed) bytes (shape.CountI64 sizes) = Unit {0}
  IsImageOfShape (kind.CountU64 seed) bytes (shape.CountU64 sizes) = Unit {0}
  IsImageOfShape kind.Bloom bytes (shape.Bloom request) = IsWrittenOrStated Bloom kind.Bloom bytes (shape.Bloom request)
  IsImageOfShape _ _ _ = ⊥

module _ {T C : Type 0} (eq : T → T → Bool) (codec : Codec C) (content : T → C) where
  -- the bytes were written by a frequent items sketch that encloses the history and keeps its tail budget, whatever its sample
  -- size
  pub record IsFrequentImage (bytes : List ℕ) (h : FrequentHistory T) : Type 0 where
    pub sketch : FrequentState T
    pub spelled : frequent.IsSpelledFor codec content bytes sketch
    pub encloses : frequent_stands.Encloses eq sketch h
    pub budget : frequent_stands.KeepsTailBudget eq sketch h

  -- the image was written by a sketch that stands for the history. Of an untrusted image only the shape is known
  abbrev pub IsImageOf : ImageKind → List ℕ → History T → Type 0
  IsImageOf kind.Frequent bytes (OfFrequent h) = IsFrequentImage bytes h
  IsImageOf (kind.CountI64 seed) bytes (OfCountI64 h) =
      IsCountImage min_signed max_signed seed bytes h
  IsImageOf (kind.CountU64 seed) bytes (OfCountU64 h) =
      IsCountImage min_unsigned max_unsigned seed bytes h
  IsImageOf kind.Bloom bytes (OfBloom h) = IsFilterImage bytes h
  IsImageOf kind bytes (OfStranger known) = IsImageOfShape codec content kind bytes known
  IsImageOf _ _ _ = ⊥

  abbrev pub IsSavedOf : Image → History T → Type 0
  IsSavedOf image h = IsImageOf image.kind image.bytes h

  -- for each history of the image, the sketch stands for the restored history
  abbrev pub GivesBack : ImageKind → List ℕ → Sketch T → Type 0
  GivesBack kind bytes sketch = (h : History T) → IsImageOf kind bytes h → StandsFor eq sketch (restored h)
