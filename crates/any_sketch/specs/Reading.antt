-- Sketches that are read from the front of images.
use Rattle.std.specs.Ordering.{int_eq}
use Rattle.std.specs.Prelude.{◌≡◌, ◌*◌, ◌≤◌, ℕ, ℤ, Bool, IfErr, IfOk, List, None, Option, Result, length, nat_eq, pos}
use Rattle.std.specs.String.{string_bytes, string_eq}
use Rattle.std.specs.contracts.alloc.Global as heap
use Rattle.std.specs.contracts.impls.GlobalAllocator.TheImpl.{ghosts}
use Rattle.std.specs.contracts.string.String as string
use denote.Builtin as builtin
use denote.RattleType.{RattleType}
use Rattle.counter_table.specs.Bytes.{table_bytes}
use Rattle.counter_table.specs.declared.table_key.TableKey.{TableKey}
use Rattle.sketch_base.specs.Checks.{IsImageRefusal}
use Rattle.sketch_base.specs.Errors.{ErrorValue}
use Rattle.sketch_base.specs.declared.fault.Fault.{Fault}
use Rattle.sketch_bloom.specs.Image as filters
use Rattle.sketch_bloom.specs.State.{FilterState}
use Rattle.sketch_countmin.specs.Image as counts
use Rattle.sketch_countmin.specs.Shapes.{grid_bytes}
use Rattle.sketch_countmin.specs.State.{CountState}
use Rattle.sketch_frequencies.specs.Image as frequent
use Rattle.sketch_frequencies.specs.Items.{Codec, i64_codec, text_codec, u64_codec}
use Rattle.sketch_frequencies.specs.Memory.{memory_bytes, owned_by}
use Rattle.sketch_frequencies.specs.State.{FrequentState, max_sample_size}
use Rattle.any_sketch.specs.Kinds.{OfCountI64, OfCountU64, OfFilter, OfFrequentI64, OfFrequentStrings, OfFrequentU64}
use Rattle.any_sketch.specs.Updates.{max_i64, max_u64, min_i64}
use Rattle.any_sketch.specs.declared.any_error.AnyError.{AnyError}
use Rattle.any_sketch.specs.declared.any_error.AnyError.TheVariants.{Sketch}
use Rattle.any_sketch.specs.declared.any_sketch.AnySketch.{AnySketch}
use Rattle.any_sketch.specs.declared.image_options.ImageOptions.{ImageOptions}
use Rattle.any_sketch.specs.declared.kind.Kind.{Kind}
use Rattle.any_sketch.specs.declared.kind.Kind.TheVariants.{Filter, CountU64, CountI64, FrequentU64, FrequentI64, FrequentStrings}

-- the memory layouts of items
abbrev pub u64_row : RattleType
u64_row = builtin.u64

abbrev pub i64_row : RattleType
i64_row = builtin.i64

abbrev pub string_row : RattleType
string_row = string.the_row heap.the_row ghosts

-- the filter was restored from the image. Its words, 8 bytes each, take at most `max_bytes`
pub record RestoresFilter (image : List ℕ) (max_bytes : ℕ) (s : FilterState) : Type 0 where
  pub of_image : filters.IsImage image s
  pub stands : filters.Restores image s
  pub within : 8 * s.num_words ≤ max_bytes

-- the Count-Min sketch was restored from the image. Its cells, of `size` bytes each, and its rows' seeds, 8 bytes each, take at most
-- `max_bytes`
pub record RestoresCounts (least : ℤ) (greatest size seed : ℕ) (image : List ℕ) (max_bytes : ℕ) (s : CountState) : Type 0 where
  pub of_image : counts.IsImage least greatest seed image s
  pub stands : counts.Restores least greatest seed image s
  pub within : grid_bytes size s.hashes s.buckets ≤ max_bytes

-- the sketch of frequent items was restored from the image under the key, and counts no purges. It takes at most `max_bytes`, with the
-- bytes that its items own
pub record RestoresItems
    {T C : Type 0} (item : RattleType) (eq : T → T → Bool) (codec : Codec C) (content : T → C) (image : List ℕ) (max_bytes : ℕ)
    (key : TableKey) (s : FrequentState T)
    : Type 0 where
  pub of_image : frequent.IsImageOf codec content image s
  pub sample : s.sample_size ≡ max_sample_size s.max_size
  pub keyed : s.key ≡ key
  pub purges : s.purges ≡ 0
  pub stands : frequent.Restores codec content eq image s
  pub budget : frequent.RestoresBudget codec content eq image s
  pub within : memory_bytes (table_bytes item s.size) (owned_by codec content s.counters) ≤ max_bytes
  pub accepted : frequent.limit_fault item max_bytes codec image ≡ None

-- the sketch is of this kind, and was read from the front of the image, of which it took `used` bytes
abbrev pub IsRead : Kind → (image : List ℕ) → ImageOptions → AnySketch → (used : ℕ) → Type 0
IsRead Filter image o sketch used =
    OfFilter sketch (λ s. RestoresFilter image o.max_bytes s × filters.ReadsFront image s used)
    × (used ≡ filters.prefix_bytes image)
IsRead CountU64 image o sketch used =
    OfCountU64 sketch (λ s.
    RestoresCounts (pos 0) max_u64 8 o.seed image o.max_bytes s × counts.ReadsFront (pos 0) max_u64 o.seed image s used)
    × (used ≡ counts.prefix_bytes image)
IsRead CountI64 image o sketch used =
    OfCountI64 sketch (λ s.
    RestoresCounts min_i64 max_i64 8 o.seed image o.max_bytes s × counts.ReadsFront min_i64 max_i64 o.seed image s used)
    × (used ≡ counts.prefix_bytes image)
IsRead FrequentU64 image o sketch used =
    OfFrequentU64 sketch (λ s.
    RestoresItems u64_row nat_eq u64_codec (λ n. n) image o.max_bytes o.key s × frequent.ReadsFront u64_codec (λ n. n) image s used)
    × (used ≡ frequent.prefix_bytes u64_codec image)
IsRead FrequentI64 image o sketch used =
    OfFrequentI64 sketch (λ s.
    RestoresItems i64_row int_eq i64_codec (λ n. n) image o.max_bytes o.key s × frequent.ReadsFront i64_codec (λ n. n) image s used)
    × (used ≡ frequent.prefix_bytes i64_codec image)
IsRead FrequentStrings image o sketch used =
    OfFrequentStrings sketch (λ s.
    RestoresItems string_row string_eq text_codec (λ item. string_bytes item) image o.max_bytes o.key s
    × frequent.ReadsFront text_codec (λ item. string_bytes item) image s used)
    × (used ≡ frequent.prefix_bytes text_codec image)

-- the first fault of an image as one of this kind that is found before memory is allocated
abbrev pub early_fault : Kind → (image : List ℕ) → ImageOptions → Option Fault
early_fault Filter image o = filters.early_fault_within o.max_bytes image
early_fault CountU64 image o = counts.early_fault_within 8 o.max_bytes o.seed image
early_fault CountI64 image o = counts.early_fault_within 8 o.max_bytes o.seed image
early_fault FrequentU64 image o = frequent.early_fault_within u64_row o.max_bytes u64_codec image
early_fault FrequentI64 image o = frequent.early_fault_within i64_row o.max_bytes i64_codec image
early_fault FrequentStrings image o = frequent.early_fault_within string_row o.max_bytes text_codec image

-- the first fault of all
abbrev pub first_fault : Kind → (image : List ℕ) → ImageOptions → Option Fault
first_fault Filter image o = filters.first_fault_within o.max_bytes image
first_fault CountU64 image o = counts.first_fault_within (pos 0) max_u64 8 o.max_bytes o.seed image
first_fault CountI64 image o = counts.first_fault_within min_i64 max_i64 8 o.max_bytes o.seed image
first_fault FrequentU64 image o = frequent.first_fault_within u64_row o.max_bytes u64_codec image
first_fault FrequentI64 image o = frequent.first_fault_within i64_row o.max_bytes i64_codec image
first_fault FrequentStrings image o = frequent.first_fault_within string_row o.max_bytes text_codec image

-- the error is the image's first fault, or memory, if no check before the allocation fails
abbrev pub RefusesImage : (before whole : Option Fault) → AnyError → Type 0
RefusesImage before whole error = (e : ErrorValue) × (error ≡ Sketch e) × IsImageRefusal before whole e

-- the sketch of this kind was read from the front of the image, which has no fault before memory, or the image was refused
pub record ReadsImage (kind : Kind) (image : List ℕ) (o : ImageOptions) (result : Result (AnySketch × ℕ) AnyError) : Type 0 where
  pub read : IfOk result (λ r. IsRead kind image o r.0 r.1)
  pub there : IfOk result (λ r. r.1 ≤ length image)
  pub sound : IfOk result (λ r. early_fault kind image o ≡ None)
  pub refused : IfErr result (RefusesImage (early_fault kind image o) (first_fault kind image o))
