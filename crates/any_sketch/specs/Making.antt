-- New sketches of any kind, which are empty.
use Rattle.std.specs.Ordering.{int_eq}
use Rattle.std.specs.Prelude.{◌≡◌, ℕ, Bool, None, Option, Some, IfErr, IfOk, OnOk, Result, nat_eq, nat_lt, if◌then◌else◌}
use Rattle.std.specs.String.{string_eq}
use Rattle.sketch_base.specs.Errors.{refusal_of}
use Rattle.sketch_base.specs.declared.fault.Fault.{Fault}
use Rattle.sketch_base.specs.declared.fault.Fault.TheVariants.{BadNumHashes}
use Rattle.sketch_bloom.specs.Building.{request_fault, words_for}
use Rattle.sketch_bloom.specs.History as filter_histories
use Rattle.sketch_bloom.specs.Stands as filters_stand
use Rattle.sketch_bloom.specs.State as filters
use Rattle.sketch_countmin.specs.History as count_histories
use Rattle.sketch_countmin.specs.Shapes.{shape_fault}
use Rattle.sketch_countmin.specs.Stands as counts_stand
use Rattle.sketch_countmin.specs.State as counts
use Rattle.sketch_frequencies.specs.History.FrequentHistory.{New}
use Rattle.sketch_frequencies.specs.Sizes.{sizes_fault}
use Rattle.sketch_frequencies.specs.Stands.{KeepsTailBudget, StandsFor}
use Rattle.sketch_frequencies.specs.State.{FrequentState, empty_state}
use Rattle.any_sketch.specs.Kinds.{OfCountI64, OfCountU64, OfFilter, OfFrequentI64, OfFrequentStrings, OfFrequentU64}
use Rattle.any_sketch.specs.declared.any_error.AnyError.{AnyError}
use Rattle.any_sketch.specs.declared.any_error.AnyError.TheVariants.{Sketch}
use Rattle.any_sketch.specs.declared.any_sketch.AnySketch.{AnySketch}
use Rattle.any_sketch.specs.declared.kind.Kind.{Kind}
use Rattle.any_sketch.specs.declared.kind.Kind.TheVariants.{Filter, CountU64, CountI64, FrequentU64, FrequentI64, FrequentStrings}
use Rattle.any_sketch.specs.declared.sketch_sizes.SketchSizes.{SketchSizes}

-- the filter is empty, of these sizes and this seed, and stands for the history of a new filter
pub record IsNewFilter (sizes : SketchSizes) (s : filters.FilterState) : Type 0 where
  pub empty : s ≡ filters.empty_state (words_for sizes.num_bits) sizes.num_hashes sizes.seed
  pub stands : filters_stand.StandsFor s (filter_histories.BloomHistory.New (words_for sizes.num_bits) sizes.num_hashes sizes.seed)

-- the Count-Min sketch is empty, of these sizes and this seed, and stands for the history of a new sketch
pub record IsNewCounts (sizes : SketchSizes) (s : counts.CountState) : Type 0 where
  pub empty : s ≡ counts.empty_state sizes.num_hashes sizes.num_buckets sizes.seed
  pub stands : counts_stand.StandsFor s (count_histories.CountHistory.New sizes.num_hashes sizes.num_buckets sizes.seed)

-- the sketch of frequent items is empty, of these sizes and this key. It stands for the history of a new sketch, and keeps its tail budget
pub record IsNewFrequent {T : Type 0} (eq : T → T → Bool) (sizes : SketchSizes) (s : FrequentState T) : Type 0 where
  pub empty : s ≡ empty_state sizes.max_map_size sizes.sample_size sizes.key
  pub stands : StandsFor eq s (New sizes.max_map_size sizes.sample_size)
  pub budget : KeepsTailBudget eq s (New sizes.max_map_size sizes.sample_size)

-- the first fault of the sizes of a Count-Min sketch
abbrev pub counts_fault : SketchSizes → Option Fault
counts_fault sizes =
    if nat_lt 255 sizes.num_hashes then Some BadNumHashes else shape_fault sizes.num_hashes sizes.num_buckets sizes.seed

-- The statement holds of the new sketch, of which `of` says that it is of the kind. If the sizes have a fault, the result is the first one. If
-- there is no memory, the result is `NoMemory`.
pub record MakesSketch
    {S : Type 0} (of : AnySketch → (S → Type 0) → Type 0) (said : S → Type 0) (fault : Option Fault) (result : Result AnySketch AnyError)
    : Type 0 where
  pub made : IfOk result (λ new. of new said)
  pub accepted : OnOk result (fault ≡ None)
  pub refused : IfErr result (λ e. e ≡ Sketch (refusal_of fault))

-- the result is a new sketch of this kind and these sizes, or why there is none
abbrev pub Makes : Kind → SketchSizes → Result AnySketch AnyError → Type 0
Makes Filter sizes result =
    MakesSketch OfFilter (IsNewFilter sizes)
    (request_fault (record { num_bits = sizes.num_bits; num_hashes = sizes.num_hashes; seed = sizes.seed })) result
Makes CountU64 sizes result = MakesSketch OfCountU64 (IsNewCounts sizes) (counts_fault sizes) result
Makes CountI64 sizes result = MakesSketch OfCountI64 (IsNewCounts sizes) (counts_fault sizes) result
Makes FrequentU64 sizes result =
    MakesSketch OfFrequentU64 (IsNewFrequent nat_eq sizes) (sizes_fault sizes.max_map_size sizes.sample_size) result
Makes FrequentI64 sizes result =
    MakesSketch OfFrequentI64 (IsNewFrequent int_eq sizes) (sizes_fault sizes.max_map_size sizes.sample_size) result
Makes FrequentStrings sizes result =
    MakesSketch OfFrequentStrings (IsNewFrequent string_eq sizes) (sizes_fault sizes.max_map_size sizes.sample_size) result
