-- Effects of calls that change a whole sketch: resets, sample sizes and decay.
use Rattle.std.specs.Ordering.{int_eq}
use Rattle.std.specs.Prelude.{◌≡◌, ℕ, Bool, None, nat_eq, IsOk, IsErrOf, OnErr, OnOk, Result}
use Rattle.std.specs.String.{string_eq}
use Rattle.sketch_base.specs.Errors.{invalid_argument}
use Rattle.sketch_base.specs.declared.fault.Fault.TheVariants.{BadSampleSize}
use Rattle.sketch_bloom.specs.History.BloomHistory.{New as NewFilter, Reset as ResetFilter}
use Rattle.sketch_bloom.specs.Stands as filters
use Rattle.sketch_bloom.specs.State.{FilterState, cleared}
use Rattle.sketch_countmin.specs.History.CountHistory.{New as NewCounts, Decay, Halve}
use Rattle.sketch_countmin.specs.Stands as counts
use Rattle.sketch_countmin.specs.State.{CountState, decayed_state, empty_state, halved_state}
use Rattle.sketch_frequencies.specs.History.{FrequentHistory}
use Rattle.sketch_frequencies.specs.History.FrequentHistory.{New, Merge, Reset}
use Rattle.sketch_frequencies.specs.Sizes.{sample_fault}
use Rattle.sketch_frequencies.specs.Stands.{Extends, ExtendsBudget, KeepsTailBudget, StandsFor}
use Rattle.sketch_frequencies.specs.State.{FrequentState, emptied}
use Rattle.any_sketch.specs.Kinds.{LacksCall, OfCountI64, OfCountU64, OfFilter, OfFrequentI64, OfFrequentStrings, OfFrequentU64}
use Rattle.any_sketch.specs.declared.any_error.AnyError.{AnyError}
use Rattle.any_sketch.specs.declared.any_error.AnyError.TheVariants.{Sketch}
use Rattle.any_sketch.specs.declared.any_sketch.AnySketch.{AnySketch}
use Rattle.any_sketch.specs.declared.any_sketch.AnySketch.TheVariants as any

-- new is the filter old without positions, and stands for the reset of each history of old. It stands for the history of a new filter,
-- also if old was an untrusted image
pub record Clears (old new : FilterState) : Type 0 where
  pub cleared : new ≡ cleared old
  pub stands : filters.Extends old new ResetFilter
  pub renewed : filters.StandsFor new (NewFilter old.num_words old.num_hashes old.seed)

-- new is the empty sketch of old's shape and seed, and stands for the history of a new one, also if old was an untrusted image
pub record Restarts (old new : CountState) : Type 0 where
  pub empty : new ≡ empty_state old.hashes old.buckets old.seed
  pub renewed : counts.StandsFor new (NewCounts old.hashes old.buckets old.seed)

module _ {T : Type 0} (eq : T → T → Bool) where
  -- new is the empty sketch of old's sizes and key, after as many purges. It stands for the reset of each history of old, and keeps its
  -- tail budget. It stands for the history of a new sketch, also if old was an untrusted image
  pub record Empties (old new : FrequentState T) : Type 0 where
    pub empty : new ≡ emptied old
    pub stands : Extends eq old new Reset
    pub budget : (h : FrequentHistory T) → KeepsTailBudget eq new (Reset h)
    pub renewed : StandsFor eq new (New old.max_size old.sample_size)
    pub renewed_budget : KeepsTailBudget eq new (New old.max_size old.sample_size)

  -- The sample size was changed, and the sketch then stands for its history merged into a new sketch. Or the size is out of range, and the
  -- sketch is unchanged.
  pub record Resamples (old : FrequentState T) (n : ℕ) (new : FrequentState T) (result : Result (Unit {0}) AnyError) : Type 0 where
    pub set : OnOk result (new ≡ record old { sample_size = n })
    pub stands : OnOk result (Extends eq old new (λ h. Merge (New old.max_size n) h))
    pub budget : OnOk result (ExtendsBudget eq old new (λ h. Merge (New old.max_size n) h))
    pub refused : OnErr result (new ≡ old)
    pub accepted : sample_fault old.max_size n ≡ None → IsOk result
    pub rejected : ¬ (sample_fault old.max_size n ≡ None) → IsErrOf result (Sketch (invalid_argument BadSampleSize))

-- the sketch was emptied
abbrev pub Resets : (old new : AnySketch) → Type 0
Resets (any.Filter s) new = OfFilter new (Clears s)
Resets (any.CountI64 s) new = OfCountI64 new (Restarts s)
Resets (any.CountU64 s) new = OfCountU64 new (Restarts s)
Resets (any.FrequentI64 s) new = OfFrequentI64 new (Empties int_eq s)
Resets (any.FrequentU64 s) new = OfFrequentU64 new (Empties nat_eq s)
Resets (any.FrequentStrings s) new = OfFrequentStrings new (Empties string_eq s)

-- the number of counters that later purges of a sketch of frequent items sample was set
abbrev pub SetsSampleSize : (old : AnySketch) → ℕ → (new : AnySketch) → Result (Unit {0}) AnyError → Type 0
SetsSampleSize (any.FrequentI64 s) n new result = OfFrequentI64 new (λ t. Resamples int_eq s n t result)
SetsSampleSize (any.FrequentU64 s) n new result = OfFrequentU64 new (λ t. Resamples nat_eq s n t result)
SetsSampleSize (any.FrequentStrings s) n new result = OfFrequentStrings new (λ t. Resamples string_eq s n t result)
SetsSampleSize old n new result = LacksCall result × (new ≡ old)

-- each cell and the total of a Count-Min sketch with weights in `u64` were halved, rounded down
abbrev pub Halves : (old new : AnySketch) → Result (Unit {0}) AnyError → Type 0
Halves (any.CountU64 s) new result =
    IsOk result × (new ≡ any.CountU64 (halved_state s)) × counts.Extends s (halved_state s) Halve
Halves old new result = LacksCall result × (new ≡ old)

-- they were multiplied by a fraction, rounded down
abbrev pub Decays : (old : AnySketch) → (numerator denominator : ℕ) → (new : AnySketch) → Result (Unit {0}) AnyError → Type 0
Decays (any.CountU64 s) numerator denominator new result =
    IsOk result × (new ≡ any.CountU64 (decayed_state numerator denominator s))
    × counts.Extends s (decayed_state numerator denominator s) (λ h. Decay h numerator denominator)
Decays old numerator denominator new result = LacksCall result × (new ≡ old)
