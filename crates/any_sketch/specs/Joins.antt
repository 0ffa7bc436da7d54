-- Results and effects of combining a sketch with another of its kind, and of comparing two.
use Rattle.std.specs.Ordering.{int_eq}
use Rattle.std.specs.Prelude.{◌≡◌, ℕ, ◌+◌, ◌<◌, ◌≤◌, Bool, true, false, nat_eq, IfErr, IsErrOf, IsOk, OnErr, OnOk, Result, Ok}
use Rattle.std.specs.String.{string_eq}
use Rattle.sketch_base.specs.Errors.{invalid_argument, no_memory}
use Rattle.sketch_base.specs.declared.fault.Fault.TheVariants.{Mismatch, WeightOverflow}
use Rattle.sketch_bloom.specs.History.{BloomHistory}
use Rattle.sketch_bloom.specs.History.BloomHistory.{Union, Intersection, Difference}
use Rattle.sketch_bloom.specs.Stands as filters
use Rattle.sketch_bloom.specs.State.{FilterState, IsCompatible, intersected, subtracted, united}
use Rattle.sketch_countmin.specs.History.CountHistory.{Merge as MergeCounts}
use Rattle.sketch_countmin.specs.Stands as counts
use Rattle.sketch_countmin.specs.State.{CountState, Joins, SameShape}
use Rattle.sketch_frequencies.specs.History.FrequentHistory.{Merge}
use Rattle.sketch_frequencies.specs.Stands.{ExtendsBoth, ExtendsBothBudgets}
use Rattle.sketch_frequencies.specs.State.{FrequentState, Overflows, TotalHasRoom}
use Rattle.sketch_frequencies.specs.Steps.{JoinsEqual}
use Rattle.any_sketch.specs.Kinds.{LacksCall, OfCountI64, OfCountU64, OfFilter, OfFrequentI64, OfFrequentStrings, OfFrequentU64}
use Rattle.any_sketch.specs.Updates.{max_i64, max_u64}
use Rattle.any_sketch.specs.declared.any_error.AnyError.{AnyError}
use Rattle.any_sketch.specs.declared.any_error.AnyError.TheVariants.{Sketch}
use Rattle.any_sketch.specs.declared.any_sketch.AnySketch.{AnySketch}
use Rattle.any_sketch.specs.declared.any_sketch.AnySketch.TheVariants.{Filter, CountI64, CountU64, FrequentI64, FrequentU64, FrequentStrings}

-- the set operation was done on the two filters, and the result stands for that operation of both histories. Or the filters are not
-- compatible, and the filter is unchanged
pub record Combines
    (operation : FilterState → FilterState → FilterState) (history : BloomHistory → BloomHistory → BloomHistory)
    (old other new : FilterState) (result : Result (Unit {0}) AnyError)
    : Type 0 where
  pub done : IsCompatible old other → IsOk result × (new ≡ operation old other) × filters.ExtendsBoth old other new history
  pub mismatch : ¬ IsCompatible old other → IsErrOf result (Sketch (invalid_argument Mismatch))
  pub refused : OnErr result (new ≡ old)

-- new is old with the other's cells and total added, and stands for the merge of both histories
pub record AddsCells (old other new : CountState) : Type 0 where
  pub joined : Joins old other new
  pub stands : counts.ExtendsBoth old other new MergeCounts

-- The other sketch's cells and total were added. Or the shapes differ, or the total has no room for both, and the sketch is unchanged.
pub record MergesCounts (greatest : ℕ) (old other new : CountState) (result : Result (Unit {0}) AnyError) : Type 0 where
  pub joined : SameShape old other → old.total + other.total ≤ greatest → IsOk result × AddsCells old other new
  pub overflow : SameShape old other → greatest < old.total + other.total → IsErrOf result (Sketch (invalid_argument WeightOverflow))
  pub mismatch : ¬ SameShape old other → IsErrOf result (Sketch (invalid_argument Mismatch))
  pub refused : OnErr result (new ≡ old)

module _ {T : Type 0} (eq : T → T → Bool) where
  -- new is old with the other merged into it. It stands for the merge of both histories, and keeps its tail budget
  pub record AddsCounters (old other new : FrequentState T) : Type 0 where
    pub join : JoinsEqual eq old other new
    pub stands : ExtendsBoth eq old other new Merge
    pub budget : ExtendsBothBudgets eq old other new Merge

  -- The other was merged. Or the total has no room, or memory was exhausted, and the sketch is unchanged. If no clone of an item fails,
  -- a table of the maximum size takes no memory.
  pub record MergesFrequent
      (never_fails : Type 0) (old other new : FrequentState T) (result : Result (Unit {0}) AnyError) : Type 0 where
    pub nothing : other.total ≡ 0 → IsOk result × (new ≡ old)
    pub merged : OnOk result (AddsCounters old other new)
    pub refused : OnErr result (new ≡ old)
    pub overflow : Overflows old other.total → IsErrOf result (Sketch (invalid_argument WeightOverflow))
    pub memory : TotalHasRoom old other.total → IfErr result (λ e. e ≡ Sketch no_memory)
    pub infallible : never_fails → old.size ≡ old.max_size → TotalHasRoom old other.total → IsOk result

-- the other sketch, of the same kind, was merged into this one
abbrev pub Merges : (old other new : AnySketch) → Result (Unit {0}) AnyError → Type 0
Merges (Filter a) (Filter b) new result = OfFilter new (λ c. Combines united Union a b c result)
Merges (CountI64 a) (CountI64 b) new result = OfCountI64 new (λ c. MergesCounts max_i64 a b c result)
Merges (CountU64 a) (CountU64 b) new result = OfCountU64 new (λ c. MergesCounts max_u64 a b c result)
Merges (FrequentI64 a) (FrequentI64 b) new result = OfFrequentI64 new (λ c. MergesFrequent int_eq (Unit {0}) a b c result)
Merges (FrequentU64 a) (FrequentU64 b) new result = OfFrequentU64 new (λ c. MergesFrequent nat_eq (Unit {0}) a b c result)
Merges (FrequentStrings a) (FrequentStrings b) new result =
    OfFrequentStrings new (λ c. MergesFrequent string_eq ⊥ a b c result)
Merges old other new result = LacksCall result × (new ≡ old)

-- the filter keeps the positions that both filters have
abbrev pub Intersects : (old other new : AnySketch) → Result (Unit {0}) AnyError → Type 0
Intersects (Filter a) (Filter b) new result = OfFilter new (λ c. Combines intersected Intersection a b c result)
Intersects old other new result = LacksCall result × (new ≡ old)

-- the filter keeps the positions that the other does not have
abbrev pub Subtracts : (old other new : AnySketch) → Result (Unit {0}) AnyError → Type 0
Subtracts (Filter a) (Filter b) new result = OfFilter new (λ c. Combines subtracted Difference a b c result)
Subtracts old other new result = LacksCall result × (new ≡ old)

-- the result tells whether the two are equal
pub record TellsWhetherSame {S : Type 0} (a b : S) (result : Result Bool AnyError) : Type 0 where
  pub same : a ≡ b → result ≡ Ok true
  pub different : ¬ (a ≡ b) → result ≡ Ok false

-- the result compares two filters, or two Count-Min sketches of one kind
abbrev pub Compares : (sketch other : AnySketch) → Result Bool AnyError → Type 0
Compares (Filter a) (Filter b) result = TellsWhetherSame a b result
Compares (CountI64 a) (CountI64 b) result = TellsWhetherSame a b result
Compares (CountU64 a) (CountU64 b) result = TellsWhetherSame a b result
Compares sketch other result = LacksCall result
