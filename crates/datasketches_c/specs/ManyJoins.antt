-- Results and effects of combining many sketches into one.
use Rattle.std.specs.Prelude.{◌≡◌, ℕ, ℤ, ◌+◌, ◌<◌, ◌≤◌, Bool, List, All, sum_by}
use Rattle.sketch_base.specs.declared.fault.Fault.TheVariants.{Mismatch, NoMemory, WeightOverflow}
use Rattle.sketch_bloom.specs.History as filters
use Rattle.sketch_bloom.specs.Stands as filters_stand
use Rattle.sketch_bloom.specs.State.{FilterState, IsCompatible, all_united}
use Rattle.sketch_countmin.specs.History as counts
use Rattle.sketch_countmin.specs.Stands as counts_stand
use Rattle.sketch_countmin.specs.State.{CountState, SameShape, JoinsEach}
use Rattle.sketch_frequencies.specs.ManyMerges.{total_of_all, JoinsAll, ExtendsAll, ExtendsAllBudgets}
use Rattle.sketch_frequencies.specs.State.{FrequentState, Overflows, TotalHasRoom}
use Rattle.datasketches_c.specs.Numbers.{OnDone, OnRefused, ok, refusal_number}

-- the other filters were united into this one, which stands for the union of all histories. Or the result is `Mismatch` if one is
-- not compatible
pub record IsUnited (old : FilterState) (others : List FilterState) (new : FilterState) (result : ℤ) : Type 0 where
  pub done : All (IsCompatible old) others
      → (result ≡ ok) × (new ≡ all_united old others) × filters_stand.ExtendsByAll old others new filters.all_united_after
  pub mismatch : ¬ All (IsCompatible old) others → result ≡ refusal_number Mismatch

-- new is old with the cells and totals of the others added, and stands for the merge of all histories
pub record MergesEach (old : CountState) (others : List CountState) (new : CountState) : Type 0 where
  pub joined : JoinsEach old others new
  pub stands : counts_stand.ExtendsByAll old others new counts.all_merged

-- the total weight of these sketches
abbrev pub total_of_each : List CountState → ℕ
total_of_each others = sum_by (λ other. other.total) others

-- the others were merged. Or the result is `Mismatch` if a shape differs, or else `WeightOverflow` if the total has no room for all
pub record IsMerged (greatest : ℕ) (old : CountState) (others : List CountState) (new : CountState) (result : ℤ) : Type 0 where
  pub done : All (SameShape old) others → old.total + total_of_each others ≤ greatest → (result ≡ ok) × MergesEach old others new
  pub overflow : All (SameShape old) others → greatest < old.total + total_of_each others → result ≡ refusal_number WeightOverflow
  pub mismatch : ¬ All (SameShape old) others → result ≡ refusal_number Mismatch

module _ {T : Type 0} (eq : T → T → Bool) where
  -- new is old with the others merged into it, in order. It stands for the merge of all histories, and keeps its tail budget
  pub record MergesAll (old : FrequentState T) (others : List (FrequentState T)) (new : FrequentState T) : Type 0 where
    pub joins : JoinsAll eq old others new
    pub stands : ExtendsAll eq old others new
    pub budget : ExtendsAllBudgets eq old others new

  -- the result and effect of merging the others, in order
  pub record MergesAllInto (old : FrequentState T) (others : List (FrequentState T)) (new : FrequentState T) (result : ℤ) : Type 0 where
    pub nothing : total_of_all others ≡ 0 → (result ≡ ok) × (new ≡ old)
    pub done : OnDone result ((result ≡ ok) × MergesAll old others new)
    pub refused : OnRefused result (new ≡ old)
    pub overflow : Overflows old (total_of_all others) → result ≡ refusal_number WeightOverflow
    pub memory : TotalHasRoom old (total_of_all others) → OnRefused result (result ≡ refusal_number NoMemory)

  -- the same for numbers. It allocates nothing if the table has its maximum size
  pub record MergesAllNumbers (old : FrequentState T) (others : List (FrequentState T)) (new : FrequentState T) (result : ℤ) : Type 0 where
    pub merges : MergesAllInto old others new result
    pub infallible : old.size ≡ old.max_size → TotalHasRoom old (total_of_all others) → result ≡ ok
