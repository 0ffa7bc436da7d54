-- Results and effects of calls on a Count-Min sketch, for many items. Items are the bytes that their hash feeds.
use Rattle.std.specs.Prelude.{◌≡◌, ℕ, ℤ, ◌+◌, ◌-◌, ◌<◌, ◌≤◌, List, length, map, sum_by, take, unsigned_abs, IsErrOf, IsOk, OnErr, Result}
use Rattle.std.specs.List.{zip}
use Rattle.sketch_base.specs.Errors.{invalid_argument}
use Rattle.sketch_base.specs.declared.fault.Fault.TheVariants.{WeightOverflow}
use Rattle.sketch_countmin.specs.History.{all_updated, each_updated}
use Rattle.sketch_countmin.specs.Stands.{Extends}
use Rattle.sketch_countmin.specs.State.{CountState, CountsAll, CountsEach}
use Rattle.any_sketch.specs.declared.any_error.AnyError.{AnyError}
use Rattle.any_sketch.specs.declared.any_error.AnyError.TheVariants.{Sketch}

-- new is old with each byte list counted with weight 1, and stands for the history with these updates
pub record WeighsAll (old : CountState) (items : List (List ℕ)) (new : CountState) : Type 0 where
  pub counted : CountsAll old items new
  pub stands : Extends old new (λ h. all_updated h items)

-- new is old with each weight counted for its item, in order, and stands for the history with these updates
pub record WeighsEach
    {W : Type 0} (number : W → ℤ) (old : CountState) (items : List (List ℕ)) (weights : List W) (new : CountState)
    : Type 0 where
  pub counted : CountsEach old (zip items (map number weights)) new
  pub stands : Extends old new (λ h. each_updated h (zip items (map number weights)))

-- 1 was added to the weight of each item while the total had room. If it had no room for all, the result is `WeightOverflow`
pub record AddsEach
    (greatest : ℕ) (old : CountState) (items : List (List ℕ)) (new : CountState) (result : Result (Unit {0}) AnyError)
    : Type 0 where
  pub counted : WeighsAll old (take (greatest - old.total) items) new
  pub done : old.total + length items ≤ greatest → IsOk result
  pub overflow : greatest < old.total + length items → IsErrOf result (Sketch (invalid_argument WeightOverflow))

-- each weight was added to its item's, or the result is `WeightOverflow` if the total has no room for the absolute values of all
pub record AddsWeights
    {W : Type 0} (greatest : ℕ) (number : W → ℤ) (old : CountState) (items : List (List ℕ)) (weights : List W) (new : CountState)
    (result : Result (Unit {0}) AnyError)
    : Type 0 where
  pub counted :
      old.total + sum_by (λ weight. unsigned_abs (number weight)) weights ≤ greatest →
      IsOk result × WeighsEach number old items weights new
  pub overflow :
      greatest < old.total + sum_by (λ weight. unsigned_abs (number weight)) weights →
      IsErrOf result (Sketch (invalid_argument WeightOverflow))
  pub refused : OnErr result (new ≡ old)
