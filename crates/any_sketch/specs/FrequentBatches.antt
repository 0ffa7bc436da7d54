-- Results and effects of calls on a sketch of frequent items, for many items. Items are compared by `eq` alone.
use Rattle.std.specs.Prelude.{◌≡◌, ℕ, Bool, true, List, sum, IfErr, IsErrOf, OnErr, OnOk, Result}
use Rattle.std.specs.List.{AllZip}
use Rattle.sketch_base.specs.Errors.{ErrorValue, invalid_argument, no_memory}
use Rattle.sketch_base.specs.declared.fault.Fault.TheVariants.{WeightOverflow}
use Rattle.sketch_frequencies.specs.KeyedBatches.{UpdatesKeys, StopsAtKey, UpdatesWeighedKeys, StopsAtWeighedKey}
use Rattle.sketch_frequencies.specs.State.{FrequentState, Overflows, TotalHasRoom, must_grow}
use Rattle.sketch_frequencies.specs.WeightedBatches.{weighed}
use Rattle.sketch_frequencies.specs.declared.item_bounds.ItemBounds.{ItemBounds}
use Rattle.any_sketch.specs.FrequentItems.{AreBoundsOfKey}
use Rattle.any_sketch.specs.declared.any_error.AnyError.{AnyError}
use Rattle.any_sketch.specs.declared.any_error.AnyError.TheVariants.{Sketch}

-- if the total has room for all weights, the batch stops only where the table must double
abbrev pub StopsOnlyToGrow :
    {T : Type 0} → (old : FrequentState T) (weights : List ℕ) (new : FrequentState T) (result : Result (Unit {0}) AnyError) → Type 0
StopsOnlyToGrow old weights new result = TotalHasRoom old (sum weights) → OnErr result (must_grow new ≡ true)

-- a batch of weights of 1 stops only where the total has no room, or where the table must double
abbrev pub StopsOnlyIfFull : {T : Type 0} → (new : FrequentState T) (result : Result (Unit {0}) AnyError) → Type 0
StopsOnlyIfFull new result = OnErr result (TotalHasRoom new 1 → must_grow new ≡ true)

module _ {T : Type 0} (eq : T → T → Bool) where
  -- the items of the keys before one were added, and that one's was rejected with this error, as an update of its own would reject it
  pub record StopsShort (old : FrequentState T) (keys : List (T → Bool)) (new : FrequentState T) (any : AnyError) : Type 0 where
    pub error : ErrorValue
    pub is : any ≡ Sketch error
    pub stops : StopsAtKey eq old keys error new

  -- the result and effect of adding 1 for the item of each key, in order
  pub record UpdatesMany
      (old : FrequentState T) (keys : List (T → Bool)) (new : FrequentState T) (result : Result (Unit {0}) AnyError)
      : Type 0 where
    pub done : OnOk result (UpdatesKeys eq old keys new)
    pub stopped : IfErr result (StopsShort old keys new)

  -- The result and effect of adding a weight for the item of each key, in order. If the total has no room for all, nothing is added.
  -- Otherwise the batch stops only at an item that is not tracked, for which an allocation fails.
  pub record WeighsMany
      (old : FrequentState T) (keys : List (T → Bool)) (weights : List ℕ) (new : FrequentState T) (result : Result (Unit {0}) AnyError)
      : Type 0 where
    pub done : OnOk result (UpdatesWeighedKeys eq old (weighed keys weights) new)
    pub overflow : Overflows old (sum weights) → IsErrOf result (Sketch (invalid_argument WeightOverflow)) × (new ≡ old)
    pub memory : TotalHasRoom old (sum weights) → IfErr result (λ e. e ≡ Sketch no_memory)
    pub stopped : TotalHasRoom old (sum weights) → OnErr result (StopsAtWeighedKey eq old (weighed keys weights) new)

  -- the bounds are the sketch's numbers for the keys, in the same order
  abbrev pub AreBoundsOfAll : (s : FrequentState T) (keys : List (T → Bool)) (bounds : List ItemBounds) → Type 0
  AreBoundsOfAll s keys bounds = AllZip (λ key. AreBoundsOfKey eq key s) keys bounds
