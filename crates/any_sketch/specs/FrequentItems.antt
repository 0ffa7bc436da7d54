-- Results and effects of calls on a sketch of frequent items, for one item, or for the item that a key names. Items are compared by
-- `eq` alone.
use Rattle.std.specs.Prelude.{◌≡◌, ℕ, ◌+◌, ◌<◌, Bool, true, false, IsTrue, IsOk, IsErrOf, IfErr, OnOk, OnErr, Result}
use Rattle.sketch_base.specs.Errors.{invalid_argument, no_memory}
use Rattle.sketch_base.specs.declared.fault.Fault.TheVariants.{WeightOverflow}
use Rattle.counter_table.specs.Tables.{count_by_key, is_tracked_by_key}
use Rattle.sketch_frequencies.specs.Bounds.{BoundWeight}
use Rattle.sketch_frequencies.specs.History.FrequentHistory.{Update}
use Rattle.sketch_frequencies.specs.Stands.{Extends, ExtendsBudget}
use Rattle.sketch_frequencies.specs.State.{FrequentState, Overflows, TotalHasRoom, estimate_by_key, must_double}
use Rattle.sketch_frequencies.specs.Steps.{Steps, StepsByKey}
use Rattle.sketch_frequencies.specs.declared.item_bounds.ItemBounds.{ItemBounds}
use Rattle.any_sketch.specs.declared.any_error.AnyError.{AnyError}
use Rattle.any_sketch.specs.declared.any_error.AnyError.TheVariants.{Sketch}

module _ {T : Type 0} (eq : T → T → Bool) (item : T) where
  -- new is old with a weight above 0 added to the item. It stands for the history with that update, and keeps its tail budget
  pub record Weighs (old : FrequentState T) (weight : ℕ) (new : FrequentState T) : Type 0 where
    pub step : Steps eq old item weight new
    pub stands : Extends eq old new (λ h. Update h item weight)
    pub budget : ExtendsBudget eq old new (λ h. Update h item weight)

  -- The weight was added, or the result is an error and the sketch is unchanged: `WeightOverflow` if the total has no room, and
  -- `NoMemory` only if the table must double.
  pub record Adds (old : FrequentState T) (weight : ℕ) (new : FrequentState T) (result : Result (Unit {0}) AnyError) : Type 0 where
    pub zero : weight ≡ 0 → IsOk result × (new ≡ old)
    pub added : OnOk result (0 < weight → Weighs old weight new)
    pub refused : OnErr result (new ≡ old)
    pub overflow : Overflows old weight → IsErrOf result (Sketch (invalid_argument WeightOverflow))
    pub memory : TotalHasRoom old weight → IfErr result (λ e. e ≡ Sketch no_memory)
    pub roomy : TotalHasRoom old weight → must_double eq old item ≡ false → IsOk result

module _ {T : Type 0} (eq : T → T → Bool) (names : T → Bool) where
  -- new is old with a weight above 0 added to that of an item that the key names. It stands for the history with that update, and keeps
  -- its tail budget
  pub record WeighsByKey (old : FrequentState T) (weight : ℕ) (new : FrequentState T) : Type 0 where
    pub step : StepsByKey eq old names weight new
    pub stands : (x : T) → IsTrue (names x) → Extends eq old new (λ h. Update h x weight)
    pub budget : (x : T) → IsTrue (names x) → ExtendsBudget eq old new (λ h. Update h x weight)

  -- The weight was added, or the result is an error and the sketch is unchanged: `WeightOverflow` if the total has no room, and
  -- `NoMemory` only for an item that is not tracked.
  pub record AddsByKey (old : FrequentState T) (weight : ℕ) (new : FrequentState T) (result : Result (Unit {0}) AnyError) : Type 0 where
    pub zero : weight ≡ 0 → IsOk result × (new ≡ old)
    pub added : OnOk result (0 < weight → WeighsByKey old weight new)
    pub refused : OnErr result (new ≡ old)
    pub overflow : Overflows old weight → IsErrOf result (Sketch (invalid_argument WeightOverflow))
    pub memory : TotalHasRoom old weight → IfErr result (λ e. e ≡ Sketch no_memory)
    pub tracked : TotalHasRoom old weight → is_tracked_by_key names old.counters ≡ true → IsOk result

  -- the bounds are the sketch's numbers for the items that the key names, and hold for each of these items
  pub record AreBoundsOfKey (s : FrequentState T) (bounds : ItemBounds) : Type 0 where
    pub lower : bounds.lower_bound ≡ count_by_key names s.counters
    pub estimate : bounds.estimate ≡ estimate_by_key names s
    pub upper : bounds.upper_bound ≡ count_by_key names s.counters + s.error
    pub holds : (item : T) → IsTrue (names item) → BoundWeight eq s item bounds
