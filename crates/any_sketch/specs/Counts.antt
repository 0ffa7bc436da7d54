-- Results and effects of calls on a Count-Min sketch, for one item.
use Rattle.std.specs.Prelude.{◌≡◌, ◌+◌, ◌<◌, ◌≤◌, ℕ, ℤ, List, OnErr, Result, IsOk, IsErrOf, unsigned_abs}
use Rattle.sketch_base.specs.Errors.{invalid_argument}
use Rattle.sketch_base.specs.declared.fault.Fault.TheVariants.{WeightOverflow}
use Rattle.sketch_countmin.specs.History.CountHistory.{Update}
use Rattle.sketch_countmin.specs.Stands.{Extends}
use Rattle.sketch_countmin.specs.State.{CountState, Counts, IsMinCell, upper_bound_of}
use Rattle.any_sketch.specs.declared.any_error.AnyError.{AnyError}
use Rattle.any_sketch.specs.declared.any_error.AnyError.TheVariants.{Sketch}

-- new is old with the weight counted for the byte list, and stands for the history with that update
pub record Weighs (old : CountState) (bytes : List ℕ) (weight : ℤ) (new : CountState) : Type 0 where
  pub counted : Counts old bytes weight new
  pub stands : Extends old new (λ h. Update h bytes weight)

-- the weight was added to that of the byte list, if the total has room for it below `greatest`. Otherwise the result is `WeightOverflow`,
-- and the sketch is unchanged
pub record AddsWeight
    (greatest : ℕ) (old : CountState) (bytes : List ℕ) (weight : ℤ) (new : CountState) (result : Result (Unit {0}) AnyError)
    : Type 0 where
  pub counted : old.total + unsigned_abs weight ≤ greatest → IsOk result × Weighs old bytes weight new
  pub overflow : greatest < old.total + unsigned_abs weight → IsErrOf result (Sketch (invalid_argument WeightOverflow))
  pub refused : OnErr result (new ≡ old)

-- the bound is the estimate plus the margin, or the maximum of the type if this exceeds it
abbrev pub IsBound : (greatest : ℕ) → (bytes : List ℕ) → (bound : ℤ) → CountState → Type 0
IsBound greatest bytes bound s = (estimate : ℤ) → IsMinCell s bytes estimate → bound ≡ upper_bound_of greatest s estimate
