-- What counting the items of an iterator leaves.
use Rattle.std.specs.Prelude.{◌≡◌, ℕ, ◌+◌, ◌-◌, ◌≤◌, List, length, take, Result, MatchResult}
use Rattle.sketch_base.specs.Errors.{ErrorValue, invalid_argument}
use Rattle.sketch_base.specs.declared.fault.Fault.TheVariants.{WeightOverflow}
use Rattle.sketch_countmin.specs.History.{all_updated}
use Rattle.sketch_countmin.specs.Stands.{Extends}
use Rattle.sketch_countmin.specs.State.{CountState, CountsAll}

-- The items that an iterator gave were counted, in order. They all fit, or the total has no room for the last one alone, which was
-- not.
pub record CountsSeen (greatest : ℕ) (old : CountState) (seen : List (List ℕ)) (result : Result (Unit {0}) ErrorValue) (new : CountState) : Type 0 where
  pub counted : CountsAll old (take (greatest - old.total) seen) new
  pub stands : Extends old new (λ h. all_updated h (take (greatest - old.total) seen))
  pub ended :
      MatchResult result (λ _. old.total + length seen ≤ greatest)
      (λ e. (e ≡ invalid_argument WeightOverflow) × (old.total + length seen ≡ greatest + 1))
