-- The effect of a call on the windows of a tenant.
use Rattle.std.specs.Prelude.{◌≡◌, ℕ, Bool, List}
use Rattle.sketch_frequencies.specs.State.{FrequentState}
use Rattle.sketch_frequencies.specs.Steps.{Steps}
use Rattle.heavy_windows.specs.Newest.{newest, with_newest}

-- a weight above 0 was added to an item of the newest window, or of a fresh one if there is none
pub record AddsToNewest {T : Type 0} (eq : T → T → Bool) (fresh : FrequentState T) (old : List (FrequentState T))
    (item : T) (weight : ℕ) (new : List (FrequentState T)) : Type 0 where
  pub window : FrequentState T
  pub step : Steps eq (newest fresh old) item weight window
  pub windows : new ≡ with_newest old window
