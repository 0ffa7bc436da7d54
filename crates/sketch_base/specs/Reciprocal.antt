-- The multiplier of a divisor.
use Rattle.std.specs.Prelude.{◌≡◌, ℕ, ◌-◌, ◌/◌, ◌^◌, ◌<◌}

-- 2 ^ 64 - 1 divided by the divisor, rounded down
abbrev pub reciprocal : ℕ → ℕ
reciprocal divisor = (2 ^ 64 - 1) / divisor

-- a divisor above 1 and its multiplier
pub record IsReciprocal (divisor multiplier : ℕ) : Type 0 where
  pub above_one : 1 < divisor
  pub value : reciprocal divisor ≡ multiplier
