-- The multiplier of a fraction.
use Rattle.std.specs.Prelude.{◌≡◌, ℕ, ◌+◌, ◌*◌, ◌/◌, ◌^◌, ◌≤◌}

-- both halves of the multiplier: 2 ^ 128 times the fraction, rounded down, plus one
abbrev pub IsMultiplier : ℕ → ℕ → ℕ → ℕ → Type 0
IsMultiplier numerator denominator upper lower = numerator * 2 ^ 128 / denominator + 1 ≡ upper * 2 ^ 64 + lower

-- a multiplier of 64 bits gives the exact product, rounded down, for numbers up to a limit
abbrev pub IsShortUpTo : ℕ → ℕ → ℕ → ℕ → Type 0
IsShortUpTo limit numerator denominator short = (value : ℕ) → value ≤ limit → value * short / 2 ^ 64 ≡ value * numerator / denominator
