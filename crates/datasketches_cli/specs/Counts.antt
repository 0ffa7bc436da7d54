-- Streams that count their failures.
use Rattle.std.specs.Prelude.{◌≡◌, ◌+◌, ◌-◌, ◌<◌, ◌^◌, ◌⊎◌, ℕ, min}

-- a stream, the number of its failed calls, and the number of times it was read
pub record CountedStream (S : Type 0) : Type 0 where
  pub inner : S
  pub failures : ℕ
  pub reads : ℕ

-- the maximum count
abbrev pub greatest : ℕ
greatest = 2 ^ 64 - 1

-- the count plus 1, or the maximum if this exceeds it
abbrev pub one_more : ℕ → ℕ
one_more n = min (n + 1) greatest

-- the count has grown, or is at the maximum
abbrev pub HasGrown : ℕ → ℕ → Type 0
HasGrown before now = (before < now) ⊎ (now ≡ greatest)
