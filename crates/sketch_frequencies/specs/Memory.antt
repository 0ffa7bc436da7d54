-- How many bytes a sketch takes, with those that its items own.
use Rattle.std.specs.Prelude.{ℕ, ◌+◌, ◌-◌, ◌^◌, min, List, sum_by}
use Rattle.sketch_frequencies.specs.Items.{Codec}

-- the bytes that the items of these counters own
abbrev pub owned_by : {T C : Type 0} → Codec C → (T → C) → List (T × ℕ) → ℕ
owned_by codec content counters = sum_by (λ e. codec.owned (content e.0)) counters

-- the bytes of a table and those that items own, or `usize::MAX` if the sum exceeds it
abbrev pub memory_bytes : (table owned : ℕ) → ℕ
memory_bytes table owned = min (table + owned) (2 ^ 64 - 1)
