-- The pairs of hashes of items, one after another.
use Rattle.std.proofs.Common.{ℕ, Bool}
use Rattle.std.specs.FinSet as set
use Rattle.sketch_bloom.specs.Positions.{position}
use Rattle.sketch_bloom.specs.State.{FilterState, capacity_of}

-- whether the first position that two hashes give is in the set
abbrev pub contains_first_of : FilterState → ℕ × ℕ → Bool
contains_first_of s pair = set.contains s.set (position (capacity_of s) pair.0 pair.1 1)
