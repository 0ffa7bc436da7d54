-- The pairs of hashes of items. Those of many are computed before the first item is looked up or inserted.
use Rattle.std.specs.Prelude.{ℕ, Bool, List, [], ◌∷◌}
use Rattle.std.specs.FinSet as set
use Rattle.sketch_base.specs.Xxh64.{xxh64}
use Rattle.sketch_bloom.specs.Positions.{positions}
use Rattle.sketch_bloom.specs.State.{FilterState, capacity_of}

-- the hashes of the item that feeds these bytes: under the seed, and under the first hash
abbrev pub pair_of : ℕ → List ℕ → ℕ × ℕ
pair_of seed bytes = (xxh64 bytes seed, xxh64 bytes (xxh64 bytes seed))

-- whether all positions of two hashes are in the set
abbrev pub contains_pair : FilterState → ℕ × ℕ → Bool
contains_pair s pair = set.is_subset (positions (capacity_of s) s.num_hashes pair.0 pair.1) s.set

-- a filter with the positions of two hashes added
abbrev pub with_pair : FilterState → ℕ × ℕ → FilterState
with_pair s pair = record s { set = set.union s.set (positions (capacity_of s) s.num_hashes pair.0 pair.1) }

-- for each pair of hashes, in turn, whether all its positions are in the set before they are added
abbrev pub pairs_contained : FilterState → List (ℕ × ℕ) → List Bool
pairs_contained s [] = []
pairs_contained s (pair ∷ rest) = contains_pair s pair ∷ pairs_contained (with_pair s pair) rest
