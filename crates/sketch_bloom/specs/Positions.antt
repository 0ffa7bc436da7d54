-- The positions of an item in a filter: double hashing (Kirsch & Mitzenmacher 2008).
use Rattle.std.specs.Prelude.{ℕ, ◌+◌, ◌*◌, ◌/◌, ◌%◌, ◌^◌, List, map}
use Rattle.std.specs.List.{range_with_len}
use Rattle.std.specs.FinSet as set
use Rattle.sketch_base.specs.Xxh64.{xxh64}
use Rattle.sketch_bloom.specs.BitSet.{Numbers}

-- position i of two hashes in a filter of this capacity
abbrev pub position : ℕ → ℕ → ℕ → ℕ → ℕ
position capacity h0 h1 i = ((h0 + i * h1) % 2 ^ 64 / 2) % capacity

-- the positions 1 to n of two hashes
unfoldable pub positions : ℕ → ℕ → ℕ → ℕ → Numbers
positions capacity n h0 h1 = set.from_list (map (position capacity h0 h1) (range_with_len 1 n))

-- the positions of the item that feeds these bytes
abbrev pub positions_of : ℕ → ℕ → ℕ → List ℕ → Numbers
positions_of capacity num_hashes seed bytes =
    let h0 = xxh64 bytes seed in
    positions capacity num_hashes h0 (xxh64 bytes h0)
