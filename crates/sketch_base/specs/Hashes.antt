-- The hashes of items, of numbers and of seeds.
use Rattle.std.specs.Prelude.{ℕ, ◌%◌, ◌^◌, List}
use Rattle.std.specs.List.{concat}
use Rattle.std.specs.Hash.{le_bytes}
use Rattle.sketch_base.specs.Murmur3.{murmur3_x64_128}

-- all bytes that the item's `Hash` feeds; `input` lists its writes
abbrev pub fed_bytes : {T : Type 0} → (T → List (List ℕ)) → T → List ℕ
fed_bytes input item = concat (input item)

-- the eight bytes of a number, little-endian
abbrev pub le64 : ℕ → List ℕ
le64 n = le_bytes 8 n

-- the hash of a seed, which an image stores in place of the seed
unfoldable pub seed_hash : ℕ → ℕ
seed_hash seed = (murmur3_x64_128 (le64 seed) 0).0 % 2 ^ 16
