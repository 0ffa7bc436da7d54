-- The shapes and seeds that a sketch may have, and what it takes in memory.
use Rattle.std.specs.Prelude.{ℕ, ◌+◌, ◌*◌, ◌^◌, ◌==◌, nat_lt, nat_le, Option, Some, None, if◌then◌else◌}
use Rattle.sketch_base.specs.Hashes.{seed_hash}
use Rattle.sketch_base.specs.declared.fault.Fault.{Fault}
use Rattle.sketch_base.specs.declared.fault.Fault.TheVariants.{BadNumHashes, BadNumBuckets, TableTooLarge, ZeroSeedHash}

-- the bytes of a sketch: its cells, of `size` bytes each, and the seeds of its rows, of 8 bytes each
abbrev pub grid_bytes : (size hashes buckets : ℕ) → ℕ
grid_bytes size hashes buckets = hashes * buckets * size + 8 * hashes

-- the first fault of a shape and a seed, if any
abbrev pub shape_fault : ℕ → ℕ → ℕ → Option Fault
shape_fault hashes buckets seed =
    if hashes == 0 then Some BadNumHashes else
    (if nat_lt buckets 3 then Some BadNumBuckets else
    (if nat_le (2 ^ 30) (hashes * buckets) then Some TableTooLarge else
    (if seed_hash seed == 0 then Some ZeroSeedHash else None)))
