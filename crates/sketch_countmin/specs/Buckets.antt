-- The cells of an item.
use Rattle.std.specs.Prelude.{ℕ, ◌%◌, List, slice_index}
use Rattle.sketch_base.specs.Hashes.{le64}
use Rattle.sketch_base.specs.Murmur3.{murmur3_x64_128}

-- the seed of a row: the first half of the hash of its number under the seed of the sketch
unfoldable pub row_seed : ℕ → ℕ → ℕ
row_seed r seed = (murmur3_x64_128 (le64 r) seed).0

-- the bucket of a byte list in a row with this seed: the first half of its hash, modulo the number of buckets
abbrev pub bucket_by : ℕ → ℕ → List ℕ → ℕ
bucket_by buckets row_seed bytes = (murmur3_x64_128 bytes row_seed).0 % buckets

-- its bucket in each row, by the seeds of the rows
abbrev pub buckets_by : ℕ → List ℕ → List ℕ → ℕ → ℕ
buckets_by buckets row_seeds bytes r = bucket_by buckets (slice_index row_seeds r) bytes

-- the bucket of a byte list in a row
unfoldable pub bucket_of : ℕ → ℕ → ℕ → List ℕ → ℕ
bucket_of buckets seed r bytes = bucket_by buckets (row_seed r seed) bytes
