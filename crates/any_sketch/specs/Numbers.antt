-- The numbers that a sketch has, by its kind.
use Rattle.std.specs.FinSet as set
use Rattle.std.specs.Prelude.{ℕ, ◌*◌, ◌≤◌, Option, Some, None, length}
use Rattle.std.specs.String.{string_bytes}
use Rattle.counter_table.specs.Bytes.{slots_bytes}
use Rattle.sketch_bloom.specs.State.{FilterState, capacity_of}
use Rattle.sketch_countmin.specs.Shapes.{grid_bytes}
use Rattle.sketch_countmin.specs.State.{CountState}
use Rattle.sketch_frequencies.specs.Items.{i64_codec, text_codec, u64_codec}
use Rattle.sketch_frequencies.specs.Memory.{memory_bytes, owned_by}
use Rattle.sketch_frequencies.specs.State.{FrequentState, capacity}
use Rattle.any_sketch.specs.KindNumbers.{kind_number}
use Rattle.any_sketch.specs.declared.any_sketch.AnySketch.{AnySketch}
use Rattle.any_sketch.specs.declared.any_sketch.AnySketch.TheVariants.{Filter, CountI64, CountU64, FrequentI64, FrequentU64, FrequentStrings}
use Rattle.any_sketch.specs.declared.kind.Kind.{Kind}
use Rattle.any_sketch.specs.declared.kind.Kind.TheVariants as kinds
use Rattle.any_sketch.specs.declared.number.Number.{Number}
use Rattle.any_sketch.specs.declared.number.Number.TheVariants as named
use Rattle.any_sketch.specs.declared.number.Number.TheVariants.{Seed, NumBits, BitsUsed, NumHashes, NumBuckets, TotalWeight, MaximumError, NumActiveItems, MaximumMapCapacity, CurrentMapCapacity, MaxMapSize, SampleSize}

-- a number of a filter, if it has it
abbrev pub filter_number : FilterState → Number → Option ℕ
filter_number s named.Kind = Some (kind_number kinds.Filter)
filter_number s Seed = Some s.seed
filter_number s NumBits = Some (capacity_of s)
filter_number s BitsUsed = Some (set.len s.set)
filter_number s NumHashes = Some s.num_hashes
filter_number s which = None

-- a number of a Count-Min sketch of a kind, if it has it
abbrev pub count_number : Kind → CountState → Number → Option ℕ
count_number kind s named.Kind = Some (kind_number kind)
count_number kind s Seed = Some s.seed
count_number kind s NumHashes = Some s.hashes
count_number kind s NumBuckets = Some s.buckets
count_number kind s TotalWeight = Some s.total
count_number kind s which = None

-- a number of a sketch of frequent items of a kind, if it has it
abbrev pub frequent_number : {T : Type 0} → Kind → FrequentState T → Number → Option ℕ
frequent_number kind s named.Kind = Some (kind_number kind)
frequent_number kind s TotalWeight = Some s.total
frequent_number kind s MaximumError = Some s.error
frequent_number kind s NumActiveItems = Some (length s.counters)
frequent_number kind s MaximumMapCapacity = Some (capacity s.max_size)
frequent_number kind s CurrentMapCapacity = Some (capacity s.size)
frequent_number kind s MaxMapSize = Some s.max_size
frequent_number kind s SampleSize = Some s.sample_size
frequent_number kind s which = None

-- a number of a sketch, if its kind has it
abbrev pub number_of : AnySketch → Number → Option ℕ
number_of (Filter s) which = filter_number s which
number_of (CountU64 s) which = count_number kinds.CountU64 s which
number_of (CountI64 s) which = count_number kinds.CountI64 s which
number_of (FrequentU64 s) which = frequent_number kinds.FrequentU64 s which
number_of (FrequentI64 s) which = frequent_number kinds.FrequentI64 s which
number_of (FrequentStrings s) which = frequent_number kinds.FrequentStrings s which

-- a sketch of frequent items holds at most three quarters of its maximum size in counters, and its error is at most its total
abbrev pub HoldsFew : {T : Type 0} → FrequentState T → Type 0
HoldsFew s = (length s.counters ≤ capacity s.max_size) × (s.error ≤ s.total)

abbrev pub IsBounded : AnySketch → Type 0
IsBounded (FrequentU64 s) = HoldsFew s
IsBounded (FrequentI64 s) = HoldsFew s
IsBounded (FrequentStrings s) = HoldsFew s
IsBounded sketch = Unit {0}

-- the bytes of a table of numbers: 28 for each slot, since an `Option` of a number takes 16
abbrev pub number_slots : ℕ → ℕ
number_slots size = slots_bytes 16 size

-- the bytes of a table of strings: 44 for each slot, since an `Option` of a string takes 32
abbrev pub string_slots : ℕ → ℕ
string_slots size = slots_bytes 32 size

-- 8 for each word of a filter, and for each cell and each row of a Count-Min sketch. For frequent items, the bytes of the table
-- and those that the items own
abbrev pub bytes_of : AnySketch → ℕ
bytes_of (Filter s) = 8 * s.num_words
bytes_of (CountI64 s) = grid_bytes 8 s.hashes s.buckets
bytes_of (CountU64 s) = grid_bytes 8 s.hashes s.buckets
bytes_of (FrequentI64 s) = memory_bytes (number_slots s.size) (owned_by i64_codec (λ n. n) s.counters)
bytes_of (FrequentU64 s) = memory_bytes (number_slots s.size) (owned_by u64_codec (λ n. n) s.counters)
bytes_of (FrequentStrings s) = memory_bytes (string_slots s.size) (owned_by text_codec (λ item. string_bytes item) s.counters)
