-- A frequent-items sketch as its counters, six numbers and the key of its table.
use Rattle.std.specs.Prelude.{◌≡◌, ℕ, ◌+◌, ◌*◌, ◌/◌, ◌%◌, ◌^◌, ◌<◌, ◌≤◌, min, nat_lt, nat_le, not, ◌&&◌, Bool, IsTrue, List, [], length, All, if◌then◌else◌}
use Rattle.std.specs.Int.{is_power_of_two}
use Rattle.std.specs.List.{IsDistinct}
use Rattle.std.specs.Map.{keys_of}
use Rattle.counter_table.specs.Tables.{Table, count_by_key, count_of, is_tracked_by_key, is_tracked, sum_of}
use Rattle.counter_table.specs.declared.table_key.TableKey.{TableKey}

-- the counters in some order, the error, the total, the maximum and the current size of the table, the sample size, the
-- key of the table, and the number of its purges modulo 2^64, which with the key selects where the next purge samples
pub record FrequentState (T : Type 0) : Type 0 where
  pub counters : List (T × ℕ)
  pub error : ℕ
  pub total : ℕ
  pub max_size : ℕ
  pub size : ℕ
  pub sample_size : ℕ
  pub key : TableKey
  pub purges : ℕ

-- the counters of a table, with the other numbers
abbrev pub state_of : {T : Type 0} → Table T → (error total max_size sample_size : ℕ) → FrequentState T
state_of map error total max_size sample_size = record {
  counters = map.entries;
  error = error;
  total = total;
  max_size = max_size;
  size = map.size;
  sample_size = sample_size;
  key = map.key;
  purges = map.purges;
}

-- how many counters a table of this size may hold: three quarters
abbrev pub capacity : ℕ → ℕ
capacity size = size * 3 / 4

-- the maximum number of counters that a purge may sample, by the maximum size
abbrev pub max_sample_size : ℕ → ℕ
max_sample_size max_size = min 1024 (capacity max_size)

-- a purge may sample n counters, by the maximum size
pub record IsSampleSize (max_size n : ℕ) : Type 0 where
  pub least : 2 ≤ n
  pub even : n % 2 ≡ 0
  pub greatest : n ≤ max_sample_size max_size

-- with this additional weight, the total would exceed `u64::MAX`
abbrev pub Overflows : {T : Type 0} → FrequentState T → ℕ → Type 0
Overflows s weight = 2 ^ 64 ≤ s.total + weight

-- with this additional weight, the total fits
abbrev pub TotalHasRoom : {T : Type 0} → FrequentState T → ℕ → Type 0
TotalHasRoom s weight = s.total + weight < 2 ^ 64

-- the invariant of every sketch
pub record IsState {T : Type 0} (eq : T → T → Bool) (s : FrequentState T) : Type 0 where
  pub distinct : IsDistinct eq (keys_of s.counters)
  pub positive : All (λ e. 0 < e.1) s.counters
  pub few : length s.counters ≤ capacity s.size
  pub sum : sum_of s.counters + s.error ≤ s.total
  pub least : 8 ≤ s.size
  pub within : s.size ≤ s.max_size
  pub greatest : s.max_size ≤ 2 ^ 30
  pub size_power : IsTrue (is_power_of_two s.size)
  pub max_size_power : IsTrue (is_power_of_two s.max_size)
  pub empty : s.total ≡ 0 → s.size ≡ 8
  pub sample : IsSampleSize s.max_size s.sample_size

-- the empty sketch of these sizes under this key
abbrev pub empty_state : {T : Type 0} → (max_size sample_size : ℕ) → TableKey → FrequentState T
empty_state max_size sample_size key = record {
  counters = [];
  error = 0;
  total = 0;
  max_size = max_size;
  size = 8;
  sample_size = sample_size;
  key = key;
  purges = 0;
}

-- what a reset leaves: the empty sketch of the same sizes under the same key, which keeps the number of purges
abbrev pub emptied : {T : Type 0} → FrequentState T → FrequentState T
emptied s = record (empty_state s.max_size s.sample_size s.key) { purges = s.purges }

-- the estimate of an item's weight: its count plus the error if it is tracked, else 0
abbrev pub estimate_of : {T : Type 0} → (T → T → Bool) → FrequentState T → T → ℕ
estimate_of eq s x = if is_tracked eq s.counters x then count_of eq s.counters x + s.error else 0

-- the estimate of the item that a key names
abbrev pub estimate_by_key : {T : Type 0} → (T → Bool) → FrequentState T → ℕ
estimate_by_key names s = if is_tracked_by_key names s.counters then count_by_key names s.counters + s.error else 0

-- the table must double for one more counter: it holds the maximum for its size, and may grow
abbrev pub must_grow : {T : Type 0} → FrequentState T → Bool
must_grow s = nat_le (capacity s.size) (length s.counters) && nat_lt s.size s.max_size

-- the table must double before the item is added: the item is not tracked, and one more counter is too many
abbrev pub must_double : {T : Type 0} → (T → T → Bool) → FrequentState T → T → Bool
must_double eq s x = not (is_tracked eq s.counters x) && must_grow s
