-- The two parts of an update. No public clause cites this module.
use Rattle.std.specs.Prelude.{◌≡◌, ℕ, ◌+◌, ◌*◌, ◌%◌, ◌^◌, ◌<◌, ◌≤◌, Bool, true, false, List, length, min, IsPermutation}
use Rattle.counter_table.specs.Tables.{Table, put, purged, IsSampleMiddle, IsSameMap}
use Rattle.sketch_frequencies.specs.State.{FrequentState, capacity, must_grow}
use Rattle.sketch_frequencies.specs.Steps.{Becomes, Purges, StepsAlong}

-- new is old, in a table of twice the size if it must grow for one more counter
pub record MakesRoom {T : Type 0} (old new : FrequentState T) : Type 0 where
  pub counters : IsPermutation old.counters new.counters
  pub error : new.error ≡ old.error
  pub total : new.total ≡ old.total
  pub max_size : new.max_size ≡ old.max_size
  pub sample_size : new.sample_size ≡ old.sample_size
  pub key : new.key ≡ old.key
  pub purges : new.purges ≡ old.purges
  pub doubled : must_grow old ≡ true → new.size ≡ 2 * old.size
  pub stays : must_grow old ≡ false → new.size ≡ old.size

-- If the table had too many counters, m is the middle of a sample: each count is less by m, those at or below m are dropped,
-- and the table counts a purge more.
-- Otherwise m is 0, and nothing changed.
pub record PurgesExcess {T : Type 0} (sample_size : ℕ) (old new : Table T) (m : ℕ) : Type 0 where
  pub kept : length old.entries ≤ capacity old.size → (m ≡ 0) × (new ≡ old)
  pub middle :
      capacity old.size < length old.entries →
      IsSampleMiddle (min sample_size (min (length old.entries) 1024)) old.entries m
  pub entries : capacity old.size < length old.entries → IsPermutation (purged m old.entries) new.entries
  pub size : new.size ≡ old.size
  pub key : new.key ≡ old.key
  pub purges : capacity old.size < length old.entries → new.purges ≡ (old.purges + 1) % 2 ^ 64

module _ {T : Type 0} (eq : T → T → Bool) where
  -- new is old after w was added at x, purged if there was then one counter too many
  pub record Adds (old : FrequentState T) (x : T) (w : ℕ) (new : FrequentState T) : Type 0 where
    pub total : new.total ≡ old.total + w
    pub max_size : new.max_size ≡ old.max_size
    pub sample_size : new.sample_size ≡ old.sample_size
    pub key : new.key ≡ old.key
    pub kept :
        length (put eq old.counters x w) ≤ capacity old.size →
        Becomes (put eq old.counters x w) old.error old.size old.purges new
    pub purge :
        capacity old.size < length (put eq old.counters x w) →
        Purges old (put eq old.counters x w) new

  -- the counters, with items equal to theirs, were added in some order
  pub record AddsCounters (old : FrequentState T) (counters : List (T × ℕ)) (new : FrequentState T) : Type 0 where
    pub order : List (T × ℕ)
    pub same : IsSameMap eq counters order
    pub steps : StepsAlong eq old order new
