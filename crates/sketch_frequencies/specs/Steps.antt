-- What an update and a merge do to a sketch. The counters that a purge samples and the order of a merge are unspecified.
use Rattle.std.specs.Prelude.{◌≡◌, ℕ, ◌+◌, ◌*◌, ◌%◌, ◌^◌, ◌<◌, ◌≤◌, Bool, List, [], ◌∷◌, length, IsPermutation, IsTrue}
use Rattle.counter_table.specs.Tables.{put, purged, IsSampleMiddle, IsSameMap}
use Rattle.sketch_frequencies.specs.State.{FrequentState, capacity}

module _ {T : Type 0} where
  -- the new sketch has these counters in some order, the error e, the size n and p purges
  pub record Becomes (all : List (T × ℕ)) (e n p : ℕ) (new : FrequentState T) : Type 0 where
    pub counters : IsPermutation all new.counters
    pub error : new.error ≡ e
    pub size : new.size ≡ n
    pub purges : new.purges ≡ p

  -- m is the middle of a sample: each count is less by m, those at or below m are dropped, and the error is greater by m
  pub record Purges (old : FrequentState T) (all : List (T × ℕ)) (new : FrequentState T) : Type 0 where
    pub m : ℕ
    pub middle : IsSampleMiddle old.sample_size all m
    pub left : Becomes (purged m all) (old.error + m) old.size ((old.purges + 1) % 2 ^ 64) new

module _ {T : Type 0} (eq : T → T → Bool) where
  -- new is old after the weight w above 0 was added at x
  pub record Steps (old : FrequentState T) (x : T) (w : ℕ) (new : FrequentState T) : Type 0 where
    pub total : new.total ≡ old.total + w
    pub max_size : new.max_size ≡ old.max_size
    pub sample_size : new.sample_size ≡ old.sample_size
    pub key : new.key ≡ old.key
    -- the counters fit
    pub kept :
        length (put eq old.counters x w) ≤ capacity old.size →
        Becomes (put eq old.counters x w) old.error old.size old.purges new
    -- they do not fit, and the table doubles
    pub doubled :
        capacity old.size < length (put eq old.counters x w) → old.size < old.max_size →
        Becomes (put eq old.counters x w) old.error (2 * old.size) old.purges new
    -- they do not fit, the table is at its maximum size, and is purged
    pub purge :
        capacity old.size < length (put eq old.counters x w) → old.size ≡ old.max_size →
        Purges old (put eq old.counters x w) new

  -- w was added at an item that a key names
  pub record StepsByKey (old : FrequentState T) (names : T → Bool) (w : ℕ) (new : FrequentState T) : Type 0 where
    pub item : T
    pub named : IsTrue (names item)
    pub step : Steps old item w new

  -- w was added at an item equal to x
  abbrev pub StepsEqual : (old : FrequentState T) → (x : T) → (w : ℕ) → (new : FrequentState T) → Type 0
  StepsEqual old x w new = StepsByKey old (eq x) w new

  -- a step for each pair, in order
  abbrev pub StepsAlong : FrequentState T → List (T × ℕ) → FrequentState T → Type 0
  StepsAlong old [] new = new ≡ old
  StepsAlong old (p ∷ ps) new = (mid : FrequentState T) × Steps old p.0 p.1 mid × StepsAlong mid ps new

  -- the other's counters were added in some order, and then its error and its total
  pub record AddsAll (old other new : FrequentState T) : Type 0 where
    pub order : List (T × ℕ)
    pub whole : IsPermutation other.counters order
    pub last : FrequentState T
    pub steps : StepsAlong old order last
    pub left : Becomes last.counters (last.error + other.error) last.size last.purges new
    pub total : new.total ≡ old.total + other.total
    pub max_size : new.max_size ≡ old.max_size
    pub sample_size : new.sample_size ≡ old.sample_size
    pub key : new.key ≡ old.key

  -- new is old after the other was merged into it; an empty other changes nothing
  pub record Joins (old other new : FrequentState T) : Type 0 where
    pub nothing : other.total ≡ 0 → new ≡ old
    pub added : 0 < other.total → AddsAll old other new

  -- the same sketch, up to which of equal items it holds and up to its sample size, its key and its purges: what an image
  -- states
  pub record HoldsSame (s t : FrequentState T) : Type 0 where
    pub counters : IsSameMap eq s.counters t.counters
    pub error : t.error ≡ s.error
    pub total : t.total ≡ s.total
    pub max_size : t.max_size ≡ s.max_size
    pub size : t.size ≡ s.size

  -- the same sketch, up to which of equal items it holds
  pub record IsSameState (s t : FrequentState T) : Type 0 where
    pub holds : HoldsSame s t
    pub sample_size : t.sample_size ≡ s.sample_size
    pub key : t.key ≡ s.key
    pub purges : t.purges ≡ s.purges

  -- new is old after the other was merged into it, up to which of equal items both hold
  pub record JoinsEqual (old other new : FrequentState T) : Type 0 where
    pub own : FrequentState T
    pub same_own : IsSameState old own
    pub more : FrequentState T
    pub same_more : IsSameState other more
    pub join : Joins own more new
