-- The streams of a sketch, and what holds for all of them together.
use Rattle.std.specs.Prelude.{ℕ, ◌+◌, ◌-◌, ◌*◌, ◌/◌, ◌≤◌, Bool, List, [], ◌∷◌, ◌++◌, length, sum_by}
use Rattle.std.specs.List.{Contains}
use Rattle.counter_table.specs.Tables.{count_of, sum_outside}
use Rattle.sketch_frequencies.specs.History.{FrequentHistory, true_weight, weight_outside, min_sample}
use Rattle.sketch_frequencies.specs.History.FrequentHistory.{New, Update, Merge, Reset, Restored}
use Rattle.sketch_frequencies.specs.State.{FrequentState}

-- A sketch's own stream is its history without merges. Its other streams are those of the sketches that were merged into it,
-- before or after its own updates. A stream that was merged twice counts twice. Example: a sketch is updated by x, merged with a
-- sketch that was updated by y, and updated by z. Its own stream is x, z, and the other one is y.

module _ {T : Type 0} where
  -- the own stream
  abbrev pub own_stream : FrequentHistory T → FrequentHistory T
  own_stream (New m n) = New m n
  own_stream (Update h x w) = Update (own_stream h) x w
  own_stream (Merge g h) = own_stream g
  own_stream (Reset h) = Reset (own_stream h)
  own_stream (Restored h) = Restored (own_stream h)

  -- the streams of the merged sketches since the last reset
  abbrev pub other_streams : FrequentHistory T → List (FrequentHistory T)
  other_streams (New m n) = []
  other_streams (Update h x w) = other_streams h
  other_streams (Merge g h) = other_streams g ++ own_stream h ∷ other_streams h
  other_streams (Reset h) = []
  other_streams (Restored h) = other_streams h

  -- the own stream and the others
  abbrev pub streams_of : FrequentHistory T → List (FrequentHistory T)
  streams_of h = own_stream h ∷ other_streams h

module _ {T : Type 0} (eq : T → T → Bool) where
  -- each true weight, summed over all streams, lies between the item's count and that count plus the error
  abbrev pub EnclosesStreams : FrequentState T → FrequentHistory T → Type 0
  EnclosesStreams s h = (x : T)
      → (count_of eq s.counters x ≤ sum_by (λ g. true_weight eq g x) (streams_of h))
      × (sum_by (λ g. true_weight eq g x) (streams_of h) ≤ count_of eq s.counters x + s.error)

  -- the tail budget is kept for all streams together. `sampled` is any number of counters that is at most the minimum sample size
  -- of each stream
  abbrev pub KeepsBudgetOfStreams : FrequentState T → FrequentHistory T → Type 0
  KeepsBudgetOfStreams s h = (sampled : ℕ) → ((g : FrequentHistory T) → Contains (streams_of h) g → sampled ≤ min_sample g)
      → (set : List T) → length set ≤ sampled / 2
      → sum_outside eq set s.counters + (sampled / 2 - length set) * s.error ≤ sum_by (weight_outside eq set) (streams_of h)
