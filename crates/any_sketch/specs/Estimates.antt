-- Estimates of weights in a Count-Min sketch.
use Rattle.std.specs.Prelude.{ℕ, ◌<◌, List, [], length, slice_index_or, ℤ, pos, ◌-ℤ◌, ◌≤ℤ◌}
use Rattle.sketch_countmin.specs.History.{CountHistory, IsExact, IsNonnegative, own_value, others_share}
use Rattle.sketch_countmin.specs.Stands.{StandsFor}
use Rattle.sketch_countmin.specs.State.{CountState, IsMin, IsMinCell}

-- the number is the sketch's estimate for the byte list
pub record IsEstimate (s : CountState) (bytes : List ℕ) (estimate : ℤ) : Type 0 where
  pub least : IsMinCell s bytes estimate
  -- if no weight was below 0, it is at least the item's own share of the history, and at most the total
  pub encloses :
      (h : CountHistory) → StandsFor s h → IsNonnegative h → (own_value h bytes ≤ℤ estimate) × (estimate ≤ℤ pos s.total)
  -- if nothing was halved or decayed, it is the item's own share plus the minimum, over the rows, of the other items' share
  pub raised :
      (h : CountHistory) → StandsFor s h → IsExact h →
      IsMin s.hashes (others_share s.buckets s.seed h bytes) (estimate -ℤ own_value h bytes)

-- each item's estimate is at the item's index
pub record AreEstimates (s : CountState) (items : List (List ℕ)) (estimates : List ℤ) : Type 0 where
  pub each : (i : ℕ) → i < length items
      → IsEstimate s (slice_index_or items i []) (slice_index_or estimates i (pos 0))
