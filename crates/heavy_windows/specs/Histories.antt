-- The histories of a tenant's windows, oldest first.
use Rattle.std.specs.Prelude.{ℕ, List}
use Rattle.std.specs.List.{fold}
use Rattle.sketch_frequencies.specs.History.{FrequentHistory}
use Rattle.sketch_frequencies.specs.History.FrequentHistory.{Update, Merge}
use Rattle.heavy_windows.specs.Fresh.{fresh_history}
use Rattle.heavy_windows.specs.Newest.{newest, with_newest, turned}

module _ {T : Type 0} where
  -- a weight above 0 was added to an item of the newest window, or of a first one if there is none
  abbrev pub added_history : ℕ → T → ℕ → List (FrequentHistory T) → List (FrequentHistory T)
  added_history max_map_size item weight hs =
      with_newest hs (Update (newest (fresh_history max_map_size) hs) item weight)

  -- an empty window was opened
  abbrev pub turned_history : ℕ → ℕ → List (FrequentHistory T) → List (FrequentHistory T)
  turned_history limit max_map_size hs = turned limit (fresh_history max_map_size) hs

  -- a new sketch with all of them merged into it, oldest first
  abbrev pub report_history : ℕ → List (FrequentHistory T) → FrequentHistory T
  report_history max_map_size hs = fold Merge (fresh_history max_map_size) hs
