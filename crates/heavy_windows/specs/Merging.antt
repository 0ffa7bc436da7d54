-- Windows merged into one sketch, oldest first (mergeable summaries, Agarwal et al. 2012).
use Rattle.std.specs.Prelude.{◌≡◌, ℕ, Bool, List, [], ◌∷◌}
use Rattle.counter_table.specs.declared.table_key.TableKey.{TableKey}
use Rattle.sketch_frequencies.specs.History.{FrequentHistory}
use Rattle.sketch_frequencies.specs.Stands.{StandsFor, KeepsTailBudget}
use Rattle.sketch_frequencies.specs.State.{FrequentState, IsState}
use Rattle.sketch_frequencies.specs.Steps.{JoinsEqual}
use Rattle.heavy_windows.specs.Fresh.{fresh_state}
use Rattle.heavy_windows.specs.Histories.{report_history}
use Rattle.heavy_windows.specs.Stands.{WindowsStandFor}

module _ {T : Type 0} (eq : T → T → Bool) where
  -- the windows were merged into the sketch one after another
  abbrev pub MergesAll : FrequentState T → List (FrequentState T) → FrequentState T → Type 0
  MergesAll old [] new = new ≡ old
  MergesAll old (window ∷ windows) new =
      (mid : FrequentState T) × JoinsEqual eq old window mid × MergesAll mid windows new

  -- the windows were merged into a new sketch of this maximum size and key, oldest first; it stands for the merged histories
  -- and keeps their tail budget
  pub record IsMerged (max_map_size : ℕ) (key : TableKey) (windows : List (FrequentState T)) (merged : FrequentState T)
      : Type 0 where
    pub merges : MergesAll (fresh_state max_map_size key) windows merged
    pub state : IsState eq merged
    pub stands :
        (hs : List (FrequentHistory T)) → WindowsStandFor eq max_map_size windows hs →
        StandsFor eq merged (report_history max_map_size hs)
    pub budget :
        (hs : List (FrequentHistory T)) → WindowsStandFor eq max_map_size windows hs →
        KeepsTailBudget eq merged (report_history max_map_size hs)
