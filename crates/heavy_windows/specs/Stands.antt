-- The relation of a tenant's windows to their histories, and how a call preserves it.
use Rattle.std.specs.Prelude.{ℕ, Bool, List}
use Rattle.std.specs.List.{AllZip}
use Rattle.sketch_frequencies.specs.History.{FrequentHistory}
use Rattle.sketch_frequencies.specs.Stands.{StandsFor, KeepsTailBudget}
use Rattle.sketch_frequencies.specs.State.{FrequentState}
use Rattle.heavy_windows.specs.Fresh.{SamplesAsWindow}
use Rattle.heavy_windows.specs.State.{WindowsState, at_tenant}

module _ {T : Type 0} (eq : T → T → Bool) where
  -- the window stands for this history, keeps its tail budget, and has the sample size of this maximum size
  pub record IsWindowOf (max_map_size : ℕ) (s : FrequentState T) (h : FrequentHistory T) : Type 0 where
    pub stands : StandsFor eq s h
    pub budget : KeepsTailBudget eq s h
    pub sample : SamplesAsWindow max_map_size h

  -- each window stands for its history
  abbrev pub WindowsStandFor : ℕ → List (FrequentState T) → List (FrequentHistory T) → Type 0
  WindowsStandFor max_map_size windows hs = AllZip (IsWindowOf max_map_size) windows hs

  -- if the old windows stand for histories, the new ones stand for the extended histories
  abbrev pub ExtendsEach :
      ℕ → List (FrequentState T) → List (FrequentState T) → (List (FrequentHistory T) → List (FrequentHistory T)) → Type 0
  ExtendsEach max_map_size old new extended =
      (hs : List (FrequentHistory T)) → WindowsStandFor max_map_size old hs → WindowsStandFor max_map_size new (extended hs)

  -- the same for the windows of a tenant
  abbrev pub ExtendsWindows :
      ℕ → WindowsState T → WindowsState T → (List (FrequentHistory T) → List (FrequentHistory T)) → Type 0
  ExtendsWindows tenant old new extended =
      ExtendsEach old.max_map_size (at_tenant tenant old) (at_tenant tenant new) extended
