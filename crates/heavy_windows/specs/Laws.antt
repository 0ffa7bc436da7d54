-- The weights in the history of a report, by those of the windows.
use Rattle.std.specs.Prelude.{◌≡◌, ℕ, Bool, List, sum_by}
use Rattle.sketch_frequencies.specs.History.{FrequentHistory, true_weight, total_weight, weight_outside}
use Rattle.heavy_windows.specs.Histories.{report_history}

module _ {T : Type 0} (eq : T → T → Bool) where
  -- an item's true weight is the sum of its true weights in the windows
  abbrev pub ItemsWeighAsInWindows : Type 0
  ItemsWeighAsInWindows =
      (max_map_size : ℕ) (hs : List (FrequentHistory T)) (x : T) →
      true_weight eq (report_history max_map_size hs) x ≡ sum_by (λ h. true_weight eq h x) hs

  -- the total weight is the sum of the windows' total weights
  abbrev pub TotalIsOfWindows : Type 0
  TotalIsOfWindows =
      (max_map_size : ℕ) (hs : List (FrequentHistory T)) →
      total_weight (report_history max_map_size hs) ≡ sum_by (λ h. total_weight h) hs

  -- the weight outside a set of items is the sum of the weights outside it in the windows
  abbrev pub OthersWeighAsInWindows : Type 0
  OthersWeighAsInWindows =
      (max_map_size : ℕ) (hs : List (FrequentHistory T)) (set : List T) →
      weight_outside eq set (report_history max_map_size hs) ≡ sum_by (λ h. weight_outside eq set h) hs
