-- What a report says, from what its sketch says.
use Rattle.std.proofs.Common.{◌≡◌, ℕ, ◌+◌, ◌-◌, ◌*◌, ◌/◌, ◌≤◌, Bool, List, All, [], ◌∷◌, length, Result, Ok, Err, IfOk, refl, ap, sym, ◌∙◌, subst, arith}
use Rattle.std.proofs.lemmas.List.Elements.{All-weaker}
use Rattle.std.specs.List.{fold}
use Rattle.sketch_frequencies.specs.History.{FrequentHistory, true_weight, min_sample, budget_size, weight_outside}
use Rattle.sketch_frequencies.specs.History.FrequentHistory.{Merge}
use Rattle.sketch_frequencies.specs.RowValue.{RowValue}
use Rattle.sketch_frequencies.specs.Rows.{Shows, ShowsExactly}
use Rattle.sketch_frequencies.specs.Stands.{StandsFor, KeepsTailBudget}
use Rattle.sketch_frequencies.specs.State.{FrequentState, IsState, max_sample_size}
use Rattle.counter_table.specs.Tables.{sum_outside}
use Rattle.counter_table.specs.declared.table_key.TableKey.{TableKey}
use Rattle.sketch_frequencies.specs.declared.error_type.ErrorType.{ErrorType}
use Rattle.heavy_windows.specs.Fresh.{fresh_state, fresh_history, window_budget}
use Rattle.heavy_windows.specs.Histories.{report_history}
use Rattle.heavy_windows.specs.Merging.{IsMerged}
use Rattle.heavy_windows.specs.Stands.{WindowsStandFor}
use Rattle.heavy_windows.proofs.Merging.{chain_merged}

module _ {T : Type 0} (eq : T → T → Bool) where
  -- a new sketch is that of no windows
  pub none_merged : {E : Type 0} (max_map_size : ℕ) (key : TableKey) (r : Result (FrequentState T) E)
      → IfOk r (λ s. s ≡ fresh_state max_map_size key) → IfOk r (λ s. IsState eq s)
      → IfOk r (λ s. StandsFor eq s (fresh_history max_map_size))
      → IfOk r (λ s. KeepsTailBudget eq s (fresh_history max_map_size))
      → IfOk r (λ s. IsMerged eq max_map_size key [] s)
  none_merged max_map_size key (Ok s) e state stands budget = chain_merged eq max_map_size key s [] s e refl state stands budget
  none_merged max_map_size key (Err x) e state stands budget = tt

  least_merged : (max_map_size : ℕ) (windows : List (FrequentState T)) (hs : List (FrequentHistory T)) (h : FrequentHistory T)
      → WindowsStandFor eq max_map_size windows hs → min_sample h ≡ max_sample_size max_map_size
      → min_sample (fold Merge h hs) ≡ max_sample_size max_map_size
  least_merged max_map_size [] [] h z e = e
  least_merged max_map_size [] (g ∷ hs) h z e = absurd z
  least_merged max_map_size (w ∷ ws) [] h z e = absurd z
  least_merged max_map_size (w ∷ ws) (g ∷ hs) h z e =
      let more = z.0.sample in
      least_merged max_map_size ws hs (Merge h g) z.1 (omega (arith, e, more))

  -- as many items may be set aside as in a window
  budget_merged : (max_map_size : ℕ) (windows : List (FrequentState T)) (hs : List (FrequentHistory T))
      → WindowsStandFor eq max_map_size windows hs → budget_size (report_history max_map_size hs) ≡ window_budget max_map_size
  budget_merged max_map_size windows hs z =
      ap (λ (n : ℕ). n / 2) (least_merged max_map_size windows hs (fresh_history max_map_size) z refl)

  pub paid_by_tail : (max_map_size : ℕ) (key : TableKey) (windows : List (FrequentState T)) (merged : FrequentState T)
      → IsMerged eq max_map_size key windows merged → (error : ℕ) → error ≡ merged.error
      → (hs : List (FrequentHistory T)) → WindowsStandFor eq max_map_size windows hs
      → (set : List T) → length set ≤ window_budget max_map_size
      → (window_budget max_map_size - length set) * error ≤ weight_outside eq set (report_history max_map_size hs)
  paid_by_tail max_map_size key windows merged is error e hs z set fits =
      let b = budget_merged max_map_size windows hs z in
      let all : sum_outside eq set merged.counters + (budget_size (report_history max_map_size hs) - length set) * merged.error ≤ weight_outside eq set (report_history max_map_size hs) =
      is.budget hs z set (subst (λ (n : ℕ). length set ≤ n) (sym b) fits) in
      let same : (window_budget max_map_size - length set) * error ≡ (budget_size (report_history max_map_size hs) - length set) * merged.error =
      ap (λ (n : ℕ). (n - length set) * error) (sym b) ∙ ap (λ (n : ℕ). (budget_size (report_history max_map_size hs) - length set) * n) e in
      omega (arith, all, same)

  -- the bounds of each row enclose the true weight of its item
  pub rows_enclose : (kind : ErrorType) (threshold max_map_size : ℕ) (key : TableKey) (windows : List (FrequentState T))
      (merged : FrequentState T) (rows : List (RowValue T))
      → IsMerged eq max_map_size key windows merged → ShowsExactly eq kind threshold merged rows
      → (hs : List (FrequentHistory T)) → WindowsStandFor eq max_map_size windows hs
      → All (λ row. (row.lower_bound ≤ true_weight eq (report_history max_map_size hs) row.item)
      × (true_weight eq (report_history max_map_size hs) row.item ≤ row.upper_bound)) rows
  rows_enclose kind threshold max_map_size key windows merged rows is exact hs z =
      let h = report_history max_map_size hs in
      let encloses = (is.stands hs z).encloses in
      All-weaker (Shows eq kind threshold merged)
      (λ (row : RowValue T). (row.lower_bound ≤ true_weight eq h row.item) × (true_weight eq h row.item ≤ row.upper_bound))
      (λ row shown. (
        subst (λ (n : ℕ). n ≤ true_weight eq h row.item) (sym shown.lower_bound) (encloses.at_least row.item),
        subst (λ (n : ℕ). true_weight eq h row.item ≤ n) (sym shown.upper_bound) (encloses.at_most row.item),
      )) rows exact.shown
