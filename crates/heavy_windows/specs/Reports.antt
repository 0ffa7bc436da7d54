-- A report on the windows of a tenant, and what it guarantees for their histories.
use Rattle.std.specs.Prelude.{◌≡◌, ℕ, ◌-◌, ◌*◌, ◌<◌, ◌≤◌, max, Bool, true, List, length, All}
use Rattle.std.specs.List.{list_any}
use Rattle.counter_table.specs.declared.table_key.TableKey.{TableKey}
use Rattle.sketch_frequencies.specs.History.{FrequentHistory, true_weight, total_weight, weight_outside}
use Rattle.sketch_frequencies.specs.Rows.{ShowsExactly, Descends}
use Rattle.sketch_frequencies.specs.State.{FrequentState}
use Rattle.sketch_frequencies.specs.declared.error_type.ErrorType.{ErrorType}
use Rattle.heavy_windows.specs.Fresh.{window_budget}
use Rattle.heavy_windows.specs.Histories.{report_history}
use Rattle.heavy_windows.specs.Merging.{IsMerged}
use Rattle.heavy_windows.specs.Stands.{WindowsStandFor}
use Rattle.heavy_windows.specs.declared.report.Report.{Report}

module _ {T : Type 0} (eq : T → T → Bool) where
  -- the report has the rows, the error and the total of the windows merged into one sketch
  pub record Reports (kind : ErrorType) (threshold max_map_size : ℕ) (key : TableKey) (windows : List (FrequentState T))
      (report : Report T) : Type 0 where
    pub merged : FrequentState T
    pub is_merged : IsMerged eq max_map_size key windows merged
    pub rows : ShowsExactly eq kind threshold merged report.rows.items
    pub descending : Descends report.rows.items
    pub error : report.maximum_error ≡ merged.error
    pub total : report.total_weight ≡ merged.total

  module _ (max_map_size : ℕ) (windows : List (FrequentState T)) where
    -- P holds of the merged history of all histories that the windows stand for
    abbrev pub OfWhatTheyStandFor : (FrequentHistory T → Type 0) → Type 0
    OfWhatTheyStandFor P =
        (hs : List (FrequentHistory T)) → WindowsStandFor eq max_map_size windows hs →
        P (report_history max_map_size hs)

    -- the total is the weight of all items
    abbrev pub HasTotal : Report T → Type 0
    HasTotal report = OfWhatTheyStandFor (λ h. report.total_weight ≡ total_weight h)

    -- no item with a true weight above both the threshold and the error is missing
    abbrev pub MissesNone : ℕ → Report T → Type 0
    MissesNone threshold report = OfWhatTheyStandFor (λ h.
        (x : T) → max threshold report.maximum_error < true_weight eq h x →
        list_any (λ row. eq x row.item) report.rows.items ≡ true)

    -- every item in the rows has a true weight above both the threshold and the error
    abbrev pub ShowsNoneBelow : ℕ → Report T → Type 0
    ShowsNoneBelow threshold report = OfWhatTheyStandFor (λ h.
        All (λ row. max threshold report.maximum_error < true_weight eq h row.item) report.rows.items)

    -- the true weight of each item in the rows is within its bounds
    abbrev pub EnclosesEach : Report T → Type 0
    EnclosesEach report = OfWhatTheyStandFor (λ h.
        All (λ row. (row.lower_bound ≤ true_weight eq h row.item) × (true_weight eq h row.item ≤ row.upper_bound))
        report.rows.items)

    -- the tail budget (Berinde et al. 2009): for each set of at most h items, (h - size of the set) * error is at most
    -- the weight outside the set; h is the window budget
    abbrev pub IsPaidByTail : Report T → Type 0
    IsPaidByTail report = OfWhatTheyStandFor (λ h.
        (set : List T) → length set ≤ window_budget max_map_size →
        (window_budget max_map_size - length set) * report.maximum_error ≤ weight_outside eq set h)
