-- The rows of a report on a sketch.
use Rattle.std.specs.Prelude.{◌≡◌, ℕ, ◌+◌, ◌<◌, ◌≤◌, max, Bool, true, List, map, All, AllPairs}
use Rattle.std.specs.List.{list_any, IsDistinct}
use Rattle.sketch_frequencies.specs.Above.{is_above}
use Rattle.sketch_frequencies.specs.History.{FrequentHistory, true_weight}
use Rattle.sketch_frequencies.specs.RowValue.{RowValue}
use Rattle.sketch_frequencies.specs.Stands.{Encloses}
use Rattle.sketch_frequencies.specs.State.{FrequentState, estimate_of}
use Rattle.counter_table.specs.Tables.{count_of, is_tracked}
use Rattle.sketch_frequencies.specs.declared.error_type.ErrorType.{ErrorType}

-- whether the item of this count is listed: the compared bound is above both the threshold and the error
abbrev pub passes : {T : Type 0} → ErrorType → ℕ → FrequentState T → ℕ → Bool
passes kind threshold s count = is_above kind (max threshold s.error) count (count + s.error)

-- no estimate is above the one before it
abbrev pub Descends : {T : Type 0} → List (RowValue T) → Type 0
Descends {T} rows = AllPairs (λ (earlier later : RowValue T). later.estimate ≤ earlier.estimate) rows

module _ {T : Type 0} (eq : T → T → Bool) where
  -- the row shows a tracked item that passes, with the sketch's own estimate and bounds
  pub record Shows (kind : ErrorType) (threshold : ℕ) (s : FrequentState T) (row : RowValue T) : Type 0 where
    pub tracked : is_tracked eq s.counters row.item ≡ true
    pub passing : passes kind threshold s (count_of eq s.counters row.item) ≡ true
    pub estimate : row.estimate ≡ estimate_of eq s row.item
    pub upper_bound : row.upper_bound ≡ count_of eq s.counters row.item + s.error
    pub lower_bound : row.lower_bound ≡ count_of eq s.counters row.item

  -- the rows are exactly the tracked items that pass, each once
  pub record ShowsExactly (kind : ErrorType) (threshold : ℕ) (s : FrequentState T) (rows : List (RowValue T))
      : Type 0 where
    pub shown : All (Shows kind threshold s) rows
    pub once : IsDistinct eq (map (λ row. row.item) rows)
    pub whole :
        (x : T) → is_tracked eq s.counters x ≡ true → passes kind threshold s (count_of eq s.counters x) ≡ true →
        list_any (λ row. eq x row.item) rows ≡ true

  -- for every history that the sketch represents, no item of a true weight above the threshold and the error is missing
  abbrev pub MissesNone : ℕ → FrequentState T → List (RowValue T) → Type 0
  MissesNone threshold s rows =
      (h : FrequentHistory T) → Encloses eq s h → (x : T) → max threshold s.error < true_weight eq h x →
      list_any (λ row. eq x row.item) rows ≡ true

  -- for every history that the sketch represents, each listed item has a true weight above the threshold and the error
  abbrev pub ShowsNoneBelow : ℕ → FrequentState T → List (RowValue T) → Type 0
  ShowsNoneBelow threshold s rows =
      (h : FrequentHistory T) → Encloses eq s h →
      All (λ row. max threshold s.error < true_weight eq h row.item) rows
