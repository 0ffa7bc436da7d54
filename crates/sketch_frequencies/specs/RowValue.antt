-- A row as a caller sees it.
use Rattle.std.specs.Prelude.{◌≡◌, ℕ, Bool, true, List, ◌++◌, Option, option_map, codes}
use Rattle.std.specs.Fmt.{decimal}

-- a row: an item, its estimate and its two bounds
pub record RowValue (T : Type 0) : Type 0 where
  pub item : T
  pub estimate : ℕ
  pub upper_bound : ℕ
  pub lower_bound : ℕ

-- a row of an equal item with the same numbers
pub record IsSameRow {T : Type 0} (eq : T → T → Bool) (r s : RowValue T) : Type 0 where
  pub item : eq r.item s.item ≡ true
  pub estimate : s.estimate ≡ r.estimate
  pub upper_bound : s.upper_bound ≡ r.upper_bound
  pub lower_bound : s.lower_bound ≡ r.lower_bound

-- the numbers that a row prints after its item: the estimate, the lower and the upper bound
abbrev pub numbers_text : {T : Type 0} → RowValue T → List ℕ
numbers_text row =
    codes " " ++ decimal row.estimate ++ codes " " ++ decimal row.lower_bound ++ codes " " ++ decimal row.upper_bound

-- what a row prints, if the output of its item is specified
abbrev pub row_text : {T : Type 0} → (T → Option (List ℕ)) → RowValue T → Option (List ℕ)
row_text text row = option_map (λ item. item ++ numbers_text row) (text row.item)
