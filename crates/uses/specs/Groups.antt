-- Sums of weights by group, a sketch of them, and a report on it.
use Rattle.std.specs.Prelude.{◌≡◌, ℕ, ◌-◌, ◌*◌, ◌<◌, ◌≤◌, max, Bool, true, cond, List, length, All, sum_by, Result, ⊤, IsOk, OnErr, IfErr, IsErrOf}
use Rattle.std.specs.List.{list_any}
use Rattle.sketch_base.specs.Errors.{ErrorValue, invalid_argument, no_memory}
use Rattle.sketch_base.specs.declared.fault.Fault.TheVariants.{WeightOverflow}
use Rattle.sketch_frequencies.specs.History.{FrequentHistory, true_weight, total_weight, weight_outside, budget_size}
use Rattle.sketch_frequencies.specs.Image.{IsSpelledFor}
use Rattle.sketch_frequencies.specs.Items.{Codec}
use Rattle.sketch_frequencies.specs.RowValue.{RowValue}
use Rattle.sketch_frequencies.specs.Stands.{StandsFor, KeepsTailBudget}
use Rattle.sketch_frequencies.specs.State.{FrequentState, Overflows, TotalHasRoom}

module _ {G : Type 0} (eq : G → G → Bool) where
  -- the weight of a group: the sum of the weights of the rows whose group is equal to it
  abbrev pub weight_of : List (G × ℕ) → G → ℕ
  weight_of rows group = sum_by (λ row. cond (eq row.0 group) row.1 0) rows

  -- the weight of all rows whose group is equal to none of a set
  abbrev pub weight_of_others : List G → List (G × ℕ) → ℕ
  weight_of_others set rows = sum_by (λ row. cond (list_any (eq row.0) set) 0 row.1) rows

  -- the sketch sums these rows: it stands for a history of them and keeps its tail budget. At least n groups may be set aside
  pub record SumsUp (n : ℕ) (s : FrequentState G) (rows : List (G × ℕ)) : Type 0 where
    pub history : FrequentHistory G
    pub stands : StandsFor eq s history
    pub budget : KeepsTailBudget eq s history
    pub places : n ≤ budget_size history
    pub total : total_weight history ≡ sum_by (λ row. row.1) rows
    pub groups : (group : G) → true_weight eq history group ≡ weight_of rows group
    pub others : (set : List G) → weight_outside eq set history ≡ weight_of_others set rows

  -- what a report's heavy groups imply for the rows, if this is the error and n groups may be set aside
  pub record ReportsHeavy (n threshold error : ℕ) (rows : List (G × ℕ)) (heavy : List (RowValue G)) : Type 0 where
    -- no group is missing whose weight exceeds both the threshold and the error
    pub none_missing :
        (group : G) → max threshold error < weight_of rows group → list_any (λ row. eq group row.item) heavy ≡ true
    -- the bounds of each group enclose its weight
    pub encloses :
        All (λ row. (row.lower_bound ≤ weight_of rows row.item) × (weight_of rows row.item ≤ row.upper_bound)) heavy
    -- for any set of k ≤ n groups, n - k times the error is at most the weight of the other groups. The set may be the heaviest
    -- groups
    pub tail : (set : List G) → length set ≤ n → (n - length set) * error ≤ weight_of_others set rows

  -- the bytes are the image of a sketch that sums these rows
  pub record CarriesSums {C : Type 0} (codec : Codec C) (content : G → C) (n : ℕ) (image : List ℕ) (rows : List (G × ℕ))
      : Type 0 where
    pub sums : FrequentState G
    pub spelled : IsSpelledFor codec content image sums
    pub sums_up : SumsUp n sums rows

-- rows of this weight were added. If it is 0, the call succeeds and changes nothing. An error changes nothing: it is
-- `WeightOverflow` if the total would exceed the maximum `u64`, and `NoMemory` otherwise
pub record BringsIn {G : Type 0} (weight : ℕ) (old : FrequentState G) (result : Result ⊤ ErrorValue) (new : FrequentState G)
    : Type 0 where
  pub zero : weight ≡ 0 → IsOk result × (new ≡ old)
  pub err : OnErr result (new ≡ old)
  pub overflow : Overflows old weight → IsErrOf result (invalid_argument WeightOverflow)
  pub memory : TotalHasRoom old weight → IfErr result (λ e. e ≡ no_memory)
