-- How a sketch represents a history, and how a call preserves this.
use Rattle.std.specs.Prelude.{◌≡◌, ℕ, ◌+◌, ◌-◌, ◌*◌, ◌<◌, ◌≤◌, Bool, true, IsTrue, List, length}
use Rattle.std.specs.Int.{is_power_of_two}
use Rattle.std.specs.List.{list_any}
use Rattle.counter_table.specs.Tables.{count_of, sum_outside}
use Rattle.sketch_frequencies.specs.History.{FrequentHistory, true_weight, total_weight, weight_outside, own_size, min_size, own_sample, min_sample, budget_size}
use Rattle.sketch_frequencies.specs.State.{FrequentState, IsSampleSize, capacity}

module _ {T : Type 0} (eq : T → T → Bool) where
  -- there are few items: a list that fits into a table of the smallest maximum size has all items of a true weight above 0
  pub record HasFewItems (h : FrequentHistory T) : Type 0 where
    pub items : List T
    pub fit : length items ≤ capacity (min_size h)
    pub cover : (x : T) → 0 < true_weight eq h x → list_any (eq x) items ≡ true

  -- the sketch represents the history, except for its sample size, which an image does not keep
  pub record Encloses (s : FrequentState T) (h : FrequentHistory T) : Type 0 where
    pub max_size : s.max_size ≡ own_size h
    pub total : s.total ≡ total_weight h
    -- each true weight lies between the item's count and that count plus the error
    pub at_least : (x : T) → count_of eq s.counters x ≤ true_weight eq h x
    pub at_most : (x : T) → true_weight eq h x ≤ count_of eq s.counters x + s.error
    -- if there are few items, the error is 0
    pub exact : HasFewItems h → s.error ≡ 0
    -- the smallest maximum size and the smallest sample size are valid
    pub least : 8 ≤ min_size h
    pub power : IsTrue (is_power_of_two (min_size h))
    pub sample : IsSampleSize (min_size h) (min_sample h)

  -- the sketch represents the history
  pub record StandsFor (s : FrequentState T) (h : FrequentHistory T) : Type 0 where
    pub encloses : Encloses s h
    pub sample_size : s.sample_size ≡ own_sample h

  -- The tail budget, for each set of at most h = budget_size items: the kept counts outside the set, plus the error times
  -- h less the size of the set, are at most the weight outside the set.
  abbrev pub KeepsTailBudget : FrequentState T → FrequentHistory T → Type 0
  KeepsTailBudget s h =
      (set : List T) → length set ≤ budget_size h →
      sum_outside eq set s.counters + (budget_size h - length set) * s.error ≤ weight_outside eq set h

  -- if old represents a history, new represents the extended history
  abbrev pub Extends : FrequentState T → FrequentState T → (FrequentHistory T → FrequentHistory T) → Type 0
  Extends old new extended = (h : FrequentHistory T) → StandsFor old h → StandsFor new (extended h)

  -- if old also keeps the tail budget, new keeps that of the extended history
  abbrev pub ExtendsBudget : FrequentState T → FrequentState T → (FrequentHistory T → FrequentHistory T) → Type 0
  ExtendsBudget old new extended =
      (h : FrequentHistory T) → StandsFor old h → KeepsTailBudget old h → KeepsTailBudget new (extended h)

  -- if both sketches represent histories, new represents the merged history
  abbrev pub ExtendsBoth :
      FrequentState T → FrequentState T → FrequentState T →
      (FrequentHistory T → FrequentHistory T → FrequentHistory T) → Type 0
  ExtendsBoth old other new joined =
      (h g : FrequentHistory T) → StandsFor old h → StandsFor other g → StandsFor new (joined h g)

  -- if both also keep the tail budget, new keeps that of the merged history
  abbrev pub ExtendsBothBudgets :
      FrequentState T → FrequentState T → FrequentState T →
      (FrequentHistory T → FrequentHistory T → FrequentHistory T) → Type 0
  ExtendsBothBudgets old other new joined =
      (h g : FrequentHistory T) → StandsFor old h → StandsFor other g →
      KeepsTailBudget old h → KeepsTailBudget other g → KeepsTailBudget new (joined h g)

  -- the item's true weight is at least n, for every history that the sketch represents
  abbrev pub IsLowerBound : FrequentState T → T → ℕ → Type 0
  IsLowerBound s x n = (h : FrequentHistory T) → Encloses s h → n ≤ true_weight eq h x

  -- the item's true weight is at most n, for every such history
  abbrev pub IsUpperBound : FrequentState T → T → ℕ → Type 0
  IsUpperBound s x n = (h : FrequentHistory T) → Encloses s h → true_weight eq h x ≤ n

  -- the item's true weight is n, for every such history with few items
  abbrev pub IsExactOfFew : FrequentState T → T → ℕ → Type 0
  IsExactOfFew s x n = (h : FrequentHistory T) → Encloses s h → HasFewItems h → n ≡ true_weight eq h x
