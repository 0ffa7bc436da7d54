-- The bounds of an item's weight and its estimate, in one answer.
use Rattle.std.specs.Prelude.{◌+◌, Bool}
use Rattle.counter_table.specs.Tables.{count_by_key, count_of}
use Rattle.sketch_frequencies.specs.Stands.{IsLowerBound, IsUpperBound, IsExactOfFew}
use Rattle.sketch_frequencies.specs.State.{FrequentState, estimate_by_key, estimate_of}
use Rattle.sketch_frequencies.specs.declared.item_bounds.ItemBounds.{ItemBounds}

-- the bounds of an item's weight, and its estimate
abbrev pub bounds_of : {T : Type 0} → (T → T → Bool) → FrequentState T → T → ItemBounds
bounds_of eq s x = record {
  lower_bound = count_of eq s.counters x;
  estimate = estimate_of eq s x;
  upper_bound = count_of eq s.counters x + s.error;
}

-- those of the item that a key names
abbrev pub bounds_by_key : {T : Type 0} → (T → Bool) → FrequentState T → ItemBounds
bounds_by_key names s = record {
  lower_bound = count_by_key names s.counters;
  estimate = estimate_by_key names s;
  upper_bound = count_by_key names s.counters + s.error;
}

-- the bounds hold for the item's true weight, and the estimate is exact if there are few items
pub record BoundWeight {T : Type 0} (eq : T → T → Bool) (s : FrequentState T) (x : T) (bounds : ItemBounds) : Type 0 where
  pub at_least : IsLowerBound eq s x bounds.lower_bound
  pub at_most : IsUpperBound eq s x bounds.upper_bound
  pub exact : IsExactOfFew eq s x bounds.estimate
