-- The bounds of an item's weight in one answer, and what they say.
use Rattle.std.proofs.Common.{◌≡◌, ℕ, ◌+◌, Bool, refl, sym, arith}
use Rattle.std.specs.Prelude.{IsTrue}
use Rattle.counter_table.specs.Keys.{count_by_key_of}
use Rattle.counter_table.specs.Tables.{count_by_key}
use Rattle.sketch_frequencies.specs.Bounds.{bounds_of, bounds_by_key, BoundWeight}
use Rattle.sketch_frequencies.specs.State.{FrequentState, estimate_by_key}
use Rattle.sketch_frequencies.specs.declared.item_bounds.ItemBounds.{ItemBounds}
use Rattle.sketch_frequencies.proofs.Estimates.{estimate_exact, estimate_item}

-- an answer is its three numbers
of_numbers : (l e u : ℕ) (b : ItemBounds) → b.lower_bound ≡ l → b.estimate ≡ e → b.upper_bound ≡ u → b ≡ record { lower_bound = l; estimate = e; upper_bound = u }
of_numbers l e u b lower estimate upper = rw (sym lower, sym estimate, sym upper) refl

-- an answer whose numbers are those of the key's item
pub bounds_are : {T : Type 0} (names : T → Bool) (s : FrequentState T) (b : ItemBounds) → b.lower_bound ≡ count_by_key names s.counters → b.estimate ≡ estimate_by_key names s → b.upper_bound ≡ count_by_key names s.counters + s.error → b ≡ bounds_by_key names s
bounds_are names s b lower estimate upper = of_numbers (count_by_key names s.counters) (estimate_by_key names s) (count_by_key names s.counters + s.error) b lower estimate upper

-- they hold for the item
pub bounds_hold : {T : Type 0} (eq : T → T → Bool) (s : FrequentState T) (x : T) → BoundWeight eq s x (bounds_of eq s x)
bounds_hold eq s x = record {
  at_least = λ h encloses. encloses.at_least x;
  at_most = λ h encloses. encloses.at_most x;
  exact = estimate_exact eq s x _ refl;
}

-- and for each item that the key names
pub bounds_hold_by_key : {T : Type 0} {eq : T → T → Bool} (names : T → Bool) → ((x y : T) → IsTrue (names x) → names y ≡ eq x y) → (s : FrequentState T) (x : T) → IsTrue (names x) → BoundWeight eq s x (bounds_by_key names s)
bounds_hold_by_key {eq = eq} names alike s x is =
    let count = count_by_key_of names alike s.counters x is in
    record {
      at_least = λ h encloses. omega (arith, count, encloses.at_least x);
      at_most = λ h encloses. omega (arith, count, encloses.at_most x);
      exact = estimate_exact eq s x _ (estimate_item names alike s x is);
    }
