-- What a look-up says of an item's count.
use Rattle.std.proofs.Common.{◌≡◌, ℕ, List, length, Bool, Option, unwrap_or, IsTrue, sym, ap}
use Rattle.std.specs.Cmp.{IsEquivalence}
use Rattle.counter_table.specs.declared.slot.Slot.{Slot}
use Rattle.counter_table.specs.declared.table_key.TableKey.TheVariants.{Plain}
use Rattle.counter_table.specs.Homes.{home_in}
use Rattle.counter_table.specs.Probes.{IsProbe}
use Rattle.counter_table.specs.Slots.{IsSlots, entries_of}
use Rattle.counter_table.specs.Tables.{count_of}
use Rattle.counter_table.proofs.LookupProbes.{answers}

-- the count that a look-up found
pub count_found : {T : Type 0} {eq : T → T → Bool} → IsEquivalence eq → {hashed : T → ℕ} → ((x y : T) → IsTrue (eq x y) → hashed x ≡ hashed y) → (slots : List (Slot T)) → IsSlots eq hashed slots →
    (x : T) (index probed : ℕ) (found : Option ℕ) → IsProbe (eq x) (home_in hashed (length slots) x) slots index found probed → unwrap_or found 0 ≡ count_of eq (entries_of slots) x
count_found laws respects slots ok x index probed found p = ap (λ o. unwrap_or o 0) (sym (answers {key = Plain} {purges = 0} laws respects slots ok x index found probed p).looked_up)
