-- The entries of one slot more.
use Rattle.std.proofs.Common.{◌≡◌, ℕ, ◌+◌, ◌<◌, List, [], ◌∷◌, ◌++◌, length, get_or, ap, ◌∙◌, take}
use Rattle.std.proofs.lemmas.List.{take_more, append-nil}
use Rattle.std.proofs.lemmas.List.Elements.{filter_map-append}
use Rattle.counter_table.specs.declared.slot.Slot.{Slot}
use Rattle.counter_table.specs.declared.slot.Slot.TheVariants.{Free, Taken}
use Rattle.counter_table.specs.Slots.{entries_of, slot_entry}

module _ {T : Type 0} (slots : List (Slot T)) (i : ℕ) where
  one_more : (o d : Slot T) → i < length slots → get_or slots i d ≡ o → entries_of (take (i + 1) slots) ≡ entries_of (take i slots) ++ entries_of (o ∷ [])
  one_more o d within is = ap entries_of (take_more slots i d within ∙ ap (λ q. take i slots ++ q ∷ []) is) ∙ filter_map-append slot_entry (take i slots) (o ∷ [])

  pub entries_taken : (drift count : ℕ) (x : T) (d : Slot T) → i < length slots → get_or slots i d ≡ Taken drift count x → entries_of (take (i + 1) slots) ≡ entries_of (take i slots) ++ (x, count) ∷ []
  entries_taken drift count x d within is = one_more (Taken drift count x) d within is

  pub entries_passed : (d : Slot T) → i < length slots → get_or slots i d ≡ Free → entries_of (take (i + 1) slots) ≡ entries_of (take i slots)
  entries_passed d within is = one_more Free d within is ∙ append-nil (entries_of (take i slots))
