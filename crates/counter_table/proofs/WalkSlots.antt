-- A walk over slots.
use Rattle.std.proofs.Common.{◌≡◌, ℕ, ◌%◌, ◌<◌, List, length, get_or, ap, sym, subst, arith}
use Rattle.std.specs.Prelude.{IsPermutation}
use Rattle.counter_table.specs.declared.slot.Slot.{Slot}
use Rattle.counter_table.specs.declared.slot.Slot.TheVariants.{Free}
use Rattle.counter_table.specs.Indices.{entry_at, rest_from, IsCursor}
use Rattle.counter_table.specs.Slots.{slot_entry, entries_of, IsTableSize}
use Rattle.counter_table.proofs.WalkSteps.{by_index, rest_some, walk_gives_all, Stepped, stepped}

module _ {T : Type 0} where
  pub slots_give_all : (slots : List (Slot T)) (s : ℕ) → IsTableSize (length slots) → s % 2 ≡ 1 → IsPermutation (entries_of slots) (rest_from (entry_at slots) (length slots) s 0)
  slots_give_all slots s size odd =
      let n = length slots in
      subst (λ (l : List (T × ℕ)). IsPermutation l (rest_from (entry_at slots) n s 0)) (sym (by_index slot_entry slots Free n 0 (omega arith))) (walk_gives_all (entry_at slots) n s size odd)

  -- where entries are left, so are indices
  pub more_left : (slots : List (Slot T)) (stride probed left : ℕ) (rest : List (T × ℕ)) → rest_from (entry_at slots) (length slots) stride probed ≡ rest → left ≡ length rest → 0 < left → probed < length slots
  more_left slots stride probed left rest is counted some = rest_some (entry_at slots) (length slots) stride probed (omega (arith, ap length is, counted, some))

  pub slot_stepped : (slots : List (Slot T)) (stride probed index : ℕ) (o : Slot T) → IsCursor (length slots) stride probed index → probed < length slots → o ≡ get_or slots index Free → Stepped (entry_at slots) (length slots) stride probed index (slot_entry o)
  slot_stepped slots stride probed index o cursor more read =
      stepped (entry_at slots) (length slots) stride probed index (slot_entry o) cursor more (ap slot_entry (sym read))
