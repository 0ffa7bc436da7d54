-- How the weights of a few slots are put one after another.
use Rattle.std.proofs.Common.{◌≡◌, ℕ, ◌+◌, ◌<◌, List, ◌++◌, length, get_or, take, sym, ap, ◌∙◌}
use Rattle.std.specs.Int.{w64, to_le_bytes}
use Rattle.sketch_frequencies.specs.Image.{encoded_weights}
use Rattle.counter_table.specs.Slots.{entries_of}
use Rattle.counter_table.specs.declared.slot.Slot.{Slot}
use Rattle.counter_table.specs.declared.slot.Slot.TheVariants.{Taken}
use Rattle.sketch_frequencies.proofs.SlotEntries.{entries_taken}
use Rattle.sketch_frequencies.proofs.Spellings.{weights_push}

-- a weight takes eight bytes
pub weight_long : (count : ℕ) (bytes : List ℕ) → bytes ≡ to_le_bytes w64 count → length bytes ≡ 8
weight_long count bytes e = ap length e

-- the weight of a counter more
pub weight_more : {T : Type 0} (i : ℕ) (slots : List (Slot T)) (drift count : ℕ) (x : T) (d : Slot T) (was now bytes : List ℕ) → i < length slots → get_or slots i d ≡ Taken drift count x → was ≡ encoded_weights (entries_of (take i slots)) → bytes ≡ to_le_bytes w64 count → now ≡ was ++ bytes → now ≡ encoded_weights (entries_of (take (i + 1) slots))
weight_more i slots drift count x d was now bytes lt slot_is was_is bytes_are now_is =
    let es = entries_of (take i slots) in
    now_is
    ∙ (ap (λ (l : List ℕ). l ++ bytes) was_is
    ∙ (ap (λ (l : List ℕ). encoded_weights es ++ l) bytes_are
    ∙ (sym (weights_push es (x, count)) ∙ ap encoded_weights (sym (entries_taken slots i drift count x d lt slot_is)))))
