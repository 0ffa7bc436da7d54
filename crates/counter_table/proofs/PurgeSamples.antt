-- The entries of the first slots.
use Rattle.std.proofs.Common.{◌≡◌, ℕ, Bool, ◌+◌, ◌-◌, ◌<◌, ◌≤◌, arith, List, [], ◌∷◌, ◌++◌, length, length-take, get_or, map, min, inl, inr, append_assoc, refl, ap, sym, ◌∙◌, take, drop, IsPermutation}
use Rattle.std.proofs.Math.Seq.{take-append-add}
use Rattle.std.proofs.lemmas.Bool.{cases_lt}
use Rattle.std.proofs.lemmas.List.{take-append-drop, take-append-le, take_at, take_all, take_more, append-nil, length-map, map-append}
use Rattle.std.proofs.lemmas.List.Elements.{filter_map-append}
use Rattle.std.proofs.lemmas.List.Sorted.{IsPermutation-trans, IsPermutation-append_comm, IsPermutation-append_left}
use Rattle.counter_table.specs.declared.slot.Slot.{Slot}
use Rattle.counter_table.specs.declared.slot.Slot.TheVariants.{Free, Taken}
use Rattle.counter_table.specs.declared.table_key.TableKey.{TableKey}
use Rattle.counter_table.specs.Samples.{entries_from, IsSampledFrom}
use Rattle.counter_table.specs.Slots.{IsSlots, entries_of, slot_entry, table_of}
use Rattle.counter_table.specs.Tables.{IsSampleMiddle}

-- they are the first entries
pub entries_front : {T : Type 0} (i : ℕ) (slots : List (Slot T)) → take (length (entries_of (take i slots))) (entries_of slots) ≡ entries_of (take i slots)
entries_front i slots =
    let whole : entries_of slots ≡ entries_of (take i slots) ++ entries_of (drop i slots) = ap entries_of (sym (take-append-drop i slots)) ∙ filter_map-append slot_entry (take i slots) (drop i slots) in
    ap (take (length (entries_of (take i slots)))) whole ∙ take_at (entries_of (take i slots)) (entries_of (drop i slots)) (length (entries_of (take i slots))) refl

-- with one more slot
pub entries_taken : {T : Type 0} (i : ℕ) (slots : List (Slot T)) (drift count : ℕ) (x : T) (d : Slot T) → i < length slots → get_or slots i d ≡ Taken drift count x → entries_of (take (i + 1) slots) ≡ entries_of (take i slots) ++ (x, count) ∷ []
entries_taken i slots drift count x d h e = ap entries_of (take_more slots i d h ∙ ap (λ o. take i slots ++ o ∷ []) e) ∙ filter_map-append slot_entry (take i slots) (Taken drift count x ∷ [])

pub entries_passed : {T : Type 0} (i : ℕ) (slots : List (Slot T)) (d : Slot T) → i < length slots → get_or slots i d ≡ Free → entries_of (take (i + 1) slots) ≡ entries_of (take i slots)
entries_passed i slots d h e = ap entries_of (take_more slots i d h ∙ ap (λ o. take i slots ++ o ∷ []) e) ∙ (filter_map-append slot_entry (take i slots) (Free ∷ []) ∙ append-nil (entries_of (take i slots)))

-- what was gathered are the counts of the first entries
module _ {T : Type 0} (slots : List (Slot T)) (counts : List ℕ) (gathered i : ℕ) (is : take gathered counts ≡ map (λ e. e.1) (entries_of (take i slots))) (within : gathered ≤ length counts) where
  abbrev num : T × ℕ → ℕ
  num = λ e. e.1

  many : length (entries_of (take i slots)) ≡ gathered
  many = omega (arith, length-map (entries_of (take i slots)) num, ap length is, length-take gathered counts, within)

  pub gathered_front : take gathered counts ≡ map (λ e. e.1) (take gathered (entries_of slots))
  gathered_front = is ∙ ap (map num) (sym (entries_front i slots) ∙ ap (λ k. take k (entries_of slots)) many)

  pub gathered_few : gathered ≤ length (entries_of slots)
  gathered_few = omega (arith, length-map (take gathered (entries_of slots)) num, ap length gathered_front, length-take gathered counts, length-take gathered (entries_of slots), within)

  pub gathered_all : length slots ≤ i → gathered ≡ length (entries_of slots)
  gathered_all end = sym many ∙ ap (λ l. length (entries_of l)) (take_all i slots end)

-- the first entries of two parts
take_both : {T : Type 0} (es fs : List T) (n r s : ℕ) → r ≡ min n (length es) → s ≡ n - r → take n (es ++ fs) ≡ take r es ++ take s fs
take_both es fs n r s first second = elim (cases_lt (length es) n) [
  | inl more ↦
      let sum : n ≡ length es + s = omega (arith, first, second, more) in
      ap (λ k. take k (es ++ fs)) sum ∙ take-append-add es fs s ∙ ap (λ l. l ++ take s fs) (sym (take_all r es (omega (arith, first, more))))
  | inr le ↦
      let same : n ≡ r = omega (arith, first, le) in
      let none : 0 ≡ s = omega (arith, same, second) in
      take-append-le n es fs le ∙ ap (λ k. take k es) same ∙ sym (append-nil (take r es)) ∙ ap (λ k. take r es ++ take k fs) none
]

-- what was gathered from two parts are the counts of the first entries of both
pub gathered_both : {T : Type 0} (es fs : List (T × ℕ)) (n r s : ℕ) (xs ys rest : List ℕ) → r ≡ min n (length es) → take r xs ≡ map (λ e. e.1) (take r es) → s ≡ min (n - r) (length fs) → take s ys ≡ map (λ e. e.1) (take s fs) → n ≤ length es + length fs → length ys ≡ n - r → rest ≡ [] → take r xs ++ (ys ++ rest) ≡ map (λ e. e.1) (take n (es ++ fs))
gathered_both {T} es fs n r s xs ys rest first front second back many long none =
    let num : T × ℕ → ℕ = λ e. e.1 in
    let left : s ≡ n - r = omega (arith, first, second, many) in
    let whole : take s ys ≡ ys = take_all s ys (omega (arith, left, long)) in
    ap (λ l. take r xs ++ (ys ++ l)) none ∙ ap (λ l. take r xs ++ l) (append-nil ys ∙ sym whole ∙ back) ∙ ap (λ l. l ++ map num (take s fs)) front
    ∙ sym (map-append num (take r es) (take s fs)) ∙ ap (map num) (sym (take_both es fs n r s first left))

-- the entries in the order from an index on are the entries
pub entries_around : {T : Type 0} (start : ℕ) (slots : List (Slot T)) → IsPermutation (entries_of slots) (entries_from start slots)
entries_around start slots =
    rw (ap entries_of (sym (take-append-drop start slots)) ∙ filter_map-append slot_entry (take start slots) (drop start slots)) (IsPermutation-append_comm (entries_of (take start slots)) (entries_of (drop start slots)))

-- a sample of the first entries is one of all
pub sample_of_all : {T : Type 0} (n m : ℕ) (es all : List (T × ℕ)) → IsPermutation all es → IsSampleMiddle n (take n es) m → IsSampleMiddle n all m
sample_of_all n m es all same w = record {
  sample = w.sample;
  rest = w.rest ++ drop n es;
  is_part = rw (append_assoc w.sample w.rest (drop n es)) at (IsPermutation-trans _ _ _ (rw (sym (take-append-drop n es)) at same) (IsPermutation-append_left (drop n es) _ _ w.is_part));
  size = w.size;
  below = w.below;
  at_most = w.at_most;
  among = w.among;
}

-- a sample of a table's slots is one of the table
pub sampled_from : {T : Type 0} {eq : T → T → Bool} {hashed : T → ℕ} {key : TableKey} {purges start n m : ℕ} {slots : List (Slot T)} → IsSlots eq hashed slots → IsSampleMiddle n (take n (entries_from start slots)) m → IsSampledFrom eq hashed (table_of key purges slots) start n m
sampled_from {slots = slots} placed middle = record { slots = slots; placed = placed; entries = refl; size = refl; middle = middle }
