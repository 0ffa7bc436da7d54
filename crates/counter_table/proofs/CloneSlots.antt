-- Slots that were cloned one by one.
use Rattle.std.proofs.Common.{◌%◌, ◌≡◌, ℕ, zero, suc, ◌≤◌, Bool, true, false, List, [], ◌∷◌, length, refl, ap, sym, ◌∙◌, subst, arith, Some}
use Rattle.std.specs.Prelude.{IsTrue}
use Rattle.std.specs.Cmp.{IsEquivalence}
use Rattle.std.specs.List.{AllByRecursion, AllZip, IsDistinct}
use Rattle.std.specs.Map.{keys_of}
use Rattle.std.proofs.lemmas.List.Sorted.{IsPermutation-refl}
use Rattle.std.proofs.lemmas.Slice.Zip.{AllZip-long}
use Rattle.counter_table.specs.declared.slot.Slot.{Slot}
use Rattle.counter_table.specs.declared.slot.Slot.TheVariants.{Free, Taken}
use Rattle.counter_table.specs.Homes.{ahead, distance, home_in}
use Rattle.counter_table.specs.Slots.{Held, entries_of, slot_at, is_taken, IsPlaced, IsSameSlot, IsSlots}
use Rattle.counter_table.specs.Tables.{IsSameEntry, IsSameMap}
use Rattle.std.proofs.lemmas.Map.Keys.{IsDistinct-head, IsDistinct-tail, IsDistinct-cons}

module _ {T : Type 0} (eq : T → T → Bool) where
  pub cloned_size : (slots clones : List (Slot T)) → AllZip (IsSameSlot eq) slots clones → length clones ≡ length slots
  cloned_size slots clones zip = AllZip-long (IsSameSlot eq) slots clones zip

  zip_entries : (slots clones : List (Slot T)) → AllZip (IsSameSlot eq) slots clones → AllZip (IsSameEntry eq) (entries_of slots) (entries_of clones)
  zip_entries [] [] h = tt
  zip_entries [] (p ∷ ps) h = absurd h
  zip_entries (o ∷ os) [] h = absurd h
  zip_entries (Free ∷ os) (Free ∷ ps) h = zip_entries os ps h.1
  zip_entries (Free ∷ os) (Taken e k y ∷ ps) h = absurd h.0
  zip_entries (Taken d n x ∷ os) (Free ∷ ps) h = absurd h.0
  zip_entries (Taken d n x ∷ os) (Taken e k y ∷ ps) h = ((h.0.2, h.0.1), zip_entries os ps h.1)

  -- an item equal to one that differs from all originals differs from all clones
  zip_apart : IsEquivalence eq → (x y : T) → eq x y ≡ true → (slots clones : List (Slot T)) → AllZip (IsSameSlot eq) slots clones → AllByRecursion (λ q. eq x q ≡ false) (keys_of (entries_of slots)) → AllByRecursion (λ q. eq y q ≡ false) (keys_of (entries_of clones))
  zip_apart laws x y same [] [] h all = tt
  zip_apart laws x y same [] (p ∷ ps) h all = absurd h
  zip_apart laws x y same (o ∷ os) [] h all = absurd h
  zip_apart laws x y same (Free ∷ os) (Free ∷ ps) h all = zip_apart laws x y same os ps h.1 all
  zip_apart laws x y same (Free ∷ os) (Taken e k q ∷ ps) h all = absurd h.0
  zip_apart laws x y same (Taken d n p ∷ os) (Free ∷ ps) h all = absurd h.0
  zip_apart laws x y same (Taken d n p ∷ os) (Taken e k q ∷ ps) h all =
      let here : eq x q ≡ false = laws.symm x q ∙ (sym (laws.congr p q x h.0.2) ∙ (laws.symm p x ∙ all.0)) in
      (sym (laws.congr x y q same) ∙ here, zip_apart laws x y same os ps h.1 all.1)

  zip_distinct : IsEquivalence eq → (slots clones : List (Slot T)) → AllZip (IsSameSlot eq) slots clones → IsDistinct eq (keys_of (entries_of slots)) → IsDistinct eq (keys_of (entries_of clones))
  zip_distinct laws [] [] h apart = apart
  zip_distinct laws [] (p ∷ ps) h apart = absurd h
  zip_distinct laws (o ∷ os) [] h apart = absurd h
  zip_distinct laws (Free ∷ os) (Free ∷ ps) h apart = zip_distinct laws os ps h.1 apart
  zip_distinct laws (Free ∷ os) (Taken e k y ∷ ps) h apart = absurd h.0
  zip_distinct laws (Taken d n x ∷ os) (Free ∷ ps) h apart = absurd h.0
  zip_distinct laws (Taken d n x ∷ os) (Taken e k y ∷ ps) h apart =
      IsDistinct-cons eq y _ (zip_apart laws x y h.0.2 os ps h.1 (IsDistinct-head eq x (keys_of (entries_of os)) apart)) (zip_distinct laws os ps h.1 (IsDistinct-tail eq x (keys_of (entries_of os)) apart))

  -- what a clone holds, its original does
  zip_held : (slots clones : List (Slot T)) → AllZip (IsSameSlot eq) slots clones → (k : ℕ) (s : Held T) → slot_at clones k ≡ Some s → (t : Held T) × (slot_at slots k ≡ Some t) × (eq t.item s.item ≡ true) × (s.drift ≡ t.drift)
  zip_held [] [] h k s e = cc
  zip_held [] (p ∷ ps) h k s e = absurd h
  zip_held (o ∷ os) [] h k s e = absurd h
  zip_held (Free ∷ os) (Free ∷ ps) h zero s e = cc
  zip_held (Free ∷ os) (Taken f n y ∷ ps) h zero s e = absurd h.0
  zip_held (Taken d n x ∷ os) (Free ∷ ps) h zero s e = absurd h.0
  zip_held (Taken d n x ∷ os) (Taken f m y ∷ ps) h zero s e =
      let t : Held T = record { item = x; count = n; drift = d } in
      let r : Held T = record { item = y; count = m; drift = f } in
      let both : Some r ≡ Some s = e in
      let same : r ≡ s = cc in
      (t, refl, ap (λ (q : Held T). eq x q.item) (sym same) ∙ h.0.2, ap (λ (q : Held T). q.drift) (sym same) ∙ h.0.0)
  zip_held (o ∷ os) (p ∷ ps) h (suc k) s e = zip_held os ps h.1 k s e

  zip_taken : (slots clones : List (Slot T)) → AllZip (IsSameSlot eq) slots clones → (k : ℕ) → is_taken clones k ≡ is_taken slots k
  zip_taken [] [] h k = refl
  zip_taken [] (p ∷ ps) h k = absurd h
  zip_taken (o ∷ os) [] h k = absurd h
  zip_taken (Free ∷ os) (Free ∷ ps) h zero = refl
  zip_taken (Free ∷ os) (Taken f n y ∷ ps) h zero = absurd h.0
  zip_taken (Taken d n x ∷ os) (Free ∷ ps) h zero = absurd h.0
  zip_taken (Taken d n x ∷ os) (Taken f m y ∷ ps) h zero = refl
  zip_taken (o ∷ os) (p ∷ ps) h (suc k) = zip_taken os ps h.1 k

  IsPlaced-clones : (home : T → ℕ) → ((x y : T) → eq x y ≡ true → home x ≡ home y) → (slots clones : List (Slot T)) → AllZip (IsSameSlot eq) slots clones → IsPlaced home slots → IsPlaced home clones
  IsPlaced-clones home respects slots clones zip placed =
      let n = length slots in
      let long = cloned_size slots clones zip in
      record {
        drift = λ k s e.
            let t = zip_held slots clones zip k s e in
            let same : home s.item ≡ home t.0.item = sym (respects t.0.item s.item t.2) in
            rw (long, same) (t.3 ∙ placed.drift k t.0 t.1);
        run = λ k s e j l.
            let t = zip_held slots clones zip k s e in
            let same : home s.item ≡ home t.0.item = sym (respects t.0.item s.item t.2) in
            let l' : j ≤ distance n (home t.0.item) k = rw (long, same) at l in
            rw (long, same) (zip_taken slots clones zip (ahead n (home t.0.item) j) ∙ placed.run k t.0 t.1 j l');
      }

  pub cloned_map : (slots clones : List (Slot T)) → AllZip (IsSameSlot eq) slots clones → IsSameMap eq (entries_of slots) (entries_of clones)
  cloned_map slots clones zip = record {
    order = entries_of slots;
    whole = IsPermutation-refl (entries_of slots);
    same = zip_entries slots clones zip;
  }

  pub cloned_length : (slots clones : List (Slot T)) → AllZip (IsSameSlot eq) slots clones → length (entries_of clones) ≡ length (entries_of slots)
  cloned_length slots clones zip = AllZip-long (IsSameEntry eq) (entries_of slots) (entries_of clones) (zip_entries slots clones zip)

  pub IsSlots-clones : IsEquivalence eq → (hashed : T → ℕ) → ((x y : T) → IsTrue (eq x y) → hashed x ≡ hashed y) → (slots clones : List (Slot T)) → AllZip (IsSameSlot eq) slots clones → IsSlots eq hashed slots → IsSlots eq hashed clones
  IsSlots-clones laws hashed respects slots clones zip ok =
      let long = cloned_size slots clones zip in
      let P : ℕ → Type 0 = λ n. IsPlaced (home_in hashed n) clones in
      record {
        distinct = zip_distinct laws slots clones zip ok.distinct;
        placed = subst P (sym long) (IsPlaced-clones (home_in hashed (length slots)) (λ x y t. ap (λ f. f % length slots) (respects x y t)) slots clones zip ok.placed);
        room = omega (arith, long, cloned_length slots clones zip, ok.room);
        size = rw long ok.size;
      }
