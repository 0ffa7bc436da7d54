-- A write to the slot where a look-up ended.
use Rattle.std.proofs.Common.{◌≡◌, ℕ, zero, suc, ◌+◌, ◌-◌, ◌<◌, ◌≤◌, Bool, true, false, inl, inr, ap, sym, ◌∙◌, subst, arith, List, [], ◌∷◌, ◌++◌, length, get_or, Option, Some, is_some, IsPermutation}
use Rattle.std.specs.Cmp.{IsEquivalence}
use Rattle.std.specs.List.{IsDistinct}
use Rattle.std.specs.Prelude.{IsTrue}
use Rattle.std.specs.Map.{keys_of}
use Rattle.std.proofs.Math.ListN.{set}
use Rattle.std.proofs.lemmas.List.{get_or_default, length-set}
use Rattle.std.proofs.lemmas.List.Sorted.{IsPermutation-refl, IsPermutation-to_front, IsPermutation-cons, IsPermutation-map, length_permutation}
use Rattle.std.proofs.lemmas.Bool.{cases_eq, false≢true, both_ways, false_from_ne_true}
use Rattle.std.proofs.lemmas.Map.Keys.{IsDistinct-head, IsDistinct-tail, IsDistinct-IsPermutation}
use Rattle.counter_table.specs.Tables.{is_tracked, put}
use Rattle.counter_table.proofs.InsertionPuts.{put_new, distinct_tracked, distinct_new, length_tracked, length_new}
use Rattle.counter_table.specs.declared.slot.Slot.{Slot}
use Rattle.counter_table.specs.declared.slot.Slot.TheVariants.{Free, Taken}
use Rattle.counter_table.specs.Homes.{home_in, ahead, distance}
use Rattle.counter_table.specs.Slots.{Held, held, taken, entries_of, slot_at, is_taken, AddsAt, IsPlaced, IsSlots}
use Rattle.counter_table.specs.Probes.{IsFreeSlot, IsProbe}
use Rattle.counter_table.proofs.ArithmeticRing.{ahead-distance, distance-ahead}
use Rattle.counter_table.proofs.LookupHomes.{some_size, remainder_below}
use Rattle.counter_table.proofs.LookupReach.{is_taken-below, slot_at-set_same, slot_at-set_other}
use Rattle.counter_table.proofs.LookupProbes.{differs, free_slot_below, lookup_slot}

-- ---- a slot that was read
pub slot_read : {T : Type 0} (slots : List (Slot T)) (k : ℕ) (o d : Slot T) → k < length slots → o ≡ get_or slots k d → slot_at slots k ≡ held o
slot_read slots k o d l is = ap held (get_or_default slots k Free d l ∙ sym is)

-- ---- the entries
put_hit : {T : Type 0} {eq : T → T → Bool} → IsEquivalence eq → (slots : List (Slot T)) (x : T) (w k : ℕ) (s : Held T) → IsDistinct eq (keys_of (entries_of slots)) → slot_at slots k ≡ Some s → eq x s.item ≡ true →
    entries_of (set slots k (Taken s.drift (s.count + w) s.item)) ≡ put eq (entries_of slots) x w
put_hit {eq = eq} laws [] x w k s d e t = cc
put_hit {eq = eq} laws (Free ∷ os) x w zero s d e t = cc
put_hit {eq = eq} laws (Free ∷ os) x w (suc k) s d e t = put_hit laws os x w k s d e t
put_hit {T} {eq} laws (Taken f n y ∷ os) x w zero s d e t =
    let r : Held T = record { item = y; count = n; drift = f } in
    let both : Some r ≡ Some s = e in
    let same : r ≡ s = cc in
    let hit : eq x y ≡ true = ap (λ (q : Held T). eq x q.item) same ∙ t in
    rw hit (ap (λ (q : Held T). (q.item, q.count + w) ∷ entries_of os) (sym same))
put_hit {eq = eq} laws (Taken g n y ∷ os) x w (suc k) s d e t =
    let apart : eq y s.item ≡ false = differs eq os y k s (IsDistinct-head eq y (keys_of (entries_of os)) d) e in
    let miss : eq x y ≡ false = false_from_ne_true _ (λ h. both_ways _ apart (sym (laws.congr x y s.item h) ∙ t)) in
    rw miss (ap (λ l. (y, n) ∷ l) (put_hit laws os x w k s (IsDistinct-tail eq y (keys_of (entries_of os)) d) e t))

pub put_miss : {T : Type 0} (slots : List (Slot T)) (k : ℕ) (s : Held T) → k < length slots → is_taken slots k ≡ false → IsPermutation (entries_of slots ++ (s.item, s.count) ∷ []) (entries_of (set slots k (taken s)))
put_miss [] k s l f = absurd (omega arith)
put_miss (Free ∷ os) zero s l f = IsPermutation-to_front (entries_of os) (s.item, s.count)
put_miss (Free ∷ os) (suc k) s l f = put_miss os k s (omega arith) f
put_miss (Taken d n y ∷ os) zero s l f = absurd (false≢true (sym f))
put_miss (Taken d n y ∷ os) (suc k) s l f = IsPermutation-cons (y, n) _ _ (put_miss os k s (omega arith) f)

-- ---- the indices
-- what is taken stays so
taken_still : {T : Type 0} (slots : List (Slot T)) (k j : ℕ) (s : Held T) → is_taken slots j ≡ true → is_taken (set slots k (taken s)) j ≡ true
taken_still slots k j s t = elim (cases_eq j k) [
  | inl e ↦ ap (is_taken (set slots k (taken s))) e ∙ ap is_some (slot_at-set_same slots k (taken s) (rw (← e) (is_taken-below slots j t)))
  | inr n ↦ ap is_some (slot_at-set_other slots k j (taken s) n) ∙ t
]

-- a slot that stood where it may, at k
pub record Stands {T : Type 0} (home : T → ℕ) (slots : List (Slot T)) (k : ℕ) (s : Held T) : Type 0 where
  pub below : k < length slots
  pub drift : s.drift ≡ distance (length slots) (home s.item) k + 1
  pub run : (j : ℕ) → j < distance (length slots) (home s.item) k → is_taken slots (ahead (length slots) (home s.item) j) ≡ true
  pub home_below : home s.item < length slots

IsPlaced-set : {T : Type 0} (home : T → ℕ) (slots : List (Slot T)) (k : ℕ) (s : Held T) → IsPlaced home slots → Stands home slots k s → IsPlaced home (set slots k (taken s))
IsPlaced-set home slots k s p at =
    let n = length slots in
    record {
      drift = λ j t e. rw (length-set slots k (taken s)) (elim (cases_eq j k) [
        | inl same ↦
            let both : Some t ≡ Some s = sym e ∙ ap (slot_at (set slots k (taken s))) same ∙ slot_at-set_same slots k (taken s) at.below in
            let one : t ≡ s = cc in
            rw (one, same) at.drift
        | inr other ↦ p.drift j t (sym (slot_at-set_other slots k j (taken s) other) ∙ e)
      ]);
      run = λ j t e i l. rw (length-set slots k (taken s)) (elim (cases_eq j k) [
        | inl same ↦
            let both : Some t ≡ Some s = sym e ∙ ap (slot_at (set slots k (taken s))) same ∙ slot_at-set_same slots k (taken s) at.below in
            let one : t ≡ s = cc in
            let l' : i ≤ distance n (home s.item) k = rw (length-set slots k (taken s), one, same) at l in
            rw one (elim (cases_eq i (distance n (home s.item) k)) [
              | inl end ↦ ap (λ q. is_taken (set slots k (taken s)) (ahead n (home s.item) q)) end ∙ ap (is_taken (set slots k (taken s))) (ahead-distance n (home s.item) k at.home_below at.below) ∙ ap is_some (slot_at-set_same slots k (taken s) at.below)
              | inr mid ↦ taken_still slots k _ s (at.run i (omega arith))
            ])
        | inr other ↦
            let l' : i ≤ distance n (home t.item) j = rw (length-set slots k (taken s)) at l in
            taken_still slots k _ s (p.run j t (sym (slot_at-set_other slots k j (taken s) other) ∙ e) i l')
      ]);
    }

-- ---- the slots after the write
pub record Wrote {T : Type 0} (eq : T → T → Bool) (hashed : T → ℕ) (old : List (Slot T)) (x : T) (w : ℕ) (new : List (Slot T)) : Type 0 where
  pub slots_ok : IsSlots eq hashed new
  pub entries : IsPermutation (put eq (entries_of old) x w) (entries_of new)

-- to the item's own slot
wrote_hit : {T : Type 0} {eq : T → T → Bool} → IsEquivalence eq → (hashed : T → ℕ) (slots : List (Slot T)) → IsSlots eq hashed slots →
    (x : T) (w k : ℕ) (s : Held T) → slot_at slots k ≡ Some s → eq x s.item ≡ true → (new : List (Slot T)) → new ≡ set slots k (Taken s.drift (s.count + w) s.item) → Wrote eq hashed slots x w new
wrote_hit {T} {eq} laws hashed slots ok x w k s e t new is =
    let n = length slots in
    let v : Held T = record { item = s.item; count = s.count + w; drift = s.drift } in
    let long = length-set slots k (taken v) in
    let home : T → ℕ = home_in hashed n in
    let put_is = put_hit laws slots x w k s ok.distinct e t in
    let there : is_tracked eq (entries_of slots) x ≡ true = ap is_some (lookup_slot (eq x) (laws.congr x) slots k s ok.distinct e t) in
    let P : ℕ → Type 0 = λ m. IsPlaced (home_in hashed m) (set slots k (taken v)) in
    let at : Stands home slots k v = record {
      below = is_taken-below slots k (ap is_some e);
      drift = ok.placed.drift k s e;
      run = λ j l. ok.placed.run k s e j (omega arith);
      home_below = remainder_below _ n (some_size n ok.size);
    } in
    rw is (record {
      slots_ok = record {
        distinct = rw put_is (distinct_tracked eq (entries_of slots) x w there ok.distinct);
        placed = subst P (sym long) (IsPlaced-set home slots k v ok.placed at);
        room = rw (long, put_is) (omega (arith, length_tracked eq (entries_of slots) x w there, ok.room));
        size = rw long ok.size;
      };
      entries = rw put_is (IsPermutation-refl _);
    })

-- and so by an amount that is added where a look-up found it, whichever item is named
pub wrote_by_key : {T : Type 0} {eq : T → T → Bool} → IsEquivalence eq → {hashed : T → ℕ} {slots : List (Slot T)} → IsSlots eq hashed slots → {names : T → Bool} → ((x y : T) → IsTrue (names x) → names y ≡ eq x y) → {h index c probed : ℕ} {found : Option ℕ}
    → IsProbe names h slots index found probed → found ≡ Some c → (w : ℕ) {new : List (Slot T)} → AddsAt slots index w new → (x : T) → IsTrue (names x) → Wrote eq hashed slots x w new
wrote_by_key laws {hashed} {slots} ok alike {index = index} p hit w {new} adds x is =
    let here = p.here _ hit in
    wrote_hit laws hashed slots ok x w index here.0 here.1 (sym (alike x here.0.item is) ∙ here.3) new (adds here.0 here.1)

-- and so where it found the item
pub wrote_found : {T : Type 0} {eq : T → T → Bool} → IsEquivalence eq → {hashed : T → ℕ} {slots : List (Slot T)} → IsSlots eq hashed slots → {x : T} {h index c probed : ℕ} {found : Option ℕ}
    → IsProbe (eq x) h slots index found probed → found ≡ Some c → (w : ℕ) {new : List (Slot T)} → AddsAt slots index w new → Wrote eq hashed slots x w new
wrote_found {eq = eq} laws ok {x} p hit w adds = wrote_by_key laws ok (laws.congr x) p hit w adds x (laws.refl x)

-- to the first free slot
pub wrote_free_slot : {T : Type 0} {eq : T → T → Bool} → IsEquivalence eq → (hashed : T → ℕ) (slots : List (Slot T)) → IsSlots eq hashed slots →
    (x : T) (w k probed : ℕ) → is_tracked eq (entries_of slots) x ≡ false → length (entries_of slots) + 1 < length slots → IsFreeSlot (home_in hashed (length slots) x) slots k probed → (new : List (Slot T)) → new ≡ set slots k (Taken probed w x) → Wrote eq hashed slots x w new
wrote_free_slot {T} {eq} laws hashed slots ok x w k probed absent room p new is =
    let n = length slots in
    let v : Held T = record { item = x; count = w; drift = probed } in
    let long = length-set slots k (taken v) in
    let home : T → ℕ = home_in hashed n in
    let h = home x in
    let home_below : h < n = remainder_below _ n (some_size n ok.size) in
    let below = free_slot_below home_below p in
    let put_is = put_new eq (entries_of slots) x w absent in
    let moved : IsPermutation (put eq (entries_of slots) x w) (entries_of (set slots k (taken v))) = rw put_is (put_miss slots k v below p.free) in
    let far : distance n h k ≡ probed - 1 = ap (distance n h) p.index_is ∙ distance-ahead n h (probed - 1) home_below (omega (arith, p.short, p.some)) in
    let P : ℕ → Type 0 = λ m. IsPlaced (home_in hashed m) (set slots k (taken v)) in
    let at : Stands home slots k v = record {
      below = below;
      drift = omega (arith, far, p.some);
      run = λ j l. p.taken j (omega (arith, far));
      home_below = home_below;
    } in
    rw is (record {
      slots_ok = record {
        distinct = IsDistinct-IsPermutation eq laws.symm _ _ (IsPermutation-map (λ e. e.0) _ _ moved) (distinct_new laws (entries_of slots) x w absent ok.distinct);
        placed = subst P (sym long) (IsPlaced-set home slots k v ok.placed at);
        room = rw long (omega (arith, length_new eq (entries_of slots) x w absent, length_permutation _ _ moved, room));
        size = rw long ok.size;
      };
      entries = moved;
    })
