-- What a look-up's indices say of the map.
use Rattle.std.proofs.Common.{◌%◌, ◌≡◌, ℕ, zero, suc, ◌+◌, ◌-◌, ◌<◌, ◌≤◌, Bool, true, false, inl, inr, refl, ap, sym, ◌∙◌, subst, arith, List, [], ◌∷◌, length, Option, Some, None, is_some, unwrap_or, ◌^◌}
use Rattle.std.specs.Cmp.{IsEquivalence}
use Rattle.std.specs.List.{IsDistinct, AllByRecursion}
use Rattle.std.specs.Map.{lookup, keys_of}
use Rattle.std.proofs.lemmas.Bool.{cases_lt, cases_eq, false≢true, both_ways, false_from_ne_true}
use Rattle.std.proofs.lemmas.Map.Keys.{IsDistinct-head, IsDistinct-tail}
use Rattle.counter_table.specs.declared.slot.Slot.{Slot}
use Rattle.counter_table.specs.declared.slot.Slot.TheVariants.{Free, Taken}
use Rattle.counter_table.specs.Homes.{home_in, ahead, distance, IsReach, IsShortOfReach}
use Rattle.std.specs.Prelude.{IsTrue}
use Rattle.counter_table.specs.Tables.{Table, is_tracked}
use Rattle.std.specs.List.{concat}
use Rattle.counter_table.specs.declared.table_key.TableKey.{TableKey}
use Rattle.counter_table.specs.TableHashes.{hash_of, hash_in}
use Rattle.counter_table.proofs.LookupHomes.{some_size, remainder_below}
use Rattle.counter_table.specs.Keys.{IsKey}
use Rattle.counter_table.specs.Slots.{Held, entries_of, table_of, KeyedSlots, slot_at, is_taken, CountHasRoom, IsPlaced, IsSlots}
use Rattle.counter_table.specs.Probes.{IsPassed, IsProbe, IsFreeSlot, IsCountAt}
use Rattle.counter_table.proofs.ArithmeticRing.{ahead_is, ahead-distance, distance-ahead}
use Rattle.counter_table.proofs.LookupReach.{HasFree, free_from_few, is_taken-below, taken_slot, taken_few, taken_within, IsReach-from_free, reach_above}
use Rattle.counter_table.proofs.TableHashing.{hashes_alike, hashed_as_named}

-- ---- a look-up goes on
pub IsPassed-none : {T : Type 0} (names : T → Bool) (h : ℕ) (slots : List (Slot T)) → IsPassed names h slots 0
IsPassed-none names h slots = record { taken = λ j l. absurd (omega arith); apart = λ j s l. absurd (omega arith) }

pub IsPassed-more : {T : Type 0} {names : T → Bool} {h : ℕ} {slots : List (Slot T)} {n : ℕ} → IsPassed names h slots n → (s : Held T) → slot_at slots (ahead (length slots) h n) ≡ Some s → names s.item ≡ false → IsPassed names h slots (n + 1)
IsPassed-more {T} {names} {h} {slots} {n} p s e f = record {
  taken = λ j l. elim (cases_eq j n) [
    | inl same ↦ ap (λ i. is_taken slots (ahead (length slots) h i)) same ∙ ap is_some e
    | inr other ↦ p.taken j (omega arith)
  ];
  apart = λ j t l at. elim (cases_eq j n) [
    | inl same ↦
        let both : Some t ≡ Some s = sym at ∙ ap (λ i. slot_at slots (ahead (length slots) h i)) same ∙ e in
        let one : t ≡ s = cc in
        ap (λ r. names r.item) one ∙ f
    | inr other ↦ p.apart j t (omega arith) at
  ];
}

pub IsPassed-below : {T : Type 0} {names : T → Bool} {h : ℕ} {slots : List (Slot T)} {n : ℕ} → h < length slots → HasFree slots → IsPassed names h slots n → n < length slots
IsPassed-below {T} {names} {h} {slots} {n} l free_slot p = taken_few slots h n l free_slot p.taken

not_some : (o : Option ℕ) → is_some o ≡ false → o ≡ None
not_some None h = refl
not_some (Some v) h = absurd (false≢true (sym h))

-- a look-up goes on, where a taken slot does not hold a named item
pub IsPassed-on : {T : Type 0} {names : T → Bool} {h : ℕ} {slots : List (Slot T)} {n : ℕ} → IsPassed names h slots n → (index : ℕ) (found : Option ℕ) → index ≡ ahead (length slots) h n → is_taken slots index ≡ true → IsCountAt names slots index found → is_some found ≡ false → IsPassed names h slots (n + 1)
IsPassed-on {T} {names} {h} {slots} {n} p index found at some count none =
    let s = taken_slot (slot_at slots index) some in
    IsPassed-more p s.0 (ap (slot_at slots) (sym at) ∙ s.1) (count.other (not_some found none) s.0 s.1)

-- a look-up ends at a slot of a named item, or at a free one
pub IsProbe-ends : {T : Type 0} {names : T → Bool} {h : ℕ} {slots : List (Slot T)} {n : ℕ} → IsPassed names h slots n → n < length slots → (index probed : ℕ) (found : Option ℕ) → index ≡ ahead (length slots) h n → probed ≡ n + 1 →
    ((c : ℕ) → found ≡ Some c → (s : Held T) × (slot_at slots index ≡ Some s) × (s.count ≡ c) × (names s.item ≡ true)) → (found ≡ None → is_taken slots index ≡ false) → IsProbe names h slots index found probed
IsProbe-ends {T} {names} {h} {slots} {n} p l index probed found at count here free =
    let same : n ≡ probed - 1 = omega (arith, count) in
    record {
      some = omega (arith, count);
      short = omega (arith, count);
      index_is = at ∙ ap (ahead (length slots) h) same;
      passed = rw (← same) p;
      here = here;
      free = free;
    }

-- at one that holds a named item
pub IsProbe-found : {T : Type 0} {names : T → Bool} {h : ℕ} {slots : List (Slot T)} {n : ℕ} → IsPassed names h slots n → n < length slots → (index probed : ℕ) (found : Option ℕ) → index ≡ ahead (length slots) h n → probed ≡ n + 1 → IsCountAt names slots index found → is_some found ≡ true → IsProbe names h slots index found probed
IsProbe-found p l index probed found at count is there = IsProbe-ends p l index probed found at count is.here (λ none. absurd (false≢true (sym (ap is_some none) ∙ there)))

-- at a free one
pub IsProbe-free : {T : Type 0} {names : T → Bool} {h : ℕ} {slots : List (Slot T)} {n : ℕ} → IsPassed names h slots n → n < length slots → (index probed : ℕ) → index ≡ ahead (length slots) h n → probed ≡ n + 1 → is_taken slots index ≡ false → IsProbe names h slots index None probed
IsProbe-free p l index probed at count free = IsProbe-ends p l index probed None at count (λ c e. cc) (λ _. free)

-- ---- the count in a slot
pub IsCountAt-found : {T : Type 0} (names : T → Bool) (slots : List (Slot T)) (index : ℕ) (s : Held T) → slot_at slots index ≡ Some s → names s.item ≡ true → IsCountAt names slots index (Some s.count)
IsCountAt-found names slots index s e t = record { here = λ c f. (s, e, cc, t); other = λ f. cc }

pub IsCountAt-other : {T : Type 0} (names : T → Bool) (slots : List (Slot T)) (index : ℕ) → ((s : Held T) → slot_at slots index ≡ Some s → names s.item ≡ false) → IsCountAt names slots index None
IsCountAt-other names slots index f = record { here = λ c e. cc; other = λ _. f }

-- ---- the entries, by the slots
lookup_absent : {T : Type 0} (names : T → Bool) (slots : List (Slot T)) → ((k : ℕ) (s : Held T) → slot_at slots k ≡ Some s → names s.item ≡ false) → lookup names (entries_of slots) ≡ None
lookup_absent names [] h = refl
lookup_absent names (Free ∷ os) h = lookup_absent names os (λ k s e. h (suc k) s e)
lookup_absent names (Taken d n y ∷ os) h = rw (h 0 (record { item = y; count = n; drift = d }) refl) (lookup_absent names os (λ k s e. h (suc k) s e))

-- a key that differs from all keys differs from the one in a slot
pub differs : {T : Type 0} (eq : T → T → Bool) (slots : List (Slot T)) (x : T) (k : ℕ) (s : Held T) → AllByRecursion (λ y. eq x y ≡ false) (keys_of (entries_of slots)) → slot_at slots k ≡ Some s → eq x s.item ≡ false
differs eq [] x k s h e = cc
differs eq (Free ∷ os) x zero s h e = cc
differs eq (Free ∷ os) x (suc k) s h e = differs eq os x k s h e
differs {T} eq (Taken d n y ∷ os) x zero s h e =
    let t : Held T = record { item = y; count = n; drift = d } in
    let both : Some t ≡ Some s = e in
    let same : t ≡ s = cc in
    ap (λ (r : Held T). eq x r.item) (sym same) ∙ h.0
differs eq (Taken d n y ∷ os) x (suc k) s h e = differs eq os x k s h.1 e

pub lookup_slot : {T : Type 0} {eq : T → T → Bool} (names : T → Bool) → ((x y : T) → IsTrue (names x) → names y ≡ eq x y) → (slots : List (Slot T)) (k : ℕ) (s : Held T) → IsDistinct eq (keys_of (entries_of slots)) → slot_at slots k ≡ Some s → names s.item ≡ true → lookup names (entries_of slots) ≡ Some s.count
lookup_slot names alike [] k s d e t = cc
lookup_slot names alike (Free ∷ os) zero s d e t = cc
lookup_slot names alike (Free ∷ os) (suc k) s d e t = lookup_slot names alike os k s d e t
lookup_slot {T} {eq} names alike (Taken f n y ∷ os) zero s d e t =
    let r : Held T = record { item = y; count = n; drift = f } in
    let both : Some r ≡ Some s = e in
    let same : r ≡ s = cc in
    let hit : names y ≡ true = ap (λ (q : Held T). names q.item) same ∙ t in
    rw hit (ap (λ (q : Held T). Some q.count) same)
lookup_slot {eq = eq} names alike (Taken f n y ∷ os) (suc k) s d e t =
    let apart : eq y s.item ≡ false = differs eq os y k s (IsDistinct-head eq y (keys_of (entries_of os)) d) e in
    let miss : names y ≡ false = false_from_ne_true _ (λ h. both_ways _ apart (sym (alike y s.item h) ∙ t)) in
    rw miss (lookup_slot names alike os k s (IsDistinct-tail eq y (keys_of (entries_of os)) d) e t)

-- ---- the answer of a look-up
nowhere : {T : Type 0} (names : T → Bool) (home : T → ℕ) (h : ℕ) (slots : List (Slot T)) → h < length slots → IsPlaced home slots → (index probed : ℕ) → ((y : T) → names y ≡ true → h ≡ home y) → IsProbe names h slots index None probed → (k : ℕ) (s : Held T) → slot_at slots k ≡ Some s → names s.item ≡ false
nowhere names home h slots below placed index probed respects p k s e =
    let n = length slots in
    false_from_ne_true _ (λ t.
    let same = respects s.item t in
    let l : k < n = is_taken-below slots k (ap is_some e) in
    elim (cases_lt (distance n h k) (probed - 1)) [
      | inl a ↦ both_ways _ (p.passed.apart (distance n h k) s a (ap (slot_at slots) (ahead-distance n h k below l) ∙ e)) t
      | inr b ↦
          let at : is_taken slots (ahead n (home s.item) (probed - 1)) ≡ true = placed.run k s e (probed - 1) (rw same at b) in
          both_ways _ (ap (is_taken slots) (sym p.index_is) ∙ p.free refl) (ap (λ q. is_taken slots (ahead n q (probed - 1))) same ∙ at)
    ])

lookup_found : {T : Type 0} {eq : T → T → Bool} (names : T → Bool) → ((x y : T) → IsTrue (names x) → names y ≡ eq x y) → (home : T → ℕ) (h : ℕ) (slots : List (Slot T)) → h < length slots → IsPlaced home slots → IsDistinct eq (keys_of (entries_of slots)) → (index probed : ℕ) (found : Option ℕ) → ((y : T) → names y ≡ true → h ≡ home y) → IsProbe names h slots index found probed → lookup names (entries_of slots) ≡ found
lookup_found names alike home h slots below placed d index probed None respects p = lookup_absent names slots (nowhere names home h slots below placed index probed respects p)
lookup_found names alike home h slots below placed d index probed (Some c) respects p =
    let w = p.here c refl in
    lookup_slot names alike slots index w.0 d w.1 w.3 ∙ ap Some w.2

-- where x is absent, all of its reach was looked at
pub reach_absent : {T : Type 0} {key : TableKey} {purges : ℕ} (names : T → Bool) (home : T → ℕ) (slots : List (Slot T)) → ((x : T) → home x < length slots) → IsPlaced home slots → HasFree slots → (x : T) (index probed : ℕ) → IsProbe names (home x) slots index None probed → IsReach home (table_of key purges slots) x probed
reach_absent names home slots below placed free_slot x index probed p =
    IsReach-from_free home slots below placed free_slot x probed p.some p.short (λ j l. p.passed.taken j (omega arith)) (ap (is_taken slots) (sym p.index_is) ∙ p.free refl)

-- where x is present, less
pub reach_present : {T : Type 0} {key : TableKey} {purges : ℕ} (names : T → Bool) (home : T → ℕ) (slots : List (Slot T)) → ((x : T) → home x < length slots) → IsPlaced home slots → HasFree slots → (x : T) (index probed c : ℕ) → IsProbe names (home x) slots index (Some c) probed → IsShortOfReach home (table_of key purges slots) x probed
reach_present names home slots below placed free_slot x index probed c p =
    let w = p.here c refl in
    let taken : (j : ℕ) → j < probed → is_taken slots (ahead (length slots) (home x) j) ≡ true = λ j l. elim (cases_eq j (probed - 1)) [
      | inl same ↦ ap (λ i. is_taken slots (ahead (length slots) (home x) i)) same ∙ ap (is_taken slots) (sym p.index_is) ∙ ap is_some w.1
      | inr other ↦ p.passed.taken j (omega (arith, p.some))
    ] in
    let r = reach_above home slots below placed free_slot x probed taken in
    record { some = p.some; reach = r.0; is_reach = r.1; less = r.2 }

reach_if_absent : {T : Type 0} {key : TableKey} {purges : ℕ} (names : T → Bool) (home : T → ℕ) (slots : List (Slot T)) → ((x : T) → home x < length slots) → IsPlaced home slots → HasFree slots → (x : T) (index probed : ℕ) (found : Option ℕ) → is_some found ≡ false → IsProbe names (home x) slots index found probed → IsReach home (table_of key purges slots) x probed
reach_if_absent names home slots below placed free_slot x index probed None f p = reach_absent names home slots below placed free_slot x index probed p
reach_if_absent names home slots below placed free_slot x index probed (Some c) f p = absurd (false≢true (sym f))

reach_if_present : {T : Type 0} {key : TableKey} {purges : ℕ} (names : T → Bool) (home : T → ℕ) (slots : List (Slot T)) → ((x : T) → home x < length slots) → IsPlaced home slots → HasFree slots → (x : T) (index probed : ℕ) (found : Option ℕ) → is_some found ≡ true → IsProbe names (home x) slots index found probed → IsShortOfReach home (table_of key purges slots) x probed
reach_if_present names home slots below placed free_slot x index probed None t p = absurd (false≢true t)
reach_if_present names home slots below placed free_slot x index probed (Some c) t p = reach_present names home slots below placed free_slot x index probed c p

-- each slot that was looked at but the last holds an entry
few_probed : {T : Type 0} {names : T → Bool} {h : ℕ} {slots : List (Slot T)} {index : ℕ} {found : Option ℕ} {probed : ℕ} → h < length slots → IsProbe names h slots index found probed → probed ≤ length (entries_of slots) + 1
few_probed {T} {names} {h} {slots} {index} {found} {probed} l p = omega (arith, p.some, taken_within slots h (probed - 1) l (omega (arith, p.some, p.short)) p.passed.taken)

-- ---- a look-up in the slots of a table
pub record Answers {T : Type 0} (eq : T → T → Bool) (hashed : T → ℕ) (table : Table T) (x : T) (found : Option ℕ) (probed : ℕ) : Type 0 where
  pub looked_up : lookup (eq x) table.entries ≡ found
  pub absent : is_tracked eq table.entries x ≡ false → IsReach (home_in hashed table.size) table x probed
  pub present : is_tracked eq table.entries x ≡ true → IsShortOfReach (home_in hashed table.size) table x probed
  pub few : probed ≤ length table.entries + 1
  pub within : probed ≤ table.size

pub answers : {T : Type 0} {key : TableKey} {purges : ℕ} {eq : T → T → Bool} → IsEquivalence eq → {hashed : T → ℕ} → ((x y : T) → IsTrue (eq x y) → hashed x ≡ hashed y) → (slots : List (Slot T)) → IsSlots eq hashed slots →
    (x : T) (index : ℕ) (found : Option ℕ) (probed : ℕ) → IsProbe (eq x) (home_in hashed (length slots) x) slots index found probed → Answers eq hashed (table_of key purges slots) x found probed
answers {T} {eq} laws {hashed} respects slots s x index found probed p =
    let n = length slots in
    let home : T → ℕ = home_in hashed n in
    let below : (y : T) → home y < n = λ y. remainder_below _ n (some_size n s.size) in
    let free_slot = free_from_few slots s.room in
    let up = lookup_found (eq x) (laws.congr x) home (home x) slots (below x) s.placed s.distinct index probed found (λ y t. ap (λ f. f % n) (respects x y t)) p in
    let tracked = ap is_some up in
    record {
      looked_up = up;
      absent = λ f. reach_if_absent (eq x) home slots below s.placed free_slot x index probed found (sym tracked ∙ f) p;
      present = λ t. reach_if_present (eq x) home slots below s.placed free_slot x index probed found (sym tracked ∙ t) p;
      few = few_probed (below x) p;
      within = p.short;
    }

-- of a table under a view
pub answers_of : {T : Type 0} {purges : ℕ} {eq : T → T → Bool} → IsEquivalence eq → {input : T → List (List ℕ)} → ((x y : T) → IsTrue (eq x y) → input x ≡ input y) → (of : KeyedSlots T) → IsSlots eq (hash_in of.key input) of.slots → (table : Table T) → table_of of.key purges of.slots ≡ table →
    (x : T) (index : ℕ) (found : Option ℕ) (probed : ℕ) → IsProbe (eq x) (home_in (hash_in of.key input) (length of.slots) x) of.slots index found probed → Answers eq (hash_in table.key input) table x found probed
answers_of {T} {eq} laws {input} respects of s table view x index found probed p =
    let P : Table T → Type 0 = λ t. Answers eq (hash_in t.key input) t x found probed in
    subst P view (answers laws (hashes_alike of.key respects) of.slots s x index found probed p)

-- ---- a look-up by a key
pub key_found : {T : Type 0} {eq : T → T → Bool} {hashed : T → ℕ} {names : T → Bool} {fed : ℕ} → IsKey eq hashed names fed → (slots : List (Slot T)) → IsSlots eq hashed slots →
    (index : ℕ) (found : Option ℕ) (probed : ℕ) → IsProbe names (fed % length slots) slots index found probed → lookup names (entries_of slots) ≡ found
key_found {T} {eq} {hashed} {names} {fed} key slots s index found probed p =
    let n = length slots in
    let home : T → ℕ = home_in hashed n in
    lookup_found names key.alike home ((fed % n)) slots (remainder_below _ n (some_size n s.size)) s.placed s.distinct index probed found (λ y t. ap (λ f. f % n) (key.same_hash y t)) p

-- in a table under a view
pub key_found_of : {T : Type 0} {purges : ℕ} {eq : T → T → Bool} (input : T → List (List ℕ)) {names : T → Bool} {fed : List ℕ} → ((x : T) → IsTrue (names x) → fed ≡ concat (input x)) → ((x y : T) → IsTrue (names x) → names y ≡ eq x y) → (of : KeyedSlots T) → IsSlots eq (hash_in of.key input) of.slots → (table : Table T) → table_of of.key purges of.slots ≡ table →
    (index : ℕ) (found : Option ℕ) (probed : ℕ) → IsProbe names (hash_of of.key fed % length of.slots) of.slots index found probed → lookup names table.entries ≡ found
key_found_of {T} input {names = names} respects alike of s table view index found probed p =
    ap (λ t. lookup names t.entries) (sym view) ∙ key_found (record { same_hash = hashed_as_named input of.key respects; alike = alike }) of.slots s index found probed p

-- ---- where it ended
pub probe_below : {T : Type 0} {names : T → Bool} {h : ℕ} {slots : List (Slot T)} {index : ℕ} {found : Option ℕ} {probed : ℕ} → h < length slots → IsProbe names h slots index found probed → index < length slots
probe_below {T} {names} {h} {slots} {index} {found} {probed} l p = let a = ahead_is (length slots) h (probed - 1) l (omega (arith, p.short)) in omega (arith, p.index_is, a.below)

pub free_slot_below : {T : Type 0} {h : ℕ} {slots : List (Slot T)} {index probed : ℕ} → h < length slots → IsFreeSlot h slots index probed → index < length slots
free_slot_below {T} {h} {slots} {index} {probed} l p = let a = ahead_is (length slots) h (probed - 1) l (omega (arith, p.short)) in omega (arith, p.index_is, a.below)

-- where the item is absent, at the first free slot
pub free_slot_from_probe : {T : Type 0} {names : T → Bool} {h : ℕ} {slots : List (Slot T)} {index : ℕ} {found : Option ℕ} {probed : ℕ} → found ≡ None → IsProbe names h slots index found probed → IsFreeSlot h slots index probed
free_slot_from_probe none p = record {
  some = p.some;
  short = p.short;
  index_is = p.index_is;
  taken = λ j l. p.passed.taken j (omega (arith, p.some));
  free = p.free none;
}

-- where it is present, its slot has its count
pub fits_from_probe : {T : Type 0} {names : T → Bool} {h : ℕ} {slots : List (Slot T)} {index c : ℕ} {found : Option ℕ} {probed : ℕ} → IsProbe names h slots index found probed → found ≡ Some c → lookup names (entries_of slots) ≡ found → (w : ℕ) → (is_some (lookup names (entries_of slots)) ≡ true → unwrap_or (lookup names (entries_of slots)) 0 + w < 2 ^ 64) → CountHasRoom slots index w
fits_from_probe {T} {names} {h} {slots} {index} {c} {found} {probed} p hit up w fits s at =
    let here = p.here c hit in
    let both : Some s ≡ Some here.0 = sym at ∙ here.1 in
    let one : s ≡ here.0 = cc in
    let count : s.count ≡ c = ap (λ (q : Held T). q.count) one ∙ here.2 in
    let known : unwrap_or (lookup names (entries_of slots)) 0 ≡ c = ap (λ o. unwrap_or o 0) (up ∙ hit) in
    omega (arith, count, known, fits (ap is_some (up ∙ hit)))

-- a named item's drift is the number of slots that a look-up has probed when it comes to it
pub drift_of_named : {T : Type 0} {hashed : T → ℕ} {names : T → Bool} {named : ℕ} → ((x : T) → IsTrue (names x) → named ≡ hashed x) → (slots : List (Slot T)) → IsPlaced (home_in hashed (length slots)) slots → (index probed : ℕ) → named % length slots < length slots → probed < length slots → index ≡ ahead (length slots) (named % length slots) probed → (s : Held T) → slot_at slots index ≡ Some s → IsTrue (names s.item) → s.drift ≡ probed + 1
drift_of_named {T} {hashed} {names} {named} respects slots placed index probed home_below below at s here named_is =
    let n = length slots in
    let home : hashed s.item % n ≡ named % n = ap (λ f. f % n) (sym (respects s.item named_is)) in
    let far : distance n (hashed s.item % n) index ≡ probed = ap (λ h. distance n h index) home ∙ ap (distance n (named % n)) at ∙ distance-ahead n (named % n) probed home_below below in
    placed.drift index s here ∙ ap (λ d. d + 1) far
