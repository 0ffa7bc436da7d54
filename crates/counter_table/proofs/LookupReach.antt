-- A index is full, by the homes of the entries, exactly where its slot is taken.
use Rattle.std.proofs.Common.{◌≡◌, ℕ, zero, suc, ◌+◌, ◌-◌, ◌<◌, ◌≤◌, Bool, true, false, cond, leb, inl, inr, refl, ap, sym, ◌∙◌, arith, List, [], ◌∷◌, length, Option, Some, None, is_some, count_by}
use Rattle.std.proofs.Math.ListN.{set}
use Rattle.std.proofs.lemmas.List.{get_or-set_same, get_or-set_other}
use Rattle.std.proofs.lemmas.Bool.{cases_lt, cases_Bool, cases_eq, le-leb, leb-true, false≢true, both_ways}
use Rattle.std.proofs.lemmas.List.Sums.{sum_by-cons, count_by-le-length}
use Rattle.counter_table.specs.declared.slot.Slot.{Slot}
use Rattle.counter_table.specs.declared.slot.Slot.TheVariants.{Free, Taken}
use Rattle.counter_table.specs.Homes.{ahead, distance, IsFullIndex, IsReach}
use Rattle.counter_table.specs.Slots.{Held, held, entries_of, table_of, slot_at, is_taken, IsPlaced}
use Rattle.counter_table.specs.declared.table_key.TableKey.{TableKey}
use Rattle.counter_table.proofs.ArithmeticRing.{ahead_is, distance_is, ahead-back, ahead-distance, back-distance, distance-between, passes}
use Rattle.counter_table.proofs.LookupTallies.{tally, tally_front, tally_le, tally_lt, window}

-- ---- a slot and a test of entries
abbrev fits : {T : Type 0} → (T × ℕ → Bool) → Option (Held T) → Bool
fits q None = false
fits q (Some s) = q (s.item, s.count)

pub taken_slot : {X : Type 0} (o : Option X) → is_some o ≡ true → (s : X) × (o ≡ Some s)
taken_slot None h = absurd (false≢true h)
taken_slot (Some s) h = (s, refl)

fits_free : {T : Type 0} (q : T × ℕ → Bool) (o : Option (Held T)) → is_some o ≡ false → fits q o ≡ false
fits_free q None h = refl
fits_free q (Some s) h = absurd (false≢true (sym h))

fits_slot : {T : Type 0} (q : T × ℕ → Bool) (o : Option (Held T)) → fits q o ≡ true → (s : Held T) × (o ≡ Some s) × (q (s.item, s.count) ≡ true)
fits_slot q None h = absurd (false≢true h)
fits_slot q (Some s) h = (s, refl, h)

pub is_taken-below : {T : Type 0} (slots : List (Slot T)) (k : ℕ) → is_taken slots k ≡ true → k < length slots
is_taken-below [] k h = absurd (false≢true h)
is_taken-below (o ∷ os) zero h = omega arith
is_taken-below (o ∷ os) (suc k) h = omega (arith, is_taken-below os k h)

-- ---- after a write
pub slot_at-set_same : {T : Type 0} (slots : List (Slot T)) (k : ℕ) (v : Slot T) → k < length slots → slot_at (set slots k v) k ≡ held v
slot_at-set_same slots k v l = ap held (get_or-set_same slots k v Free l)

pub slot_at-set_other : {T : Type 0} (slots : List (Slot T)) (k j : ℕ) (v : Slot T) → (j ≡ k → ⊥) → slot_at (set slots k v) j ≡ slot_at slots j
slot_at-set_other slots k j v other = ap held (get_or-set_other slots k j v Free other)

-- ---- entries are counted slot by slot
count_entries : {T : Type 0} (q : T × ℕ → Bool) (slots : List (Slot T)) → count_by q (entries_of slots) ≡ tally (λ k. fits q (slot_at slots k)) (length slots)
count_entries q [] = refl
count_entries q (Free ∷ os) = rw (tally_front (λ k. fits q (slot_at (Free ∷ os) k)) (length os)) (omega (arith, count_entries q os))
count_entries {T} q (Taken d n x ∷ os) =
    let f : T × ℕ → ℕ = λ e. cond (q e) 1 0 in
    rw (tally_front (λ k. fits q (slot_at (Taken d n x ∷ os) k)) (length os)) (omega (arith, count_entries q os, sum_by-cons f (x, n) (entries_of os)))

-- ---- fewer entries than slots leave a slot free
pub record HasFree {T : Type 0} (slots : List (Slot T)) : Type 0 where
  pub index : ℕ
  pub below : index < length slots
  pub free : is_taken slots index ≡ false

pub free_from_few : {T : Type 0} (slots : List (Slot T)) → length (entries_of slots) < length slots → HasFree slots
free_from_few [] h = absurd (omega arith)
free_from_few (Free ∷ os) h = record { index = 0; below = omega arith; free = refl }
free_from_few (Taken d n x ∷ os) h = let f = free_from_few os (omega arith) in record { index = suc f.index; below = omega (arith, f.below); free = f.free }

-- ---- the first number that fails
pub record First (P : ℕ → Bool) (m : ℕ) : Type 0 where
  pub at : ℕ
  pub within : at ≤ m
  pub fails : P at ≡ false
  pub before : (j : ℕ) → j < at → P j ≡ true

before_suc : (P : ℕ → Bool) (n : ℕ) → P 0 ≡ true → ((j : ℕ) → j < n → P (suc j) ≡ true) → (j : ℕ) → j < suc n → P j ≡ true
before_suc P n a b zero l = a
before_suc P n a b (suc j) l = b j (omega arith)

pub first_of_failing : (P : ℕ → Bool) (m : ℕ) → P m ≡ false → First P m
first_of_failing P zero h = record { at = 0; within = omega arith; fails = h; before = λ j l. absurd (omega arith) }
first_of_failing P (suc m) h = elim (cases_Bool (P 0)) [
  | inl t ↦ let r = first_of_failing (λ j. P (suc j)) m h in record { at = suc r.at; within = omega (arith, r.within); fails = r.fails; before = before_suc P r.at t r.before }
  | inr f ↦ record { at = 0; within = omega arith; fails = f; before = λ j l. absurd (omega arith) }
]

-- ---- one taken slot k on the way to p
-- where p is free, k is no further back from p than its home
nearer : {T : Type 0} (home : T → ℕ) (slots : List (Slot T)) → ((x : T) → home x < length slots) → IsPlaced home slots → (p k : ℕ) (s : Held T) → p < length slots → k < length slots → slot_at slots k ≡ Some s → is_taken slots p ≡ false →
    distance (length slots) k p ≤ distance (length slots) (home s.item) p
nearer home slots below placed p k s l m e f =
    let n = length slots in
    let h = home s.item in
    elim (cases_lt (distance n h k) (distance n h p)) [
      | inl a ↦ distance-between n h k p (below s.item) m l a
      | inr g ↦ absurd (both_ways _ f (ap (λ j. is_taken slots j) (sym (ahead-distance n h p (below s.item) l)) ∙ placed.run k s e (distance n h p) g))
    ]

-- where the index m back from p is free and k is nearer, its home is nearer too
near_home : {T : Type 0} (home : T → ℕ) (slots : List (Slot T)) → ((x : T) → home x < length slots) → IsPlaced home slots → (p k m : ℕ) (s : Held T) → p < length slots → k < length slots → slot_at slots k ≡ Some s → is_taken slots (ahead (length slots) p (length slots - m)) ≡ false →
    distance (length slots) k p < m → distance (length slots) (home s.item) p < m
near_home home slots below placed p k m s l b e f a =
    let n = length slots in
    let h = home s.item in
    elim (cases_lt (distance n h p) m) [
      | inl t ↦ t
      | inr g ↦
          let w = passes n h k p m (below s.item) b l a g in
          absurd (both_ways _ f (ap (λ j. is_taken slots j) (sym w.1) ∙ placed.run k s e (distance n h p - m) w.0))
    ]

-- ---- full is taken
pub taken_if_full : {T : Type 0} {key : TableKey} {purges : ℕ} (home : T → ℕ) (slots : List (Slot T)) → ((x : T) → home x < length slots) → IsPlaced home slots → (p : ℕ) → p < length slots → IsFullIndex home (table_of key purges slots) p → is_taken slots p ≡ true
taken_if_full {T} home slots below placed p l full =
    let n = length slots in
    let q : T × ℕ → Bool = λ e. leb (distance n (home e.0) p) full.back in
    elim (cases_Bool (is_taken slots p)) [
      | inl t ↦ t
      | inr f ↦
          let zero_on : distance n p p ≡ 0 = let d = distance_is n p p l l in omega arith in
          let fewer = tally_lt (λ k. fits q (slot_at slots k)) (λ k. leb (distance n k p) full.back) n p l (fits_free q (slot_at slots p) f) (le-leb _ _ (omega arith))
          (λ k m t. let s = fits_slot q (slot_at slots k) t in le-leb _ _ (omega (arith, nearer home slots below placed p k s.0 l m s.1 f, leb-true _ _ s.2))) in
          absurd (omega (arith, full.many, count_entries q slots, fewer, window n p full.back l full.within))
    ]

pub full_if_taken : {T : Type 0} {key : TableKey} {purges : ℕ} (home : T → ℕ) (slots : List (Slot T)) → ((x : T) → home x < length slots) → IsPlaced home slots → HasFree slots → (p : ℕ) → is_taken slots p ≡ true → IsFullIndex home (table_of key purges slots) p
full_if_taken {T} home slots below placed free_slot p t =
    let n = length slots in
    let l : p < n = is_taken-below slots p t in
    let f = free_slot.index in
    let d = distance_is n f p free_slot.below l in
    let z = distance_is n p p l l in
    let here : ahead n p (n - 0) ≡ p = ap (λ j. ahead n p (n - j)) (let e : 0 ≡ distance n p p = omega arith in e) ∙ back-distance n p p l l in
    let r = first_of_failing (λ j. is_taken slots (ahead n p (n - j))) (distance n f p) (ap (λ j. is_taken slots j) (back-distance n p f l free_slot.below) ∙ free_slot.free) in
    let some : 1 ≤ r.at = elim (cases_eq r.at 0) [ inl e ↦ absurd (both_ways _ r.fails (ap (λ j. is_taken slots (ahead n p (n - j))) e ∙ ap (λ j. is_taken slots j) here ∙ t)) | inr e ↦ omega arith ] in
    let b = r.at - 1 in
    let q : T × ℕ → Bool = λ e. leb (distance n (home e.0) p) b in
    let many = tally_le (λ k. leb (distance n k p) b) (λ k. fits q (slot_at slots k)) n (λ k m near.
    let nearer' : distance n k p < r.at = omega (arith, leb-true _ _ near) in
    let s = taken_slot (slot_at slots k) (ap (λ j. is_taken slots j) (sym (back-distance n p k l m)) ∙ r.before (distance n k p) nearer') in
    ap (λ o. fits q o) s.1 ∙ le-leb _ _ (omega (arith, near_home home slots below placed p k r.at s.0 l m s.1 r.fails nearer'))) in
    record { back = b; within = omega (arith, d, r.within); many = omega (arith, count_entries q slots, many, window n p b l (omega (arith, d, r.within))) }

-- ---- the reach, by what a look-up saw
-- n indices from home(x) on, all taken but the last
pub IsReach-from_free : {T : Type 0} {key : TableKey} {purges : ℕ} (home : T → ℕ) (slots : List (Slot T)) → ((x : T) → home x < length slots) → IsPlaced home slots → HasFree slots → (x : T) (n : ℕ) → 1 ≤ n → n ≤ length slots →
    ((j : ℕ) → j + 1 < n → is_taken slots (ahead (length slots) (home x) j) ≡ true) → is_taken slots (ahead (length slots) (home x) (n - 1)) ≡ false → IsReach home (table_of key purges slots) x n
IsReach-from_free home slots below placed free_slot x n some short taken free =
    let a = ahead_is (length slots) (home x) (n - 1) (below x) (omega arith) in
    record {
      some = some;
      full = λ j l. full_if_taken home slots below placed free_slot _ (taken j l);
      last = λ f. both_ways _ free (taken_if_full home slots below placed _ a.below f);
    }

-- from home(x) on, some index is free
pub record Stop {T : Type 0} (slots : List (Slot T)) (h : ℕ) : Type 0 where
  pub at : ℕ
  pub below : at < length slots
  pub free : is_taken slots (ahead (length slots) h at) ≡ false
  pub before : (j : ℕ) → j < at → is_taken slots (ahead (length slots) h j) ≡ true

pub stop_of : {T : Type 0} (slots : List (Slot T)) (h : ℕ) → h < length slots → HasFree slots → Stop slots h
stop_of slots h l free_slot =
    let n = length slots in
    let d = distance_is n h free_slot.index l free_slot.below in
    let r = first_of_failing (λ j. is_taken slots (ahead n h j)) (distance n h free_slot.index) (ap (λ j. is_taken slots j) (ahead-distance n h free_slot.index l free_slot.below) ∙ free_slot.free) in
    record { at = r.at; below = omega (arith, d, r.within); free = r.fails; before = r.before }

-- so not all indices are
pub taken_few : {T : Type 0} (slots : List (Slot T)) (h n : ℕ) → h < length slots → HasFree slots → ((j : ℕ) → j < n → is_taken slots (ahead (length slots) h j) ≡ true) → n < length slots
taken_few slots h n l free_slot taken =
    let r = stop_of slots h l free_slot in
    elim (cases_lt n (length slots)) [
      | inl a ↦ a
      | inr b ↦ absurd (both_ways _ r.free (taken r.at (omega (arith, r.below))))
    ]

-- and there are at least as many entries
pub taken_within : {T : Type 0} (slots : List (Slot T)) (h n : ℕ) → h < length slots → n < length slots → ((j : ℕ) → j < n → is_taken slots (ahead (length slots) h j) ≡ true) → n ≤ length (entries_of slots)
taken_within slots h zero l m taken = omega arith
taken_within {T} slots h (suc b) l m taken =
    let n = length slots in
    let every : T × ℕ → Bool = λ e. true in
    let p = ahead n h b in
    let a = ahead_is n h b l (omega arith) in
    let many = tally_le (λ k. leb (distance n k p) b) (λ k. fits every (slot_at slots k)) n (λ k below near.
    let back = ahead-back n h k b l below (omega arith) (leb-true _ _ near) in
    let s = taken_slot (slot_at slots k) (ap (λ j. is_taken slots j) (sym back) ∙ taken (b - distance n k p) (omega arith)) in
    ap (λ o. fits every o) s.1) in
    omega (arith, many, count_entries every slots, window n p b a.below (omega arith), count_by-le-length every (entries_of slots))

-- n indices from home(x) on, all taken
pub reach_above : {T : Type 0} {key : TableKey} {purges : ℕ} (home : T → ℕ) (slots : List (Slot T)) → ((x : T) → home x < length slots) → IsPlaced home slots → HasFree slots → (x : T) (n : ℕ) →
    ((j : ℕ) → j < n → is_taken slots (ahead (length slots) (home x) j) ≡ true) → (r : ℕ) × IsReach home (table_of key purges slots) x r × (n < r)
reach_above home slots below placed free_slot x n taken =
    let r = stop_of slots (home x) (below x) free_slot in
    let over : n ≤ r.at = elim (cases_lt r.at n) [ inl a ↦ absurd (both_ways _ r.free (taken r.at a)) | inr b ↦ b ] in
    let same : r.at + 1 - 1 ≡ r.at = omega arith in
    (r.at + 1, IsReach-from_free home slots below placed free_slot x (r.at + 1) (omega arith) (omega (arith, r.below)) (λ j l. r.before j (omega arith)) (ap (λ j. is_taken slots (ahead (length slots) (home x) j)) same ∙ r.free), omega arith)
