-- A slot is emptied, and what it held goes to another.
use Rattle.std.proofs.Common.{◌≡◌, ℕ, ◌+◌, ◌-◌, ◌<◌, ◌≤◌, true, false, refl, ap, sym, ◌∙◌, subst, arith, List, [], ◌∷◌, ◌++◌, length, get_or, Some, is_some, IsPermutation, length-append}
use Rattle.std.proofs.Math.ListN.{set}
use Rattle.std.proofs.lemmas.List.{length-set, set-set, set-get_or}
use Rattle.std.proofs.lemmas.List.Sorted.{length_permutation}
use Rattle.std.proofs.lemmas.Bool.{both_ways}
use Rattle.counter_table.specs.declared.slot.Slot.{Slot}
use Rattle.counter_table.specs.declared.slot.Slot.TheVariants.{Free, Taken}
use Rattle.counter_table.specs.Homes.{ahead, distance}
use Rattle.counter_table.specs.Probes.{IsFreeSlot}
use Rattle.counter_table.specs.Settled.{Moves, Settles}
use Rattle.counter_table.proofs.ArithmeticRing.{back-distance}
use Rattle.counter_table.specs.Slots.{Held, held, taken, entries_of, slot_at, is_taken}
use Rattle.counter_table.proofs.LookupReach.{is_taken-below, slot_at-set_same}
use Rattle.counter_table.proofs.InsertionWrites.{put_miss}

pub slot_from_held : {T : Type 0} (o : Slot T) (s : Held T) → held o ≡ Some s → o ≡ taken s
slot_from_held Free s e = cc
slot_from_held {T} (Taken d n x) s e =
    let r : Held T = record { item = x; count = n; drift = d } in
    let both : Some r ≡ Some s = e in
    let same : r ≡ s = cc in
    ap taken same

pub slot_from_none : {T : Type 0} (o : Slot T) → is_some (held o) ≡ false → o ≡ Free
slot_from_none Free e = refl
slot_from_none (Taken d n x) e = cc

-- an index outside holds nothing
pub set_free : {T : Type 0} (slots : List (Slot T)) (k : ℕ) → is_taken slots k ≡ false → set slots k Free ≡ slots
set_free slots k f = ap (set slots k) (sym (slot_from_none (get_or slots k Free) f)) ∙ set-get_or slots k Free

-- the entries without the slot at k
pub taken_out : {T : Type 0} (slots : List (Slot T)) (k : ℕ) (s : Held T) → slot_at slots k ≡ Some s → IsPermutation (entries_of (set slots k Free) ++ (s.item, s.count) ∷ []) (entries_of slots)
taken_out {T} slots k s e =
    let below = is_taken-below slots k (ap is_some e) in
    let back : set (set slots k Free) k (taken s) ≡ slots = set-set slots k Free (taken s) ∙ ap (set slots k) (sym (slot_from_held (get_or slots k Free) s e)) ∙ set-get_or slots k Free in
    let P : List (Slot T) → Type 0 = λ l. IsPermutation (entries_of (set slots k Free) ++ (s.item, s.count) ∷ []) (entries_of l) in
    subst P back (put_miss (set slots k Free) k s (rw (length-set slots k Free) below) (ap is_some (slot_at-set_same slots k Free below)))

pub entries_few : {T : Type 0} (slots : List (Slot T)) → length (entries_of slots) ≤ length slots
entries_few [] = omega arith
entries_few (Free ∷ os) = omega (arith, entries_few os)
entries_few (Taken d n x ∷ os) = omega (arith, entries_few os)

-- a slot that was emptied leaves room
pub room_without : {T : Type 0} (slots : List (Slot T)) (k : ℕ) (s : Held T) → slot_at slots k ≡ Some s → length (entries_of (set slots k Free)) < length (set slots k Free)
room_without {T} slots k s e =
    let last : List (T × ℕ) = (s.item, s.count) ∷ [] in
    omega (arith, length_permutation _ _ (taken_out slots k s e), length-append (entries_of (set slots k Free)) last, entries_few slots, length-set slots k Free)

-- ---- the turn of an entry that stays
pub settled : {T : Type 0} (home : T → ℕ) (old : List (Slot T)) (p m : ℕ) (s : Held T) → slot_at old p ≡ Some s → m < s.count → (index probed : ℕ) (new : List (Slot T)) → IsFreeSlot (home s.item) (set old p Free) index probed → new ≡ set (set old p Free) index (Taken probed (s.count - m) s.item) → Settles home old p m false new
settled {T} home old p m s at more index probed new free_slot made =
    let same : (t : Held T) → slot_at old p ≡ Some t → t ≡ s = λ t e. let both : Some t ≡ Some s = sym e ∙ at in cc in
    let Q : Held T → Type 0 = λ t. Moves home old p m t new in
    record {
      free = λ f. absurd (both_ways _ f (ap is_some at));
      spent = λ t e l. absurd (omega (arith, more, l, ap (λ (q : Held T). q.count) (same t e)));
      left = λ t e l. (refl, subst Q (sym (same t e)) (record { index = index; probed = probed; free_slot = free_slot; made = made }));
    }

-- ---- the turn of an entry that is freed
pub freed : {T : Type 0} (home : T → ℕ) (old : List (Slot T)) (p m : ℕ) (s : Held T) → slot_at old p ≡ Some s → s.count ≤ m → (new : List (Slot T)) → new ≡ set old p Free → Settles home old p m true new
freed {T} home old p m s at few new made =
    let same : (t : Held T) → slot_at old p ≡ Some t → t ≡ s = λ t e. let both : Some t ≡ Some s = sym e ∙ at in cc in
    record {
      free = λ f. absurd (both_ways _ f (ap is_some at));
      spent = λ t e l. (refl, made);
      left = λ t e l. absurd (omega (arith, few, l, ap (λ (q : Held T). q.count) (same t e)));
    }

-- ---- the turn of a free slot
pub stayed : {T : Type 0} (home : T → ℕ) (old : List (Slot T)) (p m : ℕ) → is_taken old p ≡ false → (new : List (Slot T)) → new ≡ set old p Free → Settles home old p m false new
stayed home old p m none new made =
    record {
      free = λ _. (refl, made ∙ set_free old p none);
      spent = λ t e l. absurd (both_ways _ none (ap is_some e));
      left = λ t e l. absurd (both_ways _ none (ap is_some e));
    }

-- where its home is
pub home_back : (n h p d index : ℕ) → h < n → p < n → d ≡ distance n h p + 1 → index ≡ ahead n p (n - (d - 1)) → index ≡ h
home_back n h p d index l k far is =
    let same : d - 1 ≡ distance n h p = omega (arith, far) in
    is ∙ ap (λ q. ahead n p (n - q)) same ∙ back-distance n p h k l
