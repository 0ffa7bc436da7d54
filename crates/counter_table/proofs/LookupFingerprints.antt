-- What a fingerprint says of its slot, and what a write to a slot makes of the fingerprints.
use Rattle.std.proofs.Common.{◌≡◌, ℕ, zero, suc, ◌∷◌, ◌+◌, ◌%◌, ◌<◌, Bool, true, false, inl, inr, refl, ap, sym, ◌∙◌, arith, List, [], length, get_or, replicate, None, Some, is_some}
use Rattle.std.specs.Prelude.{IsTrue}
use Rattle.std.specs.List.{AllZip}
use Rattle.std.proofs.Math.ListN.{set}
use Rattle.std.proofs.lemmas.Bool.{cases_Bool, cases_eq}
use Rattle.std.proofs.lemmas.List.{length-set, length-replicate, set-get_or, get_or-set_same, get_or-set_other}
use Rattle.counter_table.specs.declared.slot.Slot.{Slot}
use Rattle.counter_table.specs.declared.slot.Slot.TheVariants.{Free, Taken}
use Rattle.counter_table.specs.Fingerprints.{fingerprint_of, slot_fingerprint, AreFingerprints}
use Rattle.counter_table.specs.Homes.{home_in}
use Rattle.counter_table.specs.Slots.{Held, held, entries_of, slot_at, is_taken, AddsAt, IsSameSlot}
use Rattle.counter_table.proofs.CloneSlots.{cloned_size}
use Rattle.counter_table.proofs.GrowthMoves.{nothing_at}
use Rattle.counter_table.proofs.LookupReach.{taken_slot, is_taken-below}
use Rattle.counter_table.proofs.PurgeTurns.{slot_from_held, slot_from_none}

-- ---- a hash

-- the home is the hash modulo the size
pub home_is : {T : Type 0} (hashed : T → ℕ) (x : T) (n hash index : ℕ) → hash ≡ hashed x → index ≡ hash % n → index ≡ home_in hashed n x
home_is hashed x n hash index h e = e ∙ ap (λ z. z % n) h

some_fingerprint : (hash : ℕ) → 0 < fingerprint_of hash
unfolding fingerprint_of
some_fingerprint hash = omega arith

-- ---- a slot
is_free_slot : {T : Type 0} (hashed : T → ℕ) (o : Slot T) → slot_fingerprint hashed o ≡ 0 → is_some (held o) ≡ false
is_free_slot hashed Free e = refl
is_free_slot hashed (Taken d c x) e = absurd (omega (arith, e, some_fingerprint (hashed x)))

taken_is : {T : Type 0} (hashed : T → ℕ) (o : Slot T) → (slot_fingerprint hashed o ≡ 0 → ⊥) → is_some (held o) ≡ true
taken_is hashed Free n = absurd (n refl)
taken_is hashed (Taken d c x) n = refl

-- a key with another fingerprint names another
pub seen_other : {T : Type 0} (hashed : T → ℕ) (slots : List (Slot T)) {names : T → Bool} {fed : ℕ} → ((x : T) → IsTrue (names x) → fed ≡ hashed x) → (hash index seen mark : ℕ) → hash ≡ fed → mark ≡ fingerprint_of hash → seen ≡ slot_fingerprint hashed (get_or slots index Free) → (seen ≡ mark → ⊥) → (s : Held T) → slot_at slots index ≡ Some s → names s.item ≡ false
seen_other hashed slots {names} {fed} respects hash index seen mark h m is other s e = elim (cases_Bool (names s.item)) [
  | inl same ↦
      let alike : fed ≡ hashed s.item = respects s.item same in
      let there = ap (slot_fingerprint hashed) (slot_from_held (get_or slots index Free) s e) in
      absurd (other (is ∙ (there ∙ (ap fingerprint_of (sym alike) ∙ (ap fingerprint_of (sym h) ∙ sym m)))))
  | inr f ↦ f
]

module _ {T : Type 0} {hashed : T → ℕ} {slots : List (Slot T)} {bytes : List ℕ} (are : AreFingerprints hashed slots bytes) where
  -- 0 stands at the free slots alone
  pub seen_free : (index seen : ℕ) → seen ≡ get_or bytes index 0 → seen ≡ 0 → is_taken slots index ≡ false
  seen_free index seen is none = is_free_slot hashed (get_or slots index Free) (sym (are.each index) ∙ (sym is ∙ none))

  pub seen_taken : (index seen : ℕ) → seen ≡ get_or bytes index 0 → (seen ≡ 0 → ⊥) → is_taken slots index ≡ true
  seen_taken index seen is some = taken_is hashed (get_or slots index Free) (λ e. some (is ∙ (are.each index ∙ e)))

  fingerprint_at : (index : ℕ) (s : Held T) → slot_at slots index ≡ Some s → get_or bytes index 0 ≡ fingerprint_of (hashed s.item)
  fingerprint_at index s e = are.each index ∙ ap (slot_fingerprint hashed) (slot_from_held (get_or slots index Free) s e)

  -- ---- a write of a slot and of its fingerprint
  pub fingerprints_set : (index : ℕ) (o : Slot T) (b : ℕ) (new : List (Slot T)) (news : List ℕ) → index < length slots → b ≡ slot_fingerprint hashed o → new ≡ set slots index o → news ≡ set bytes index b → AreFingerprints hashed new news
  fingerprints_set index o b new news below mark made marked = rw (made, marked) (record {
    long = length-set bytes index b ∙ (are.long ∙ sym (length-set slots index o));
    each = λ k. elim (cases_eq k index) [
      | inl same ↦
          let left : get_or (set bytes index b) index 0 ≡ b = get_or-set_same bytes index b 0 (omega (arith, are.long, below)) in
          let right : get_or (set slots index o) index Free ≡ o = get_or-set_same slots index o Free below in
          ap (λ j. get_or (set bytes index b) j 0) same ∙ (left ∙ (mark ∙ (ap (slot_fingerprint hashed) (sym right) ∙ ap (λ j. slot_fingerprint hashed (get_or (set slots index o) j Free)) (sym same))))
      | inr other ↦ get_or-set_other bytes index k b 0 other ∙ (are.each k ∙ ap (slot_fingerprint hashed) (sym (get_or-set_other slots index k o Free other)))
    ];
  })

  -- an item's count alone
  fingerprints_counted : (index count : ℕ) (s : Held T) (new : List (Slot T)) → slot_at slots index ≡ Some s → new ≡ set slots index (Taken s.drift count s.item) → AreFingerprints hashed new bytes
  fingerprints_counted index count s new e made = rw made (record {
    long = are.long ∙ sym (length-set slots index (Taken s.drift count s.item));
    each = λ k. elim (cases_eq k index) [
      | inl same ↦
          let o : Slot T = Taken s.drift count s.item in
          let right : get_or (set slots index o) index Free ≡ o = get_or-set_same slots index o Free (is_taken-below slots index (ap is_some e)) in
          ap (λ j. get_or bytes j 0) same ∙ (fingerprint_at index s e ∙ (ap (slot_fingerprint hashed) (sym right) ∙ ap (λ j. slot_fingerprint hashed (get_or (set slots index o) j Free)) (sym same)))
      | inr other ↦ are.each k ∙ ap (slot_fingerprint hashed) (sym (get_or-set_other slots index k (Taken s.drift count s.item) Free other))
    ];
  })

  -- a slot is freed
  pub fingerprints_freed : (index : ℕ) → index < length slots → AreFingerprints hashed (set slots index Free) (set bytes index 0)
  fingerprints_freed index below = fingerprints_set index Free 0 (set slots index Free) (set bytes index 0) below refl refl refl

  -- the byte that goes with an item
  pub fingerprint_moves : (index : ℕ) (s : Held T) (moving probed count : ℕ) → slot_at slots index ≡ Some s → moving ≡ get_or bytes index 0 → moving ≡ slot_fingerprint hashed (Taken probed count s.item)
  fingerprint_moves index s moving probed count e is = is ∙ fingerprint_at index s e

-- ---- w is added to the count in the slot at an index, if it is taken
pub record AddedAt {T : Type 0} (hashed : T → ℕ) (old : List (Slot T)) (index w : ℕ) (new : List (Slot T)) (bytes : List ℕ) : Type 0 where
  pub are : AreFingerprints hashed new bytes
  pub adds : AddsAt old index w new
  pub long : length new ≡ length old

module _ {T : Type 0} {hashed : T → ℕ} {slots : List (Slot T)} {bytes : List ℕ} (are : AreFingerprints hashed slots bytes) (index w : ℕ) where
  pub added_taken : (s : Held T) → slot_at slots index ≡ Some s → AddedAt hashed slots index w (set slots index (Taken s.drift (s.count + w) s.item)) bytes
  added_taken s at = record {
    are = fingerprints_counted are index (s.count + w) s _ at refl;
    adds = λ t e.
        let both : Some s ≡ Some t = sym at ∙ e in
        let same : s ≡ t = cc in
        ap (λ (q : Held T). set slots index (Taken q.drift (q.count + w) q.item)) same;
    long = length-set slots index (Taken s.drift (s.count + w) s.item);
  }

  pub added_free : (o : Slot T) → o ≡ get_or slots index o → slot_at slots index ≡ None → AddedAt hashed slots index w (set slots index o) bytes
  added_free o is free = rw (ap (set slots index) is ∙ set-get_or slots index o) (record {
    are = are;
    adds = λ t e. let both : None ≡ Some t = sym free ∙ e in cc;
    long = refl;
  })

-- ---- all slots
none_held : {T : Type 0} (slots : List (Slot T)) (k : ℕ) → entries_of slots ≡ [] → get_or slots k Free ≡ Free
none_held slots k none = elim (cases_Bool (is_taken slots k)) [
  | inl t ↦ let s = taken_slot (slot_at slots k) t in absurd (nothing_at slots k s.0 none s.1)
  | inr f ↦ slot_from_none (get_or slots k Free) f
]

same_at : (z n k : ℕ) → get_or (replicate n z) k z ≡ z
same_at z zero k = refl
same_at z (suc n) zero = refl
same_at z (suc n) (suc k) = same_at z n k

-- where none is taken
pub fingerprints_free : {T : Type 0} (hashed : T → ℕ) (slots : List (Slot T)) (bytes : List ℕ) (n : ℕ) → entries_of slots ≡ [] → length slots ≡ n → bytes ≡ replicate n 0 → AreFingerprints hashed slots bytes
fingerprints_free hashed slots bytes n none long zeros = record {
  long = ap length zeros ∙ (length-replicate n 0 ∙ sym long);
  each = λ k. ap (λ l. get_or l k 0) zeros ∙ (same_at 0 n k ∙ ap (slot_fingerprint hashed) (sym (none_held slots k none)));
}

cloned_each : {T : Type 0} {eq : T → T → Bool} (hashed : T → ℕ) → ((x y : T) → IsTrue (eq x y) → hashed x ≡ hashed y) → (slots clones : List (Slot T)) → AllZip (IsSameSlot eq) slots clones → (k : ℕ) → slot_fingerprint hashed (get_or slots k Free) ≡ slot_fingerprint hashed (get_or clones k Free)
cloned_each hashed respects [] [] h k = refl
cloned_each hashed respects [] (p ∷ ps) h k = absurd h
cloned_each hashed respects (o ∷ os) [] h k = absurd h
cloned_each hashed respects (Free ∷ os) (Free ∷ ps) h zero = refl
cloned_each hashed respects (Free ∷ os) (Taken e n y ∷ ps) h zero = absurd h.0
cloned_each hashed respects (Taken d c x ∷ os) (Free ∷ ps) h zero = absurd h.0
cloned_each hashed respects (Taken d c x ∷ os) (Taken e n y ∷ ps) h zero = ap fingerprint_of (respects x y h.0.2)
cloned_each hashed respects (o ∷ os) (p ∷ ps) h (suc k) = cloned_each hashed respects os ps h.1 k

-- clones have those of their originals
pub fingerprints_cloned : {T : Type 0} {eq : T → T → Bool} (hashed : T → ℕ) → ((x y : T) → IsTrue (eq x y) → hashed x ≡ hashed y) → (slots clones : List (Slot T)) (bytes : List ℕ) → AllZip (IsSameSlot eq) slots clones → AreFingerprints hashed slots bytes → AreFingerprints hashed clones bytes
fingerprints_cloned {eq = eq} hashed respects slots clones bytes zip are = record {
  long = are.long ∙ sym (cloned_size eq slots clones zip);
  each = λ k. are.each k ∙ cloned_each hashed respects slots clones zip k;
}
