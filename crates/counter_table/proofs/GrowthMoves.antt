-- All entries of one array of slots, put into another.
use Rattle.std.proofs.Common.{◌≡◌, ℕ, zero, suc, ◌+◌, ◌≤◌, Bool, false, refl, ap, sym, ◌∙◌, arith, List, [], ◌∷◌, ◌++◌, length, replicate, Some, IsPermutation, length-append}
use Rattle.std.specs.Cmp.{IsEquivalence}
use Rattle.std.specs.List.{IsDistinct, list_any, AllByRecursion}
use Rattle.std.specs.Map.{keys_of}
use Rattle.std.proofs.lemmas.List.{map-append, append-nil, append_assoc, length-replicate}
use Rattle.std.proofs.lemmas.List.Elements.{filter_map-append}
use Rattle.std.proofs.lemmas.List.Sorted.{IsPermutation-trans, IsPermutation-append_left, length_permutation}
use Rattle.std.proofs.lemmas.Map.Keys.{IsDistinct-head, IsDistinct-tail}
use Rattle.counter_table.specs.Tables.{is_tracked, put}
use Rattle.counter_table.proofs.InsertionPuts.{put_new, is_tracked-keys, is_tracked-permutation}
use Rattle.counter_table.specs.declared.slot.Slot.{Slot}
use Rattle.counter_table.specs.declared.slot.Slot.TheVariants.{Free, Taken}
use Rattle.counter_table.specs.Slots.{Held, taken, slot_entry, entries_of, slot_at, IsSlots, IsTableSize}
use Rattle.counter_table.proofs.LookupHomes.{some_size}

-- ---- no entry at all
pub entries_of-replicate : {T : Type 0} (n : ℕ) → entries_of (replicate {A = Slot T} n Free) ≡ []
entries_of-replicate zero = refl
entries_of-replicate {T} (suc n) = entries_of-replicate {T = T} n

pub nothing_at : {T : Type 0} (slots : List (Slot T)) (k : ℕ) (s : Held T) → entries_of slots ≡ [] → slot_at slots k ≡ Some s → ⊥
nothing_at [] k s h e = cc
nothing_at (Free ∷ os) zero s h e = cc
nothing_at (Free ∷ os) (suc k) s h e = nothing_at os k s h e
nothing_at (Taken d n x ∷ os) k s h e = cc

pub IsSlots-free : {T : Type 0} (eq : T → T → Bool) (hashed : T → ℕ) (slots : List (Slot T)) → entries_of slots ≡ [] → IsTableSize (length slots) → IsSlots eq hashed slots
unfolding IsDistinct
IsSlots-free eq hashed slots h size = record {
  distinct = rw h tt;
  placed = record { drift = λ k s e. absurd (nothing_at slots k s h e); run = λ k s e. absurd (nothing_at slots k s h e) };
  room = rw h (some_size (length slots) size);
  size = size;
}

-- ---- one slot on
-- a key that comes after others is equal to none of them
differs_at : {T : Type 0} (eq : T → T → Bool) (k : T) (xs : List T) (x : T) (ys : List T) → AllByRecursion (λ y. eq k y ≡ false) (xs ++ x ∷ ys) → eq k x ≡ false
differs_at eq k [] x ys h = h.0
differs_at eq k (z ∷ xs) x ys h = differs_at eq k xs x ys h.1

pub last_apart : {T : Type 0} {eq : T → T → Bool} → IsEquivalence eq → (xs : List T) (x : T) (ys : List T) → IsDistinct eq (xs ++ x ∷ ys) → list_any (eq x) xs ≡ false
last_apart laws [] x ys d = refl
last_apart {eq = eq} laws (k ∷ xs) x ys d =
    let f : eq x k ≡ false = laws.symm x k ∙ differs_at eq k xs x ys (IsDistinct-head eq k (xs ++ x ∷ ys) d) in
    rw f (last_apart laws xs x ys (IsDistinct-tail eq k (xs ++ x ∷ ys) d))

-- at the slot s of `all`, after the slots `before`, whose entries stand in `slots`
pub record Next {T : Type 0} (eq : T → T → Bool) (all before slots : List (Slot T)) (s : Held T) : Type 0 where
  pub absent : is_tracked eq (entries_of slots) s.item ≡ false
  pub few : length (entries_of slots) + 1 ≤ length (entries_of all)
  pub moved : (new : List (T × ℕ)) → IsPermutation (put eq (entries_of slots) s.item s.count) new → IsPermutation (entries_of (before ++ taken s ∷ [])) new

pub next_of : {T : Type 0} {eq : T → T → Bool} → IsEquivalence eq → (all before after slots : List (Slot T)) (s : Held T) → IsDistinct eq (keys_of (entries_of all)) → all ≡ before ++ taken s ∷ after → IsPermutation (entries_of before) (entries_of slots) → Next eq all before slots s
next_of {T} {eq} laws all before after slots s d split perm =
    let entries : entries_of all ≡ entries_of before ++ (s.item, s.count) ∷ entries_of after = ap entries_of split ∙ filter_map-append slot_entry before (taken s ∷ after) in
    let keys : keys_of (entries_of all) ≡ keys_of (entries_of before) ++ s.item ∷ keys_of (entries_of after) = ap keys_of entries ∙ map-append (λ (e : T × ℕ). e.0) (entries_of before) _ in
    let absent : is_tracked eq (entries_of slots) s.item ≡ false = is_tracked-permutation eq (entries_of before) (entries_of slots) s.item perm ∙ is_tracked-keys eq (entries_of before) s.item ∙ last_apart laws (keys_of (entries_of before)) s.item _ (rw keys at d) in
    record {
      absent = absent;
      few = omega (arith, ap length entries, length-append (entries_of before) ((s.item, s.count) ∷ entries_of after), length_permutation _ _ perm);
      moved = λ new p.
          let pushed : put eq (entries_of slots) s.item s.count ≡ entries_of slots ++ (s.item, s.count) ∷ [] = put_new eq (entries_of slots) s.item s.count absent in
          rw (filter_map-append slot_entry before (taken s ∷ [])) (IsPermutation-trans _ _ _ (IsPermutation-append_left ((s.item, s.count) ∷ []) _ _ perm) (rw pushed at p));
    }

pub entries_of-push_free : {T : Type 0} (before : List (Slot T)) → entries_of (before ++ Free ∷ []) ≡ entries_of before
entries_of-push_free before = filter_map-append slot_entry before (Free ∷ []) ∙ append-nil (entries_of before)

-- all as the slots so far, one more, and the rest
pub split_on : {X : Type 0} (all before rest after : List X) (o p : X) → all ≡ before ++ rest → rest ≡ o ∷ after → o ≡ p → all ≡ before ++ p ∷ after
split_on all before rest after o p e f g = e ∙ ap (λ r. before ++ r) (f ∙ ap (λ q. q ∷ after) g)

pub split_more : {X : Type 0} (all before rest after : List X) (o : X) → all ≡ before ++ rest → rest ≡ o ∷ after → all ≡ (before ++ o ∷ []) ++ after
split_more all before rest after o e f = e ∙ ap (λ r. before ++ r) f ∙ sym (append_assoc before (o ∷ []) after)

-- free slots alone
pub IsSlots-made : {T : Type 0} (eq : T → T → Bool) (hashed : T → ℕ) (slots : List (Slot T)) (n : ℕ) → slots ≡ replicate n Free → IsTableSize n → IsSlots eq hashed slots
IsSlots-made {T} eq hashed slots n e size =
    let long : length slots ≡ n = ap length e ∙ length-replicate n Free in
    IsSlots-free eq hashed slots (ap entries_of e ∙ entries_of-replicate {T = T} n) (rw long size)

pub made_free : {T : Type 0} (slots : List (Slot T)) (n : ℕ) → slots ≡ replicate n Free → (entries_of slots ≡ []) × (length slots ≡ n)
made_free {T} slots n e = (ap entries_of e ∙ entries_of-replicate {T = T} n, ap length e ∙ length-replicate n Free)
