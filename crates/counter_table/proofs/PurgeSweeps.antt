-- A purge goes once over the slots, from a free index on. Behind the indices that are settled, all count as free.
use Rattle.std.proofs.Common.{◌≡◌, ℕ, zero, suc, ◌+◌, ◌-◌, ◌<◌, ◌≤◌, Bool, true, false, cond, ltb, inl, inr, refl, ap, sym, ◌∙◌, subst, arith, List, [], ◌∷◌, ◌++◌, length, get_or, map, filter, Some, is_some, IsPermutation, length-append}
use Rattle.std.specs.Cmp.{IsEquivalence}
use Rattle.std.specs.List.{IsDistinct, AllByRecursion, list_any}
use Rattle.std.specs.Map.{keys_of}
use Rattle.std.proofs.Math.ListN.{set}
use Rattle.std.proofs.lemmas.Bool.{cases_lt, cases_eq, cases_Bool, both_ways, lt-ltb, le-ltb, false≢true}
use Rattle.std.proofs.lemmas.List.{length-set, append-nil, map-append, same_lists, get_or_default, get_or-set_same, get_or-set_other}
use Rattle.std.proofs.lemmas.List.Sorted.{IsPermutation-refl, IsPermutation-sym, IsPermutation-trans, IsPermutation-append_left, IsPermutation-map, length_permutation}
use Rattle.std.proofs.lemmas.List.Elements.{filter-append}
use Rattle.std.proofs.lemmas.Map.Keys.{IsDistinct-IsPermutation}
use Rattle.counter_table.specs.Filters.{filter-permutation}
use Rattle.counter_table.specs.Homes.{ahead, distance, home_in}
use Rattle.counter_table.specs.Probes.{IsFreeSlot}
use Rattle.counter_table.specs.Settled.{HasDrift, Moves, Settles}
use Rattle.counter_table.specs.Slots.{Held, held, taken, entries_of, slot_at, is_taken, IsSlots}
use Rattle.counter_table.specs.Tables.{is_tracked, put, purged}
use Rattle.counter_table.specs.declared.slot.Slot.{Slot}
use Rattle.counter_table.specs.declared.slot.Slot.TheVariants.{Free, Taken}
use Rattle.counter_table.proofs.ArithmeticRing.{ahead_is, distance_is, ahead-distance, distance-ahead, distance-same}
use Rattle.counter_table.proofs.GrowthMoves.{IsSlots-free, last_apart}
use Rattle.counter_table.proofs.InsertionPuts.{put_new, is_tracked-keys, is_tracked-permutation}
use Rattle.counter_table.proofs.InsertionWrites.{put_miss, wrote_free_slot}
use Rattle.counter_table.proofs.LookupHomes.{some_size, remainder_below}
use Rattle.counter_table.proofs.LookupReach.{slot_at-set_same, slot_at-set_other, taken_slot}
use Rattle.counter_table.proofs.PurgeTurns.{slot_from_held, slot_from_none, set_free}

-- ---- the slots at some indices, the others free
abbrev pub keep : {T : Type 0} → (ℕ → Bool) → List (Slot T) → List (Slot T)
keep q [] = []
keep q (o ∷ os) = cond (q 0) o Free ∷ keep (λ k. q (suc k)) os

pub length_keep : {T : Type 0} (q : ℕ → Bool) (slots : List (Slot T)) → length (keep q slots) ≡ length slots
length_keep q [] = refl
length_keep q (o ∷ os) = omega (arith, length_keep (λ k. q (suc k)) os)

kept_no : {T : Type 0} (b : Bool) (o : Slot T) → cond b o o ≡ o
kept_no true o = refl
kept_no false o = refl

at_keep : {T : Type 0} (q : ℕ → Bool) (slots : List (Slot T)) (k : ℕ) → get_or (keep q slots) k Free ≡ cond (q k) (get_or slots k Free) Free
at_keep q [] k = sym (kept_no (q k) Free)
at_keep q (o ∷ os) zero = refl
at_keep q (o ∷ os) (suc k) = at_keep (λ j. q (suc j)) os k

same_slots : {T : Type 0} (xs ys : List (Slot T)) → length xs ≡ length ys → ((k : ℕ) → k < length xs → get_or xs k Free ≡ get_or ys k Free) → xs ≡ ys
same_slots xs ys long h = same_lists xs ys long (λ k d l. get_or_default xs k d Free l ∙ h k l ∙ get_or_default ys k Free d (omega (arith, long)))

no_entries : {T : Type 0} (slots : List (Slot T)) → ((k : ℕ) → k < length slots → get_or slots k Free ≡ Free) → entries_of slots ≡ []
no_entries [] h = refl
no_entries {T} (o ∷ os) h =
    let here : o ≡ Free = h 0 (omega arith) in
    rw here (no_entries os (λ k l. h (suc k) (omega arith)))

few_keep : {T : Type 0} (q : ℕ → Bool) (slots : List (Slot T)) → length (entries_of (keep q slots)) ≤ length (entries_of slots)
few_keep q [] = omega arith
few_keep q (Free ∷ os) = rw (kept_no (q 0) (Free)) (few_keep (λ k. q (suc k)) os)
few_keep q (Taken d n x ∷ os) =
    let rest = few_keep (λ k. q (suc k)) os in
    elim (cases_Bool (q 0)) [
      | inl t ↦ rw t (omega (arith, rest))
      | inr f ↦ rw f (omega (arith, rest))
    ]

all_keep : {T : Type 0} (P : T → Type 0) (q : ℕ → Bool) (slots : List (Slot T)) → AllByRecursion P (keys_of (entries_of slots)) → AllByRecursion P (keys_of (entries_of (keep q slots)))
all_keep P q [] h = h
all_keep P q (Free ∷ os) h = rw (kept_no (q 0) (Free)) (all_keep P (λ k. q (suc k)) os h)
all_keep P q (Taken d n x ∷ os) h =
    let rest = all_keep P (λ k. q (suc k)) os h.1 in
    elim (cases_Bool (q 0)) [
      | inl t ↦ rw t (h.0, rest)
      | inr f ↦ rw f rest
    ]

distinct_keep : {T : Type 0} (eq : T → T → Bool) (q : ℕ → Bool) (slots : List (Slot T)) → IsDistinct eq (keys_of (entries_of slots)) → IsDistinct eq (keys_of (entries_of (keep q slots)))
unfolding IsDistinct
distinct_keep eq q [] h = h
distinct_keep eq q (Free ∷ os) h = rw (kept_no (q 0) (Free)) (distinct_keep eq (λ k. q (suc k)) os h)
distinct_keep eq q (Taken d n x ∷ os) h =
    let rest = distinct_keep eq (λ k. q (suc k)) os h.1 in
    elim (cases_Bool (q 0)) [
      | inl t ↦ rw t (all_keep (λ y. eq x y ≡ false) (λ k. q (suc k)) os h.0, rest)
      | inr f ↦ rw f rest
    ]

-- ---- the indices that are settled: those less than a indices on from f
abbrev pub done : ℕ → ℕ → ℕ → ℕ → Bool
done n f a k = ltb (distance n f k) a

abbrev pub part : {T : Type 0} → ℕ → ℕ → ℕ → List (Slot T) → List (Slot T)
part n f a slots = keep (done n f a) slots

same_index : (n f k p : ℕ) → f < n → k < n → p < n → distance n f k ≡ distance n f p → k ≡ p
same_index n f k p l kb pb e = sym (ahead-distance n f k l kb) ∙ ap (ahead n f) e ∙ ahead-distance n f p l pb

done_more : (n f a p k : ℕ) → f < n → p < n → k < n → distance n f p ≡ a → (k ≡ p → ⊥) → done n f (a + 1) k ≡ done n f a k
done_more n f a p k l pb kb far other = elim (cases_lt (distance n f k) a) [
  | inl near ↦ lt-ltb _ _ (omega arith) ∙ sym (lt-ltb _ _ near)
  | inr u ↦ elim (cases_eq (distance n f k) a) [
    | inl e ↦ absurd (other (same_index n f k p l kb pb (e ∙ sym far)))
    | inr off ↦ le-ltb _ _ (omega (arith, off)) ∙ sym (le-ltb _ _ u)
  ]
]

part_yes : {T : Type 0} (n f a : ℕ) (slots : List (Slot T)) (k : ℕ) → distance n f k < a → get_or (part n f a slots) k Free ≡ get_or slots k Free
part_yes n f a slots k l = at_keep (done n f a) slots k ∙ ap (λ b. cond b (get_or slots k Free) Free) (lt-ltb (distance n f k) a l)

part_no : {T : Type 0} (n f a : ℕ) (slots : List (Slot T)) (k : ℕ) → a ≤ distance n f k → get_or (part n f a slots) k Free ≡ Free
part_no n f a slots k l = at_keep (done n f a) slots k ∙ ap (λ b. cond b (get_or slots k Free) Free) (le-ltb (distance n f k) a l)

-- an index whose slot is free, settled or not
part_free : {T : Type 0} (n f a : ℕ) (slots : List (Slot T)) (k : ℕ) → get_or slots k Free ≡ Free → get_or (part n f a slots) k Free ≡ Free
part_free n f a slots k e = at_keep (done n f a) slots k ∙ ap (λ o. cond (done n f a k) o Free) e ∙ kept_no (done n f a k) Free

-- the turn of the index p, which is a indices on from f
module _ (n f a p : ℕ) (fb : f < n) (pb : p < n) (far : distance n f p ≡ a) where
  other_part : {T : Type 0} (slots : List (Slot T)) (k : ℕ) → k < n → (k ≡ p → ⊥) → get_or (part n f (a + 1) slots) k Free ≡ get_or (part n f a slots) k Free
  other_part slots k kb other = at_keep (done n f (a + 1)) slots k ∙ ap (λ b. cond b (get_or slots k Free) Free) (done_more n f a p k fb pb kb far other) ∙ sym (at_keep (done n f a) slots k)

  -- one slot more
  pub next_part : {T : Type 0} (slots : List (Slot T)) → length slots ≡ n → part n f (a + 1) slots ≡ set (part n f a slots) p (get_or slots p Free)
  next_part {T} slots long =
      let old = part n f a slots in
      let v = get_or slots p Free in
      let size : length old ≡ n = length_keep (done n f a) slots ∙ long in
      let size' : length (part n f (a + 1) slots) ≡ n = length_keep (done n f (a + 1)) slots ∙ long in
      same_slots (part n f (a + 1) slots) (set old p v) (omega (arith, size, size', length-set old p v)) (λ k l. elim (cases_eq k p) [
        | inl same ↦
            let right : get_or (set old p v) p Free ≡ v = get_or-set_same old p v Free (omega (arith, size, pb)) in
            rw same (part_yes n f (a + 1) slots p (omega (arith, far)) ∙ sym right)
        | inr other ↦ other_part slots k (omega (arith, l, size')) other ∙ sym (get_or-set_other old p k v Free other)
      ])

  -- p was emptied
  pub freed_part : {T : Type 0} (slots : List (Slot T)) → length slots ≡ n → part n f (a + 1) (set slots p Free) ≡ part n f a slots
  freed_part {T} slots long =
      let new = set slots p Free in
      let size : length (part n f a slots) ≡ n = length_keep (done n f a) slots ∙ long in
      let size' : length (part n f (a + 1) new) ≡ n = length_keep (done n f (a + 1)) new ∙ (length-set slots p Free ∙ long) in
      same_slots (part n f (a + 1) new) (part n f a slots) (omega (arith, size, size')) (λ k l. elim (cases_eq k p) [
        | inl same ↦
            let gone : get_or new p Free ≡ Free = get_or-set_same slots p Free Free (omega (arith, long, pb)) in
            rw same (part_free n f (a + 1) new p gone ∙ sym (part_no n f a slots p (omega (arith, far))))
        | inr other ↦
            let still : get_or new k Free ≡ get_or slots k Free = get_or-set_other slots p k Free Free other in
            at_keep (done n f (a + 1)) new k ∙ ap (λ o. cond (done n f (a + 1) k) o Free) still ∙ sym (at_keep (done n f (a + 1)) slots k) ∙ other_part slots k (omega (arith, l, size')) other
      ])

  -- p was emptied, and q filled
  pub moved_part : {T : Type 0} (slots : List (Slot T)) → length slots ≡ n → (q : ℕ) (v : Slot T) → q < n → distance n f q ≤ a → part n f (a + 1) (set (set slots p Free) q v) ≡ set (part n f a slots) q v
  moved_part {T} slots long q v qb near =
      let mid = set slots p Free in
      let new = set mid q v in
      let old = part n f a slots in
      let long' : length mid ≡ n = length-set slots p Free ∙ long in
      let freed = freed_part slots long in
      let size : length old ≡ n = length_keep (done n f a) slots ∙ long in
      let size' : length (part n f (a + 1) new) ≡ n = length_keep (done n f (a + 1)) new ∙ (length-set mid q v ∙ long') in
      same_slots (part n f (a + 1) new) (set old q v) (omega (arith, size, size', length-set old q v)) (λ k l. elim (cases_eq k q) [
        | inl same ↦
            let left : get_or new q Free ≡ v = get_or-set_same mid q v Free (omega (arith, long', qb)) in
            let right : get_or (set old q v) q Free ≡ v = get_or-set_same old q v Free (omega (arith, size, qb)) in
            rw same (part_yes n f (a + 1) new q (omega (arith, near)) ∙ (left ∙ sym right))
        | inr other ↦
            let still : get_or new k Free ≡ get_or mid k Free = get_or-set_other mid q k v Free other in
            at_keep (done n f (a + 1)) new k ∙ ap (λ o. cond (done n f (a + 1) k) o Free) still ∙ sym (at_keep (done n f (a + 1)) mid k) ∙ ap (λ l. get_or l k Free) freed ∙ sym (get_or-set_other old q k v Free other)
      ])

-- ---- what is left of the entries
purged_one : {T : Type 0} (m : ℕ) (es : List (T × ℕ)) (e : T × ℕ) → purged m (es ++ e ∷ []) ≡ purged m es ++ purged m (e ∷ [])
purged_one {T} m es e =
    let left : T × ℕ → T × ℕ = λ f. (f.0, f.1 - m) in
    let stays : T × ℕ → Bool = λ f. ltb m f.1 in
    ap (map left) (filter-append stays es (e ∷ [])) ∙ map-append left (filter stays es) (filter stays (e ∷ []))

purged_more : {T : Type 0} (m : ℕ) (es : List (T × ℕ)) (x : T) (c : ℕ) → m < c → purged m (es ++ (x, c) ∷ []) ≡ purged m es ++ (x, c - m) ∷ []
purged_more m es x c l = purged_one m es (x, c) ∙ rw (lt-ltb m c l) refl

purged_same : {T : Type 0} (m : ℕ) (es : List (T × ℕ)) (x : T) (c : ℕ) → c ≤ m → purged m (es ++ (x, c) ∷ []) ≡ purged m es
purged_same m es x c l = purged_one m es (x, c) ∙ (rw (le-ltb m c l) refl ∙ append-nil (purged m es))

purged-permutation : {T : Type 0} (m : ℕ) (es fs : List (T × ℕ)) → IsPermutation es fs → IsPermutation (purged m es) (purged m fs)
purged-permutation {T} m es fs p = IsPermutation-map (λ (e : T × ℕ). (e.0, e.1 - m)) _ _ (filter-permutation (λ (e : T × ℕ). ltb m e.1) es fs p)

purged_absent : {T : Type 0} (eq : T → T → Bool) (m : ℕ) (es : List (T × ℕ)) (x : T) → list_any (eq x) (keys_of es) ≡ false → list_any (eq x) (keys_of (purged m es)) ≡ false
purged_absent eq m [] x h = refl
purged_absent {T} eq m (e ∷ es) x h = elim (cases_Bool (eq x e.0)) [
  | inl t ↦ let yes : true ≡ false = rw t at h in absurd (false≢true (sym yes))
  | inr f ↦
      let h' : list_any (eq x) (keys_of es) ≡ false = rw f at h in
      let rest = purged_absent eq m es x h' in
      elim (cases_lt m e.1) [
        | inl u ↦ rw (lt-ltb m e.1 u) (rw f rest)
        | inr u ↦ rw (le-ltb m e.1 u) rest
      ]
]

-- ---- a sweep that has settled the indices less than a indices on from f, which was free
pub record Sweep {T : Type 0} (eq : T → T → Bool) (hashed : T → ℕ) (m : ℕ) (old slots : List (Slot T)) (f a removed : ℕ) : Type 0 where
  pub below : f < length old
  pub free : is_taken old f ≡ false
  pub long : length slots ≡ length old
  pub rest : (k : ℕ) → a ≤ distance (length old) f k → get_or slots k Free ≡ get_or old k Free
  pub ok : IsSlots eq hashed (part (length old) f a slots)
  pub entries : IsPermutation (purged m (entries_of (part (length old) f a old))) (entries_of (part (length old) f a slots))
  pub count : removed + length (entries_of (part (length old) f a slots)) ≡ length (entries_of (part (length old) f a old))

pub sweep_starts : {T : Type 0} (eq : T → T → Bool) (hashed : T → ℕ) (m : ℕ) (old : List (Slot T)) (f : ℕ) → IsSlots eq hashed old → f < length old → is_taken old f ≡ false → Sweep eq hashed m old old f 1 0
sweep_starts {T} eq hashed m old f ok l free =
    let n = length old in
    let size : length (part n f 1 old) ≡ n = length_keep (done n f 1) old in
    let none : entries_of (part n f 1 old) ≡ [] = no_entries (part n f 1 old) (λ k kb. elim (cases_lt (distance n f k) 1) [
      | inl near ↦
          let at : k ≡ f = same_index n f k f l (omega (arith, kb, size)) l (omega (arith, near, distance-same n f l)) in
          part_free n f 1 old k (ap (λ q. get_or old q Free) at ∙ slot_from_none (get_or old f Free) free)
      | inr far ↦ part_no n f 1 old k far
    ]) in
    record {
      below = l;
      free = free;
      long = refl;
      rest = λ k h. refl;
      ok = IsSlots-free eq hashed (part n f 1 old) none (rw size ok.size);
      entries = rw none (IsPermutation-refl _);
      count = rw none refl;
    }

-- ---- a turn at the index p
pub turn_index : (n f a p : ℕ) → f < n → a < n → p ≡ ahead n f a → (p < n) × (distance n f p ≡ a)
turn_index n f a p l b is =
    let at = ahead_is n f a l (omega arith) in
    (omega (arith, is, at.below), ap (distance n f) is ∙ distance-ahead n f a l b)

-- indices between a home and the index p, with f behind p
along : (n h p f j : ℕ) → h < n → p < n → f < n → distance n h p < distance n h f → j ≤ distance n h p → distance n f (ahead n h j) + (distance n h p - j) ≡ distance n f p
along n h p f j hb pb fb less le =
    let hp = distance_is n h p hb pb in
    let hf = distance_is n h f hb fb in
    let fp = distance_is n f p fb pb in
    let at = ahead_is n h j hb (omega (arith, hp.below)) in
    let fa = distance_is n f (ahead n h j) fb at.below in
    omega (arith, hp, hf, fp, at, fa)

-- the entries of the settled indices and of p
record More {T : Type 0} (old : List (Slot T)) (f a : ℕ) (s : Held T) : Type 0 where
  pub entries : IsPermutation (entries_of (part (length old) f a old) ++ (s.item, s.count) ∷ []) (entries_of (part (length old) f (a + 1) old))
  pub size : length (entries_of (part (length old) f (a + 1) old)) ≡ length (entries_of (part (length old) f a old)) + 1

module _ {T : Type 0} {eq : T → T → Bool} (laws : IsEquivalence eq) (hashed : T → ℕ) (m : ℕ) (old slots : List (Slot T)) (f a removed p : ℕ) (ok : IsSlots eq hashed old) (w : Sweep eq hashed m old slots f a removed) (pb : p < length old) (far : distance (length old) f p ≡ a) where
  here : get_or slots p Free ≡ get_or old p Free
  here = w.rest p (omega (arith, far))

  empty_there : (xs : List (Slot T)) → is_taken (part (length old) f a xs) p ≡ false
  empty_there xs = ap (λ o. is_some (held o)) (part_no (length old) f a xs p (omega (arith, far)))

  still_rest : (k : ℕ) → a + 1 ≤ distance (length old) f k → get_or (set slots p Free) k Free ≡ get_or old k Free
  still_rest k h =
      let other : k ≡ p → ⊥ = λ same. absurd (omega (arith, h, ap (distance (length old) f) same, far)) in
      get_or-set_other slots p k Free Free other ∙ w.rest k (omega arith)

  more : (s : Held T) → slot_at slots p ≡ Some s → More old f a s
  more s at =
      let n = length old in
      let before = part n f a old in
      let is : part n f (a + 1) old ≡ set before p (taken s) = next_part n f a p w.below pb far old refl ∙ ap (set before p) (sym here ∙ slot_from_held (get_or slots p Free) s at) in
      let size : length before ≡ n = length_keep (done n f a) old in
      let perm : IsPermutation (entries_of before ++ (s.item, s.count) ∷ []) (entries_of (part n f (a + 1) old)) = rw is (put_miss before p s (omega (arith, size, pb)) (empty_there old)) in
      let last : List (T × ℕ) = (s.item, s.count) ∷ [] in
      record { entries = perm; size = omega (arith, length_permutation _ _ perm, length-append (entries_of before) last) }

  turn_free : is_taken slots p ≡ false → Sweep eq hashed m old slots f (a + 1) removed
  turn_free none =
      let n = length old in
      let nothing : get_or slots p Free ≡ Free = slot_from_none (get_or slots p Free) none in
      let mine : part n f (a + 1) slots ≡ part n f a slots = next_part n f a p w.below pb far slots w.long ∙ ap (set (part n f a slots) p) nothing ∙ set_free (part n f a slots) p (empty_there slots) in
      let theirs : part n f (a + 1) old ≡ part n f a old = next_part n f a p w.below pb far old refl ∙ ap (set (part n f a old) p) (sym here ∙ nothing) ∙ set_free (part n f a old) p (empty_there old) in
      record {
        below = w.below;
        free = w.free;
        long = w.long;
        rest = λ k h. w.rest k (omega arith);
        ok = rw mine w.ok;
        entries = rw (mine, theirs) w.entries;
        count = rw (mine, theirs) w.count;
      }

  turn_spent : (s : Held T) → slot_at slots p ≡ Some s → s.count ≤ m → (new : List (Slot T)) → new ≡ set slots p Free → Sweep eq hashed m old new f (a + 1) (removed + 1)
  turn_spent s at low new is =
      let n = length old in
      let one = more s at in
      let mine : part n f (a + 1) (set slots p Free) ≡ part n f a slots = freed_part n f a p w.below pb far slots w.long in
      let step : IsPermutation (purged m (entries_of (part n f (a + 1) old))) (purged m (entries_of (part n f a old))) = rw (purged_same m (entries_of (part n f a old)) s.item s.count low) at (purged-permutation m _ _ (IsPermutation-sym _ _ one.entries)) in
      rw is (record {
        below = w.below;
        free = w.free;
        long = length-set slots p Free ∙ w.long;
        rest = still_rest;
        ok = rw mine w.ok;
        entries = rw mine (IsPermutation-trans _ _ _ step w.entries);
        count = rw mine (omega (arith, w.count, one.size));
      })

  -- the item is not among those that stand already
  absent : (s : Held T) → slot_at slots p ≡ Some s → is_tracked eq (entries_of (part (length old) f a slots)) s.item ≡ false
  absent s at =
      let n = length old in
      let es = entries_of (part n f a old) in
      let last : List (T × ℕ) = (s.item, s.count) ∷ [] in
      let one = more s at in
      let keys = IsDistinct-IsPermutation eq laws.symm _ _ (IsPermutation-map (λ (e : T × ℕ). e.0) _ _ (IsPermutation-sym _ _ one.entries)) (distinct_keep eq (done n f (a + 1)) old ok.distinct) in
      let keys' : IsDistinct eq (keys_of es ++ s.item ∷ []) = rw (map-append (λ (e : T × ℕ). e.0) es last) at keys in
      is_tracked-permutation eq (purged m es) (entries_of (part n f a slots)) s.item w.entries ∙ is_tracked-keys eq (purged m es) s.item ∙ purged_absent eq m es s.item (last_apart laws (keys_of es) s.item [] keys')

  turn_left : (s : Held T) → slot_at slots p ≡ Some s → m < s.count → (new : List (Slot T)) → Moves (home_in hashed (length slots)) slots p m s new → Sweep eq hashed m old new f (a + 1) removed
  turn_left s at high new moves =
      let n = length old in
      let h = home_in hashed n s.item in
      let hb : h < n = remainder_below _ n (some_size n ok.size) in
      let mid = set slots p Free in
      let now = part n f a slots in
      let before = part n f a old in
      let q = moves.index in
      let v : Slot T = Taken moves.probed (s.count - m) s.item in
      let one = more s at in
      let long_mid : length mid ≡ n = length-set slots p Free ∙ w.long in
      let long_now : length now ≡ n = length_keep (done n f a) slots ∙ w.long in
      let G : ℕ → Type 0 = λ z. IsFreeSlot (home_in hashed z s.item) mid q moves.probed in
      let free_slot : IsFreeSlot h mid q moves.probed = subst G w.long moves.free_slot in
      let taken_mid : (j : ℕ) → j + 1 < moves.probed → is_taken mid (ahead n h j) ≡ true = λ j l. ap (λ z. is_taken mid (ahead z h j)) (sym long_mid) ∙ free_slot.taken j l in
      let q_is : q ≡ ahead n h (moves.probed - 1) = free_slot.index_is ∙ ap (λ z. ahead z h (moves.probed - 1)) long_mid in
      let at_old : slot_at old p ≡ Some s = ap held (sym here) ∙ at in
      let behind : distance n h p < distance n h f = elim (cases_lt (distance n h p) (distance n h f)) [
        | inl l ↦ l
        | inr g ↦ absurd (both_ways _ w.free (ap (is_taken old) (sym (ahead-distance n h f hb w.below)) ∙ ok.placed.run p s at_old (distance n h f) g))
      ] in
      let gone : is_taken mid p ≡ false = ap is_some (slot_at-set_same slots p Free (omega (arith, w.long, pb))) in
      let few : moves.probed ≤ distance n h p + 1 = elim (cases_lt (distance n h p + 1) moves.probed) [
        | inl l ↦ absurd (both_ways _ gone (ap (is_taken mid) (sym (ahead-distance n h p hb pb)) ∙ taken_mid (distance n h p) l))
        | inr g ↦ g
      ] in
      let q_near : distance n f q ≤ a = omega (arith, free_slot.some, few, far, ap (distance n f) q_is, along n h p f (moves.probed - 1) hb pb w.below behind (omega (arith, free_slot.some, few))) in
      let qb : q < n = let z = ahead_is n h (moves.probed - 1) hb (omega (arith, free_slot.short, long_mid)) in omega (arith, q_is, z.below) in
      let free_slot_now : IsFreeSlot h now q moves.probed = record {
        some = free_slot.some;
        short = omega (arith, free_slot.short, long_mid, long_now);
        index_is = q_is ∙ ap (λ z. ahead z h (moves.probed - 1)) (sym long_now);
        taken = λ j l.
            let k = ahead n h j in
            let near : distance n f k < a = omega (arith, l, few, far, along n h p f j hb pb w.below behind (omega (arith, l, few))) in
            let other : k ≡ p → ⊥ = λ same. absurd (omega (arith, near, far, ap (distance n f) same)) in
            ap (λ z. is_taken now (ahead z h j)) long_now ∙ ap (λ o. is_some (held o)) (part_yes n f a slots k near) ∙ sym (ap is_some (slot_at-set_other slots p k Free other)) ∙ taken_mid j l;
        free = elim (cases_eq q p) [
          | inl same ↦ ap (is_taken now) same ∙ empty_there slots
          | inr other ↦ ap (λ o. is_some (held o)) (part_free n f a slots q (slot_from_none (get_or slots q Free) (sym (ap is_some (slot_at-set_other slots p q Free other)) ∙ free_slot.free)))
        ];
      } in
      let N : ℕ → Type 0 = λ z. IsFreeSlot (home_in hashed z s.item) now q moves.probed in
      let new_part : part n f (a + 1) (set mid q v) ≡ set now q v = moved_part n f a p w.below pb far slots w.long q v qb q_near in
      let gone_before = absent s at in
      let room : length (entries_of now) + 1 < length now = omega (arith, w.count, one.size, few_keep (done n f (a + 1)) old, ok.room, long_now) in
      let wrote = wrote_free_slot laws hashed now w.ok s.item (s.count - m) q moves.probed gone_before room (subst N (sym long_now) free_slot_now) (part n f (a + 1) (set mid q v)) new_part in
      let rest_of : List (T × ℕ) = (s.item, s.count - m) ∷ [] in
      let step : IsPermutation (purged m (entries_of (part n f (a + 1) old))) (purged m (entries_of before) ++ rest_of) = rw (purged_more m (entries_of before) s.item s.count high) at (purged-permutation m _ _ (IsPermutation-sym _ _ one.entries)) in
      let pushed : put eq (entries_of now) s.item (s.count - m) ≡ entries_of now ++ rest_of = put_new eq (entries_of now) s.item (s.count - m) gone_before in
      let last : IsPermutation (entries_of now ++ rest_of) (entries_of (part n f (a + 1) (set mid q v))) = rw pushed at wrote.entries in
      rw moves.made (record {
        below = w.below;
        free = w.free;
        long = length-set mid q v ∙ long_mid;
        rest = λ k g.
            let other : k ≡ q → ⊥ = λ same. absurd (omega (arith, g, q_near, ap (distance n f) same)) in
            get_or-set_other mid q k v Free other ∙ still_rest k g;
        ok = wrote.slots_ok;
        entries = IsPermutation-trans _ _ _ step (IsPermutation-trans _ _ _ (IsPermutation-append_left rest_of _ _ w.entries) last);
        count = omega (arith, w.count, one.size, length_permutation _ _ last, length-append (entries_of now) rest_of);
      })

  pub sweep_turn : (dropped : Bool) (new : List (Slot T)) → Settles (home_in hashed (length slots)) slots p m dropped new → (dropped ≡ true → Sweep eq hashed m old new f (a + 1) (removed + 1)) × (dropped ≡ false → Sweep eq hashed m old new f (a + 1) removed)
  sweep_turn dropped new turn = elim (cases_Bool (is_taken slots p)) [
    | inr none ↦
        let t = turn.free none in
        (λ yes. absurd (both_ways _ t.0 yes), λ no. rw t.1 (turn_free none))
    | inl some ↦
        let s = taken_slot (slot_at slots p) some in
        elim (cases_lt m s.0.count) [
          | inl high ↦
              let t = turn.left s.0 s.1 high in
              (λ yes. absurd (both_ways _ t.0 yes), λ no. turn_left s.0 s.1 high new t.1)
          | inr low ↦
              let t = turn.spent s.0 s.1 low in
              (λ yes. turn_spent s.0 s.1 low new t.1, λ no. absurd (both_ways _ no t.0))
        ]
  ]

  -- what the turn needs
  pub turn_drift : HasDrift (home_in hashed (length slots)) slots p
  turn_drift s at =
      let D : ℕ → Type 0 = λ z. s.drift ≡ distance z (home_in hashed z s.item) p + 1 in
      subst D (sym w.long) (ok.placed.drift p s (ap held (sym here) ∙ at))

-- ---- the end
pub sweep_ends : {T : Type 0} {eq : T → T → Bool} {hashed : T → ℕ} {m : ℕ} {old slots : List (Slot T)} {f a removed : ℕ} → Sweep eq hashed m old slots f a removed → length old ≤ a →
    IsSlots eq hashed slots × IsPermutation (purged m (entries_of old)) (entries_of slots) × (removed + length (entries_of slots) ≡ length (entries_of old))
sweep_ends {T} {eq} {hashed} {m} {old} {slots} {f} {a} {removed} w all =
    let n = length old in
    let whole : (xs : List (Slot T)) → length xs ≡ n → part n f a xs ≡ xs = λ xs long.
    let size : length (part n f a xs) ≡ length xs = length_keep (done n f a) xs in
    same_slots (part n f a xs) xs size (λ k l. let d = distance_is n f k w.below (omega (arith, l, size, long)) in part_yes n f a xs k (omega (arith, d.below, all)))
    in
    let mine = whole slots w.long in
    let theirs = whole old refl in
    (rw mine at w.ok, rw (mine, theirs) at w.entries, rw (mine, theirs) at w.count)

-- fewer were dropped than a table has
pub sweep_few : {T : Type 0} {eq : T → T → Bool} {hashed : T → ℕ} {m : ℕ} {old slots : List (Slot T)} {f a removed : ℕ} → Sweep eq hashed m old slots f a removed → removed ≤ length (entries_of old)
sweep_few {T} {eq} {hashed} {m} {old} {slots} {f} {a} {removed} w = omega (arith, w.count, few_keep (done (length old) f a) old)
