-- The items of a sequence, counted or looked up one after another.
use Rattle.std.proofs.Common.{inl, inr, ◌≡◌, ℕ, suc, ◌+◌, ◌-◌, ◌<◌, ◌≤◌, Bool, map, take, drop, get_or, set, get_or-set_same, get_or-set_other, true, false, cond, List, [], ◌∷◌, ◌++◌, length, append_assoc, ℤ, pos, ◌+ℤ◌, refl, sym, ap, ◌∙◌, subst, arith}
use Rattle.std.specs.Prelude.{◌==◌, count_by}
use Rattle.std.proofs.lemmas.Bool.{cases_eq, cases_lt, false≢true}
use Rattle.std.proofs.lemmas.Int.{ints}
use Rattle.std.proofs.lemmas.List.{length_push, length-append, length-map, map-append, map-set, append-nil, take_all, length-drop, get_or-drop, drop-drop, get_or_default}
use Rattle.std.proofs.lemmas.List.Sums.{sum_by_push}
use Rattle.sketch_countmin.specs.Buckets.{bucket_of}
use Rattle.sketch_countmin.specs.Rows.{cell_at}
use Rattle.sketch_countmin.specs.State.{CountState, Counts, CountsAll}

-- ---- items counted with weight 1

-- the items before the rest are counted
pub record HasCounted (old : CountState) (items rest : List (List ℕ)) (new : CountState) : Type 0 where
  pub before : List (List ℕ)
  pub parts : items ≡ before ++ rest
  pub counted : CountsAll old before new

pub counts_none : (old : CountState) → CountsAll old [] old
counts_none old = record {
  shape = record { hashes = refl; buckets = refl; seed = refl };
  total = omega arith;
  cells = λ r lr b lb. omega (arith, ints);
}

pub counted_none : (old : CountState) (items : List (List ℕ)) → HasCounted old items items old
counted_none old items = record { before = []; parts = refl; counted = counts_none old }

by_test : (t : Bool) (z : ℤ) (n : ℕ) → (z +ℤ pos n) +ℤ cond t (pos 1) (pos 0) ≡ z +ℤ pos (n + cond t 1 0)
by_test true z n = omega (arith, ints)
by_test false z n = omega (arith, ints)

-- one more is counted
pub counts_more : (old mid new : CountState) (items : List (List ℕ)) (bytes : List ℕ) → CountsAll old items mid → Counts mid bytes (pos 1) new
    → CountsAll old (items ++ bytes ∷ []) new
counts_more old mid new items bytes all one = record {
  shape = record {
    hashes = one.shape.hashes ∙ all.shape.hashes;
    buckets = one.shape.buckets ∙ all.shape.buckets;
    seed = one.shape.seed ∙ all.shape.seed;
  };
  total = omega (arith, one.total, all.total, length_push items bytes);
  cells = λ r lr b lb.
      let row : r < mid.hashes = omega (arith, lr, all.shape.hashes) in
      let place : b < mid.buckets = omega (arith, lb, all.shape.buckets) in
      let test : List ℕ → Bool = λ other. bucket_of old.buckets old.seed r other == b in
      let same : (bucket_of mid.buckets mid.seed r bytes == b) ≡ test bytes =
      ap (λ (n : ℕ). bucket_of n mid.seed r bytes == b) all.shape.buckets ∙ ap (λ (n : ℕ). bucket_of old.buckets n r bytes == b) all.shape.seed in
      one.cells r row b place
      ∙ (ap (λ (z : ℤ). z +ℤ cond (bucket_of mid.buckets mid.seed r bytes == b) (pos 1) (pos 0)) (all.cells r lr b lb)
      ∙ (ap (λ (t : Bool). (cell_at old.rows r b +ℤ pos (count_by test items)) +ℤ cond t (pos 1) (pos 0)) same
      ∙ (by_test (test bytes) (cell_at old.rows r b) (count_by test items)
      ∙ ap (λ (n : ℕ). cell_at old.rows r b +ℤ pos n) (sym (sum_by_push (λ other. cond (test other) 1 0) items bytes)))));
}

pub counted_more : (old mid new : CountState) (items rest after : List (List ℕ)) (bytes : List ℕ) → HasCounted old items rest mid → rest ≡ bytes ∷ after → Counts mid bytes (pos 1) new → HasCounted old items after new
counted_more old mid new items rest after bytes so next one = record {
  before = so.before ++ bytes ∷ [];
  parts = so.parts ∙ (ap (λ l. so.before ++ l) next ∙ sym (append_assoc so.before (bytes ∷ []) after));
  counted = counts_more old mid new so.before bytes so.counted one;
}

take_front : {A : Type 0} (xs ys : List A) → take (length xs) (xs ++ ys) ≡ xs
take_front [] ys = refl
take_front (x ∷ xs) ys = ap (λ l. x ∷ l) (take_front xs ys)

-- all items are counted, and the total had room for them
pub counted_all : (old new : CountState) (items rest : List (List ℕ)) (greatest : ℕ) → HasCounted old items rest new → rest ≡ [] → new.total ≤ greatest
    → CountsAll old (take (greatest - old.total) items) new × (old.total + length items ≤ greatest)
counted_all old new items rest greatest so none fits =
    let whole : items ≡ so.before = so.parts ∙ (ap (λ l. so.before ++ l) none ∙ append-nil so.before) in
    let fit : old.total + length items ≤ greatest = omega (arith, so.counted.total, ap length whole) in
    let room : length items ≤ greatest - old.total = omega (arith, fit) in
    (subst (λ xs. CountsAll old xs new) (sym (take_all (greatest - old.total) items room ∙ whole)) so.counted, fit)

-- the items that the total has room for are counted, and there is one more
pub counted_stop : (old mid new : CountState) (items rest after : List (List ℕ)) (bytes : List ℕ) (greatest : ℕ) → HasCounted old items rest mid → rest ≡ bytes ∷ after
    → mid.total ≤ greatest → (mid.total + 1 ≤ greatest → false ≡ true) → new ≡ mid
    → CountsAll old (take (greatest - old.total) items) new × (greatest < old.total + length items)
counted_stop old mid new items rest after bytes greatest so next fits full same =
    let over : greatest < mid.total + 1 = elim (cases_lt greatest (mid.total + 1)) [ inl lt ↦ lt | inr le ↦ absurd (false≢true (full le)) ] in
    let split : items ≡ so.before ++ bytes ∷ after = so.parts ∙ ap (λ l. so.before ++ l) next in
    let room : greatest - old.total ≡ length so.before = omega (arith, so.counted.total) in
    let front : take (greatest - old.total) items ≡ so.before = ap (λ (n : ℕ). take n items) room ∙ (ap (take (length so.before)) split ∙ take_front so.before (bytes ∷ after)) in
    (rw same (subst (λ xs. CountsAll old xs mid) (sym front) so.counted), omega (arith, so.counted.total, ap length split, length-append so.before (bytes ∷ after)))

-- ---- the items of an iterator

module _ {A : Type 0} (bytes : A → List ℕ) where
  pub seen_more : (old mid new : CountState) (seen : List A) (item : A) → CountsAll old (map bytes seen) mid → Counts mid (bytes item) (pos 1) new → CountsAll old (map bytes (seen ++ item ∷ [])) new
  seen_more old mid new seen item so one = subst (λ l. CountsAll old l new) (sym (map-append bytes seen (item ∷ []))) (counts_more old mid new (map bytes seen) (bytes item) so one)

  -- all items are counted
  pub seen_all : (old new : CountState) (seen : List A) (greatest : ℕ) → CountsAll old (map bytes seen) new → new.total ≤ greatest
      → CountsAll old (take (greatest - old.total) (map bytes seen)) new × (old.total + length (map bytes seen) ≤ greatest)
  seen_all old new seen greatest so fits = counted_all old new (map bytes seen) [] greatest (record { before = map bytes seen; parts = sym (append-nil (map bytes seen)); counted = so }) refl fits

  -- the total has no room for the last item
  pub seen_stop : (old mid new : CountState) (seen : List A) (item : A) (greatest : ℕ) → CountsAll old (map bytes seen) mid → mid.total ≤ greatest → (mid.total + 1 ≤ greatest → false ≡ true) → new ≡ mid
      → CountsAll old (take (greatest - old.total) (map bytes (seen ++ item ∷ []))) new × (old.total + length (map bytes (seen ++ item ∷ [])) ≡ greatest + 1)
  seen_stop old mid new seen item greatest so fits full same =
      let stop = counted_stop old mid new (map bytes (seen ++ item ∷ [])) (bytes item ∷ []) [] (bytes item) greatest
      (record { before = map bytes seen; parts = map-append bytes seen (item ∷ []); counted = so }) refl fits full same in
      (stop.0, omega (arith, so.total, fits, stop.1, ap length (map-append bytes seen (item ∷ [])), length-append (map bytes seen) (bytes item ∷ [])))

-- ---- an item and those after it, by its index

-- the item at an index, if the items from there on are it and others
pub record IsAt (items after : List (List ℕ)) (i : ℕ) (bytes : List ℕ) : Type 0 where
  pub there : i < length items
  pub is : bytes ≡ get_or items i bytes
  pub after_is : drop (i + 1) items ≡ after

pub next_is : (items after : List (List ℕ)) (i : ℕ) (bytes : List ℕ) → drop i items ≡ bytes ∷ after → IsAt items after i bytes
next_is items after i bytes e =
    let long : length items - i ≡ suc (length after) = sym (length-drop i items) ∙ ap length e in
    let here : i + 0 ≡ i = omega arith in
    record {
      there = omega (arith, long);
      is = ap (λ l. get_or l 0 bytes) (sym e) ∙ (get_or-drop i items 0 bytes ∙ ap (λ (n : ℕ). get_or items n bytes) here);
      after_is = sym (drop-drop 1 i items) ∙ ap (drop 1) e;
    }

-- no item is left, so the index is past all
pub none_left : (items : List (List ℕ)) (i : ℕ) → drop i items ≡ [] → length items ≤ i
none_left items i e = let long : length items - i ≡ 0 = sym (length-drop i items) ∙ ap length e in omega (arith, long)

-- what holds of the items so far and their numbers, and of one more
pub one_more_found : {V : Type 0} (P : List ℕ → ℤ → Type 0) (number : V → ℤ) (items : List (List ℕ)) (found : List V) (i : ℕ) (bytes : List ℕ) (v : V)
    → i < length found → bytes ≡ get_or items i bytes → i < length items
    → ((k : ℕ) → k < i → P (get_or items k []) (get_or (map number found) k (pos 0)))
    → P bytes (number v)
    → (k : ℕ) → k < i + 1 → P (get_or items k []) (get_or (map number (set found i v)) k (pos 0))
one_more_found P number items found i bytes v room is there so_far one k lt =
    let numbers = map number found in
    subst (λ (zs : List ℤ). P (get_or items k []) (get_or zs k (pos 0))) (sym (map-set number found i v))
    (elim (cases_eq k i) as (λ _. P (get_or items k []) (get_or (set numbers i (number v)) k (pos 0))) [
      | inl same ↦
          let wide : i < length numbers = omega (arith, length-map found number) in
          let here : get_or items k [] ≡ bytes = ap (λ (n : ℕ). get_or items n []) same ∙ (get_or_default items i [] bytes there ∙ sym is) in
          let written : get_or (set numbers i (number v)) k (pos 0) ≡ number v = ap (λ (n : ℕ). get_or (set numbers i (number v)) n (pos 0)) same ∙ get_or-set_same numbers i (number v) (pos 0) wide in
          subst (λ (xs : List ℕ). P xs (get_or (set numbers i (number v)) k (pos 0))) (sym here) (subst (λ (z : ℤ). P bytes z) (sym written) one)
      | inr other ↦
          let before : k < i = omega arith in
          subst (λ (z : ℤ). P (get_or items k []) z) (sym (get_or-set_other numbers i k (number v) (pos 0) other)) (so_far k before)
    ])
