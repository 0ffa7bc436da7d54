-- Many updates, one after another, each of the item that a key names.
use Rattle.std.proofs.Common.{◌≡◌, ℕ, ◌+◌, ◌<◌, ◌≤◌, Bool, true, false, List, [], ◌∷◌, ◌++◌, length, map, take, drop, get_or, set, append_assoc, refl, sym, ap, ◌∙◌, subst, arith, length-drop}
use Rattle.std.proofs.lemmas.Bool.{false≢true, ltb-true, true_from_ne_false}
use Rattle.std.proofs.lemmas.List.{append-nil, map-append, get_or-drop, drop_more, take_more, take_more_set}
use Rattle.std.specs.List.{AllZip}
use Rattle.std.specs.Prelude.{IsTrue, filter, nat_lt}
use Rattle.sketch_base.specs.Errors.{ErrorValue, invalid_argument, no_memory}
use Rattle.sketch_base.specs.declared.fault.Fault.TheVariants.{WeightOverflow}
use Rattle.counter_table.specs.Tables.{is_tracked_by_key}
use Rattle.sketch_frequencies.specs.Batches.{UpdatesAll}
use Rattle.sketch_frequencies.specs.History.FrequentHistory.{Update}
use Rattle.sketch_frequencies.specs.KeyedBatches.{AreNamed, AreNamedWithWeights, UpdatesKeys, StopsAtKey, StopsAtLastKey, UpdatesWeighedKeys}
use Rattle.sketch_frequencies.specs.Stands.{Extends, ExtendsBudget}
use Rattle.sketch_frequencies.specs.State.{FrequentState, Overflows, TotalHasRoom, must_grow}
use Rattle.sketch_frequencies.specs.Steps.{StepsByKey}
use Rattle.sketch_frequencies.specs.WeightedBatches.{UpdatesWeighed}
use Rattle.sketch_frequencies.proofs.Batches.{updates_none, updates_more}
use Rattle.sketch_frequencies.proofs.Cases.{by_test}
use Rattle.sketch_frequencies.proofs.StepsByKey.{step_equal}
use Rattle.sketch_frequencies.proofs.WeightedBatches.{has_weight, weights_none, weights_push, filter_some, filter_none, zero_from}

-- ---- two lists, element by element

pub all_zip_push : {A B : Type 0} (R : A → B → Type 0) (xs : List A) (ys : List B) (x : A) (y : B) → AllZip R xs ys → R x y → AllZip R (xs ++ x ∷ []) (ys ++ y ∷ [])
all_zip_push R [] [] x y all one = (one, tt)
all_zip_push R [] (b ∷ ys) x y all one = absurd all
all_zip_push R (a ∷ xs) [] x y all one = absurd all
all_zip_push R (a ∷ xs) (b ∷ ys) x y all one = (all.0, all_zip_push R xs ys x y all.1 one)

-- the elements before the last, and the last
record Pushed {A B : Type 0} (R : A → B → Type 0) (xs : List A) (x : A) (ys : List B) : Type 0 where
  front : List B
  last : B
  is : ys ≡ front ++ last ∷ []
  fronts : AllZip R xs front
  lasts : R x last

pushed : {A B : Type 0} (R : A → B → Type 0) (xs : List A) (x : A) (ys : List B) → AllZip R (xs ++ x ∷ []) ys → Pushed R xs x ys
pushed R [] x [] all = absurd all
pushed R [] x (y ∷ []) all = record { front = []; last = y; is = refl; fronts = tt; lasts = all.0 }
pushed R [] x (y ∷ z ∷ ys) all = absurd all.1
pushed R (a ∷ xs) x [] all = absurd all
pushed R (a ∷ xs) x (y ∷ ys) all =
    let p = pushed R xs x ys all.1 in
    record { front = y ∷ p.front; last = p.last; is = ap (λ l. y ∷ l) p.is; fronts = (all.0, p.fronts); lasts = p.lasts }

-- ---- a failed update, which changed nothing

-- if it needs no memory, the table must double
pub due_to_double : {T : Type 0} (mid new : FrequentState T) → new ≡ mid → (TotalHasRoom mid 1 → must_grow mid ≡ false → false ≡ true) → TotalHasRoom new 1 → must_grow new ≡ true
due_to_double mid new same free = rw same (λ room. true_from_ne_false (must_grow mid) (λ f. false≢true (free room f)))

-- ---- updates of weight 1

module _ {T : Type 0} (eq : T → T → Bool) where
  -- the items of the keys before those that are left were added
  pub record HasAdded (old : FrequentState T) (keys left : List (T → Bool)) (new : FrequentState T) : Type 0 where
    pub before : List (T → Bool)
    pub parts : keys ≡ before ++ left
    pub added : UpdatesKeys eq old before new

  none_named : (old : FrequentState T) (items : List T) → AreNamed [] items → items ≡ []
  none_named old [] named = refl
  none_named old (x ∷ xs) named = absurd named

  pub keys_none : (old : FrequentState T) → UpdatesKeys eq old [] old
  keys_none old = record {
    some = ([], tt);
    updates = λ items named. subst (λ xs. UpdatesAll eq old xs old) (sym (none_named old items named)) (updates_none eq old);
  }

  pub added_none : (old : FrequentState T) (keys : List (T → Bool)) → HasAdded old keys keys old
  added_none old keys = record { before = []; parts = refl; added = keys_none old }

  keys_more : (old mid new : FrequentState T) (keys : List (T → Bool)) (key : T → Bool) → ((x y : T) → IsTrue (key x) → key y ≡ eq x y) → UpdatesKeys eq old keys mid → StepsByKey eq mid key 1 new
      → ((x : T) → IsTrue (key x) → Extends eq mid new (λ h. Update h x 1)) → ((x : T) → IsTrue (key x) → ExtendsBudget eq mid new (λ h. Update h x 1)) → UpdatesKeys eq old (keys ++ key ∷ []) new
  keys_more old mid new keys key alike so step stands budget =
      let R : (T → Bool) → T → Type 0 = λ k x. IsTrue (k x) in
      record {
        some = (so.some.0 ++ step.item ∷ [], all_zip_push R keys so.some.0 key step.item so.some.1 step.named);
        updates = λ items named.
            let p = pushed R keys key items named in
            subst (λ xs. UpdatesAll eq old xs new) (sym p.is) (updates_more eq old mid new p.front p.last (so.updates p.front p.fronts) (step_equal alike p.last p.lasts step) (stands p.last p.lasts) (budget p.last p.lasts));
      }

  -- one more key
  pub added_more : (old mid new : FrequentState T) (keys left later : List (T → Bool)) (key : T → Bool) → ((x y : T) → IsTrue (key x) → key y ≡ eq x y) → HasAdded old keys left mid → left ≡ key ∷ later → StepsByKey eq mid key 1 new
      → ((x : T) → IsTrue (key x) → Extends eq mid new (λ h. Update h x 1)) → ((x : T) → IsTrue (key x) → ExtendsBudget eq mid new (λ h. Update h x 1)) → HasAdded old keys later new
  added_more old mid new keys left later key alike so next step stands budget = record {
    before = so.before ++ key ∷ [];
    parts = so.parts ∙ (ap (λ l. so.before ++ l) next ∙ sym (append_assoc so.before (key ∷ []) later));
    added = keys_more old mid new so.before key alike so.added step stands budget;
  }

  -- all keys
  pub added_all : (old new : FrequentState T) (keys left : List (T → Bool)) → HasAdded old keys left new → left ≡ [] → UpdatesKeys eq old keys new
  added_all old new keys left so none =
      let whole : keys ≡ so.before = so.parts ∙ (ap (λ l. so.before ++ l) none ∙ append-nil so.before) in
      subst (λ l. UpdatesKeys eq old l new) (sym whole) so.added

  -- or the update by one failed
  pub added_until : (old new : FrequentState T) (keys left later : List (T → Bool)) (key : T → Bool) (e : ErrorValue) → HasAdded old keys left new → left ≡ key ∷ later →
      (Overflows new 1 → e ≡ invalid_argument WeightOverflow) → (TotalHasRoom new 1 → (e ≡ no_memory) × (is_tracked_by_key key new.counters ≡ false)) → StopsAtKey eq old keys e new
  added_until old new keys left later key e so next overflow memory = record {
    before = so.before;
    refused = key;
    behind = later;
    parts = so.parts ∙ ap (λ l. so.before ++ l) next;
    added = so.added;
    overflow = overflow;
    memory = memory;
  }

  -- ---- the keys of an iterator

  module _ {K : Type 0} (names : K → T → Bool) where
    pub seen_more : (old mid new : FrequentState T) (seen : List K) (key : K) → ((x y : T) → IsTrue (names key x) → names key y ≡ eq x y) → UpdatesKeys eq old (map names seen) mid → StepsByKey eq mid (names key) 1 new
        → ((x : T) → IsTrue (names key x) → Extends eq mid new (λ h. Update h x 1)) → ((x : T) → IsTrue (names key x) → ExtendsBudget eq mid new (λ h. Update h x 1)) → UpdatesKeys eq old (map names (seen ++ key ∷ [])) new
    seen_more old mid new seen key alike so step stands budget =
        subst (λ l. UpdatesKeys eq old l new) (sym (map-append names seen (key ∷ []))) (keys_more old mid new (map names seen) (names key) alike so step stands budget)

    -- the update by the last key failed
    pub seen_until : (old mid new : FrequentState T) (seen : List K) (key : K) (e : ErrorValue) → UpdatesKeys eq old (map names seen) mid → new ≡ mid →
        (Overflows mid 1 → e ≡ invalid_argument WeightOverflow) → (TotalHasRoom mid 1 → (e ≡ no_memory) × (is_tracked_by_key (names key) mid.counters ≡ false)) → StopsAtLastKey eq old (map names (seen ++ key ∷ [])) e new
    seen_until old mid new seen key e so same overflow memory = rw same (
      (record {
        before = map names seen;
        refused = names key;
        behind = [];
        parts = map-append names seen (key ∷ []);
        added = so;
        overflow = overflow;
        memory = memory;
      }),
      refl,
    )

  -- ---- updates with weights

  no_pairs : (items : List (T × ℕ)) → AreNamedWithWeights [] items → items ≡ []
  no_pairs [] named = refl
  no_pairs (x ∷ xs) named = absurd named

  -- no weight of a key yet
  pub weighed_keys_none : (old : FrequentState T) → UpdatesWeighedKeys eq old [] old
  weighed_keys_none old = record {
    some = ([], tt);
    updates = λ items named. subst (λ xs. UpdatesWeighed eq old xs old) (sym (no_pairs items named)) (weights_none eq old);
  }

  weighed_keys_push : (old mid new : FrequentState T) (ps : List ((T → Bool) × ℕ)) (p : (T → Bool) × ℕ) → ((x y : T) → IsTrue (p.0 x) → p.0 y ≡ eq x y) → UpdatesWeighedKeys eq old ps mid → StepsByKey eq mid p.0 p.1 new
      → ((x : T) → IsTrue (p.0 x) → Extends eq mid new (λ h. Update h x p.1)) → ((x : T) → IsTrue (p.0 x) → ExtendsBudget eq mid new (λ h. Update h x p.1)) → UpdatesWeighedKeys eq old (ps ++ p ∷ []) new
  weighed_keys_push old mid new ps p alike so step stands budget =
      let R : (T → Bool) × ℕ → T × ℕ → Type 0 = λ key item. IsTrue (key.0 item.0) × (item.1 ≡ key.1) in
      record {
        some = (so.some.0 ++ (step.item, p.1) ∷ [], all_zip_push R ps so.some.0 p (step.item, p.1) so.some.1 (step.named, refl));
        updates = λ items named.
            let q = pushed R ps p items named in
            let x : T = q.last.0 in
            let is : q.last ≡ (x, p.1) = ap (λ (w : ℕ). (x, w)) q.lasts.1 in
            subst (λ xs. UpdatesWeighed eq old xs new) (sym (q.is ∙ ap (λ l. q.front ++ l ∷ []) is)) (weights_push eq old mid new q.front (x, p.1) (so.updates q.front q.fronts) (step_equal alike x q.lasts.0 step) (stands x q.lasts.0) (budget x q.lasts.0));
      }

  -- one more, whose weight may be 0
  pub weighed_keys_more : (old mid new : FrequentState T) (ps : List ((T → Bool) × ℕ)) (p : (T → Bool) × ℕ) → ((x y : T) → IsTrue (p.0 x) → p.0 y ≡ eq x y) → UpdatesWeighedKeys eq old (filter has_weight ps) mid → (p.1 ≡ 0 → new ≡ mid) → (0 < p.1 → StepsByKey eq mid p.0 p.1 new)
      → (0 < p.1 → (x : T) → IsTrue (p.0 x) → Extends eq mid new (λ h. Update h x p.1)) → (0 < p.1 → (x : T) → IsTrue (p.0 x) → ExtendsBudget eq mid new (λ h. Update h x p.1)) → UpdatesWeighedKeys eq old (filter has_weight (ps ++ p ∷ [])) new
  weighed_keys_more old mid new ps p alike so same step stands budget =
      by_test (nat_lt 0 p.1) (λ b. UpdatesWeighedKeys eq old (filter has_weight (ps ++ p ∷ [])) new)
      (λ some. let pos : 0 < p.1 = ltb-true 0 p.1 some in subst (λ ys. UpdatesWeighedKeys eq old ys new) (sym (filter_some ps p some)) (weighed_keys_push old mid new (filter has_weight ps) p alike so (step pos) (stands pos) (budget pos)))
      (λ none. subst (λ ys. UpdatesWeighedKeys eq old ys new) (sym (filter_none ps p none)) (subst (λ (s : FrequentState T). UpdatesWeighedKeys eq old (filter has_weight ps) s) (sym (same (zero_from p.1 none))) so))

-- ---- the keys that are left, at an index

-- the first of them is the key at the index
pub key_at : {A : Type 0} (all left later : List A) (i : ℕ) (x : A) → left ≡ drop i all → left ≡ x ∷ later → x ≡ get_or all i x
key_at all left later i x is next =
    let here : i + 0 ≡ i = omega arith in
    ap (λ (l : List _). get_or l 0 x) (sym next ∙ is) ∙ get_or-drop i all 0 x ∙ ap (λ (n : ℕ). get_or all n x) here

-- and those behind it are left from the next index on
pub left_after : {A : Type 0} (all left later : List A) (i : ℕ) (x : A) → i < length all → left ≡ drop i all → left ≡ x ∷ later → later ≡ drop (i + 1) all
left_after all left later i x lt is next =
    ap (drop 1) (sym next ∙ is ∙ drop_more all i x lt)

-- if none is left, the index is the end
pub none_left : {A : Type 0} (all left : List A) (i : ℕ) → left ≡ drop i all → left ≡ [] → length all ≤ i
none_left all left i is none = omega (arith, ap length (sym none ∙ is), length-drop i all)

-- one more answer, which holds
pub answered_more : {A B : Type 0} (R : A → B → Type 0) (all : List A) (ys : List B) (i : ℕ) (x : A) (y : B) → i < length all → i < length ys → x ≡ get_or all i x → AllZip R (take i all) (take i ys) → R x y
    → AllZip R (take (i + 1) all) (take (i + 1) (set ys i y))
answered_more R all ys i x y lt there is so one =
    let more : take (i + 1) all ≡ take i all ++ x ∷ [] = take_more all i x lt ∙ ap (λ z. take i all ++ z ∷ []) (sym is) in
    subst (λ (l : List _). AllZip R l (take (i + 1) (set ys i y))) (sym more)
    (subst (λ (l : List _). AllZip R (take i all ++ x ∷ []) l) (sym (take_more_set ys i y there)) (all_zip_push R (take i all) (take i ys) x y so one))
