-- Counting the items of an image by their weights, as a loop does.
use Rattle.std.proofs.Common.{◌≡◌, ℕ, suc, ◌+◌, ◌-◌, ◌*◌, ◌<◌, ◌≤◌, Bool, true, false, cond, List, [], ◌∷◌, ◌++◌, length, take, drop, sum, sum_by, Result, Ok, Err, Some, refl, sym, ap, ◌∙◌, append_assoc, arith, IsPermutation, length-append, get_or, length-take}
use Rattle.std.specs.Cmp.{IsEquivalence}
use Rattle.std.specs.List.{IsDistinct, AllByRecursion, zip}
use Rattle.std.specs.Map.{keys_of}
use Rattle.std.proofs.lemmas.List.Sums.{sum_by_push}
use Rattle.std.proofs.lemmas.List.Sorted.{length_permutation, IsPermutation-map, All-permutation, sum_by-IsPermutation}
use Rattle.std.proofs.lemmas.List.Elements.{All-nil}
use Rattle.std.proofs.lemmas.List.{append-nil, take_more, take_all}
use Rattle.sketch_base.specs.declared.fault.Fault.{Fault}
use Rattle.sketch_frequencies.specs.Image.{◌>>=◌, items_in, items_at, weights_at, weight_of, contents_of, active_at, fault_in}
use Rattle.sketch_frequencies.specs.Items.{Codec}
use Rattle.sketch_frequencies.specs.Reading.{AreCounted, AreCounters, with_front, AreCountersSoFar}
use Rattle.counter_table.specs.Tables.{count_of, put, sum_of}
use Rattle.sketch_frequencies.proofs.Cases.{by_test}
use Rattle.sketch_frequencies.proofs.Permutations.{count_of-permutation}
use Rattle.sketch_frequencies.proofs.Puts.{count_of-put, positive-put, sum_of-put, IsDistinct-put, length_put_le}
use Rattle.sketch_frequencies.proofs.ImageWeights.{length-weights_at, sum_next, sum_take-le}

module _ {T C : Type 0} (same : C → C → Bool) (content : T → C) (eq : T → T → Bool) (alike : (x y : T) → eq x y ≡ same (content x) (content y)) where
  none_equal : (k : T) (es : List (T × ℕ)) → AllByRecursion (λ q. eq k q ≡ false) (keys_of es) → AllByRecursion (λ q. same (content k) q ≡ false) (keys_of (contents_of content es))
  none_equal k [] h = tt
  none_equal k (e ∷ es) h = (sym (alike k e.0) ∙ h.0, none_equal k es h.1)

  pub distinct_contents : (es : List (T × ℕ)) → IsDistinct eq (keys_of es) → IsDistinct same (keys_of (contents_of content es))
  unfolding IsDistinct
  distinct_contents [] h = tt
  distinct_contents (e ∷ es) h = (none_equal e.0 es h.0, distinct_contents es h.1)

  pub contents_of-put : (es : List (T × ℕ)) (x : T) (w : ℕ) → contents_of content (put eq es x w) ≡ put same (contents_of content es) (content x) w
  contents_of-put [] x w = refl
  contents_of-put (e ∷ es) x w =
      rw (alike x e.0) (by_test (same (content x) (content e.0)) (λ b. contents_of content (cond b ((e.0, e.1 + w) ∷ es) (e ∷ put eq es x w)) ≡ cond b ((content e.0, e.1 + w) ∷ contents_of content es) ((content e.0, e.1) ∷ put same (contents_of content es) (content x) w)) (λ _. refl) (λ _. ap (λ (l : List (C × ℕ)). (content e.0, e.1) ∷ l) (contents_of-put es x w)))

zip_push : {C : Type 0} (items : List C) (ws : List ℕ) (v : C) (w : ℕ) → length items ≡ length ws → zip (items ++ v ∷ []) (ws ++ w ∷ []) ≡ zip items ws ++ (v, w) ∷ []
zip_push [] [] v w h = refl
zip_push [] (u ∷ ws) v w h = absurd (omega arith)
zip_push (i ∷ items) [] v w h = absurd (omega arith)
zip_push (i ∷ items) (u ∷ ws) v w h = ap (λ l. (i, u) ∷ l) (zip_push items ws v w (omega arith))

weight_of_push : {C : Type 0} (same : C → C → Bool) (x : C) (items : List C) (ws : List ℕ) (v : C) (w : ℕ) → length items ≡ length ws → weight_of same x (items ++ v ∷ []) (ws ++ w ∷ []) ≡ weight_of same x items ws + cond (same x v) w 0
weight_of_push {C} same x items ws v w h =
    let f : C × ℕ → ℕ = λ p. cond (same x p.0) p.1 0 in
    ap (sum_by f) (zip_push items ws v w h) ∙ sum_by_push f (zip items ws) (v, w)

regroup : {C : Type 0} (front : List C) (v : C) (read : Result (List C) Fault) → with_front front (read >>= λ others. Ok (v ∷ others)) ≡ with_front (front ++ v ∷ []) read
regroup {C} front v (Ok vs) = ap (λ (l : List C). Ok l) (sym (append_assoc front (v ∷ []) vs))
regroup front v (Err f) = refl

front_nil : {C : Type 0} (read : Result (List C) Fault) → with_front [] read ≡ read
front_nil (Ok vs) = refl
front_nil (Err f) = refl

take_one : (image : List ℕ) (k w : ℕ) → k < active_at image → w ≡ get_or (weights_at image) k 0 → take (k + 1) (weights_at image) ≡ take k (weights_at image) ++ w ∷ []
take_one image k w lt is = take_more (weights_at image) k 0 (omega (arith, length-weights_at image)) ∙ ap (λ (v : ℕ). take k (weights_at image) ++ v ∷ []) (sym is)

module _ {T C : Type 0} (codec : Codec C) (content : T → C) (eq : T → T → Bool) (laws : IsEquivalence eq) (same_laws : IsEquivalence codec.same) (alike : (x y : T) → eq x y ≡ codec.same (content x) (content y)) where
  pub none_counted : AreCounted codec content eq [] [] []
  unfolding IsDistinct
  none_counted = record { counts = λ x. refl; distinct = tt; positive = All-nil _; few = omega arith; sum_is = refl }

  added : (b : Bool) (m w : ℕ) → cond b (m + w) m ≡ m + cond b w 0
  added true m w = refl
  added false m w = omega arith

  pub counted_more : (es fs : List (T × ℕ)) (items : List C) (ws : List ℕ) (x : T) (w : ℕ) → length items ≡ length ws → 0 < w → AreCounted codec content eq es items ws → IsPermutation (put eq es x w) fs → IsDistinct eq (keys_of fs) → IsDistinct eq (keys_of (put eq es x w)) → AreCounted codec content eq fs (items ++ content x ∷ []) (ws ++ w ∷ [])
  counted_more es fs items ws x w len pos h perm distinct put_distinct = record {
    counts = λ y.
        count_of-permutation same_laws (contents_of content (put eq es x w)) (contents_of content fs) y (distinct_contents codec.same content eq alike (put eq es x w) put_distinct) (IsPermutation-map (λ (e : T × ℕ). (content e.0, e.1)) (put eq es x w) fs perm)
        ∙ ap (λ l. count_of codec.same l y) (contents_of-put codec.same content eq alike es x w)
        ∙ count_of-put same_laws (contents_of content es) (content x) w y
        ∙ added (codec.same (content x) y) (count_of codec.same (contents_of content es) y) w
        ∙ ap (λ m. m + cond (codec.same (content x) y) w 0) (h.counts y)
        ∙ ap (λ b. weight_of codec.same y items ws + cond b w 0) (same_laws.symm (content x) y)
        ∙ sym (weight_of_push codec.same y items ws (content x) w len);
    distinct = distinct;
    positive = All-permutation (λ (e : T × ℕ). 0 < e.1) (put eq es x w) fs perm (positive-put eq es x w pos h.positive);
    few = omega (arith, length_permutation (put eq es x w) fs perm, length_put_le eq es x w, h.few, length-append ws (w ∷ []));
    sum_is = omega (arith, sum_by-IsPermutation (λ (e : T × ℕ). e.1) (put eq es x w) fs perm, sum_of-put eq es x w, h.sum_is, sum_by_push (λ (n : ℕ). n) ws w);
  }

  nothing : (b : Bool) → cond {A = ℕ} b 0 0 ≡ 0
  nothing true = refl
  nothing false = refl

  add_zero : (m : ℕ) → m + 0 ≡ m
  add_zero m = omega arith

  pub counted_dropped : (es : List (T × ℕ)) (items : List C) (ws : List ℕ) (v : C) → length items ≡ length ws → AreCounted codec content eq es items ws → AreCounted codec content eq es (items ++ v ∷ []) (ws ++ 0 ∷ [])
  counted_dropped es items ws v len h = record {
    counts = λ y. h.counts y ∙ sym (weight_of_push codec.same y items ws v 0 len ∙ ap (λ (m : ℕ). weight_of codec.same y items ws + m) (nothing (codec.same y v)) ∙ add_zero (weight_of codec.same y items ws));
    distinct = h.distinct;
    positive = h.positive;
    few = omega (arith, h.few, length-append ws (0 ∷ []));
    sum_is = omega (arith, h.sum_is, sum_by_push (λ (n : ℕ). n) ws 0);
  }

  goes_on : (front : List C) (n k size : ℕ) (bytes : List ℕ) (v : C) (all : Result (List C) Fault) → k < n → codec.reading bytes ≡ Ok (v, size)
      → with_front front (items_in codec (n - k) bytes) ≡ all → with_front (front ++ v ∷ []) (items_in codec (n - (k + 1)) (drop size bytes)) ≡ all
  unfolding items_in
  goes_on front n k size bytes v all lt h so_far =
      let one : n - k ≡ suc (n - (k + 1)) = omega arith in
      let same_one : with_front front (items_in codec (n - k) bytes) ≡ with_front (front ++ v ∷ []) (items_in codec (n - (k + 1)) (drop size bytes)) = rw (one, h) (regroup front v (items_in codec (n - (k + 1)) (drop size bytes))) in
      sym same_one ∙ so_far

  pub fails : (front : List C) (n k : ℕ) (bytes : List ℕ) (fault : Fault) (all : Result (List C) Fault) → k < n → codec.reading bytes ≡ Err fault
      → with_front front (items_in codec (n - k) bytes) ≡ all → fault_in all ≡ Some fault
  unfolding items_in
  fails front n k bytes fault all lt h so_far =
      let one : n - k ≡ suc (n - (k + 1)) = omega arith in
      let same_one : with_front front (items_in codec (n - k) bytes) ≡ Err fault = rw (one, h) refl in
      ap fault_in (sym so_far ∙ same_one)

  is_done : (front : List C) (n k : ℕ) (bytes : List ℕ) (all : Result (List C) Fault) → n ≤ k → with_front front (items_in codec (n - k) bytes) ≡ all → all ≡ Ok front
  unfolding items_in
  is_done front n k bytes all le so_far =
      let none : n - k ≡ 0 = omega arith in
      let same_one : with_front front (items_in codec (n - k) bytes) ≡ Ok front = rw none (ap (λ (l : List C). Ok l) (append-nil front)) in
      sym so_far ∙ same_one

  pub at_start : (image rest : List ℕ) → rest ≡ drop (32 + 8 * active_at image) image → AreCountersSoFar codec content eq image 0 rest []
  at_start image rest h =
      let all : active_at image - 0 ≡ active_at image = omega arith in
      record { items = []; many = refl; read = rw (all, h) (front_nil (items_at codec image)); counted = none_counted }

  pub one_more : (image rest : List ℕ) (k size w : ℕ) (x : T) (es fs : List (T × ℕ)) → k < active_at image → codec.reading rest ≡ Ok (content x, size) → w ≡ get_or (weights_at image) k 0 → 0 < w
      → AreCountersSoFar codec content eq image k rest es → IsPermutation (put eq es x w) fs → IsDistinct eq (keys_of fs) → AreCountersSoFar codec content eq image (k + 1) (drop size rest) fs
  one_more image rest k size w x es fs lt h w_is pos before perm distinct =
      let taken = take_one image k w lt w_is in
      let len : length before.items ≡ length (take k (weights_at image)) = omega (arith, before.many, length-take k (weights_at image), length-weights_at image) in
      record {
        items = before.items ++ content x ∷ [];
        many = omega (arith, before.many, length-append before.items (content x ∷ []));
        read = goes_on before.items (active_at image) k size rest (content x) (items_at codec image) lt h before.read;
        counted = rw taken (counted_more es fs before.items (take k (weights_at image)) x w len pos before.counted perm distinct (IsDistinct-put laws es x w before.counted.distinct));
      }

  pub one_dropped : (image rest : List ℕ) (k size w : ℕ) (x : T) (es : List (T × ℕ)) → k < active_at image → codec.reading rest ≡ Ok (content x, size) → w ≡ get_or (weights_at image) k 0 → w ≡ 0
      → AreCountersSoFar codec content eq image k rest es → AreCountersSoFar codec content eq image (k + 1) (drop size rest) es
  one_dropped image rest k size w x es lt h w_is zero_is before =
      let taken = take_one image k 0 lt (sym zero_is ∙ w_is) in
      let len : length before.items ≡ length (take k (weights_at image)) = omega (arith, before.many, length-take k (weights_at image), length-weights_at image) in
      record {
        items = before.items ++ content x ∷ [];
        many = omega (arith, before.many, length-append before.items (content x ∷ []));
        read = goes_on before.items (active_at image) k size rest (content x) (items_at codec image) lt h before.read;
        counted = rw taken (counted_dropped es before.items (take k (weights_at image)) (content x) len before.counted);
      }

  pub at_end : (image rest : List ℕ) (k : ℕ) (es : List (T × ℕ)) → active_at image ≤ k → AreCountersSoFar codec content eq image k rest es → AreCounters codec content eq image es
  at_end image rest k es le before =
      let whole : take k (weights_at image) ≡ weights_at image = take_all k (weights_at image) (omega (arith, length-weights_at image)) in
      record { items = before.items; read = is_done before.items (active_at image) k rest (items_at codec image) le before.read; counted = rw whole at before.counted }

  -- how many counters there are so far, and that the next weight fits
  pub so_far_within : (image rest : List ℕ) (k : ℕ) (es : List (T × ℕ)) → AreCountersSoFar codec content eq image k rest es → k < active_at image → (length es ≤ k) × (sum_of es + get_or (weights_at image) k 0 ≤ sum (weights_at image))
  so_far_within image rest k es before lt =
      let ws = weights_at image in
      (omega (arith, before.counted.few, length-take k ws), omega (arith, before.counted.sum_is, sum_next ws k (omega (arith, length-weights_at image, lt)), sum_take-le ws (k + 1)))
