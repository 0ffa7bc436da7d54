-- A spelled image is an image: each field is read again as it was written, and all checks pass.
use Rattle.std.proofs.Common.{◌≡◌, ℕ, suc, ◌+◌, ◌*◌, ◌<◌, ◌≤◌, ◌^◌, Bool, true, false, cond, eqb, leb, List, [], ◌∷◌, ◌++◌, length, map, drop, sum, sum_by, Ok, None, refl, sym, ap, subst, ◌∙◌, append_assoc, arith, length-append}
use Rattle.std.specs.Cmp.{IsEquivalence}
use Rattle.std.specs.List.{IsDistinct, All, zip}
use Rattle.std.specs.Map.{keys_of}
use Rattle.std.specs.Int.{w64, to_le_bytes}
use Rattle.std.proofs.Math.Pow.{pow_mono}
use Rattle.std.proofs.lemmas.Bool.{le-leb, ne_eqb, cases_lt}
use Rattle.std.proofs.lemmas.List.{drop_at, append-nil, nil_from_length}
use Rattle.std.proofs.lemmas.List.Elements.{All-head, All-tail, All-nil, All-cons}
use Rattle.std.proofs.lemmas.List.Sums.{sum_by-cons, sum-map}
use Rattle.std.proofs.lemmas.List.Sorted.{length_permutation, sum_by-IsPermutation, IsPermutation-map}
use Rattle.std.proofs.lemmas.Map.Keys.{IsDistinct-IsPermutation}
use Rattle.std.proofs.lemmas.Nat.{from_le_bytes-to_le_bytes_4, from_le_bytes-to_le_bytes_8, pow_pos}
use Rattle.sketch_base.specs.Checks.{first_failing}
use Rattle.sketch_base.specs.Fields.{le_at, words_in}
use Rattle.sketch_base.specs.PowersOfTwo.{pow_twice}
use Rattle.sketch_frequencies.specs.Image.{AreEncoded, IsImage, IsImageOf, IsWritten, IsWrittenEmpty, ReadsFront, state_of_contents, prefix_bytes, items_bytes, items_in, items_at, weights_at, weight_of, encoded_weights, header, preamble, header_checks, count_checks, active_at, total_at, error_at}
use Rattle.sketch_frequencies.specs.Items.{Codec, IsLawful}
use Rattle.sketch_frequencies.specs.Laws.{SpelledIsImage, SpelledIsFront}
use Rattle.sketch_frequencies.specs.State.{FrequentState, IsState, capacity}
use Rattle.counter_table.specs.Tables.{count_of, sum_of}
use Rattle.sketch_frequencies.proofs.Cases.{by_cases}
use Rattle.sketch_frequencies.proofs.Permutations.{count_is_sum, count_of-permutation, share}
use Rattle.sketch_frequencies.proofs.UpdateStates.{length_le_sum}
use Rattle.sketch_frequencies.proofs.ImageWeights.{weights_pass}

-- ---- the items and the weights are read again

abbrev AreLike : {C : Type 0} → (C → C → Bool) → List C → List (C × ℕ) → Type 0
AreLike same [] [] = Unit {0}
AreLike same [] (e ∷ es) = ⊥
AreLike same (i ∷ is) [] = ⊥
AreLike same (i ∷ is) (e ∷ es) = (same i e.0 ≡ true) × AreLike same is es

abbrev weights_of : {C : Type 0} → List (C × ℕ) → List ℕ
weights_of es = map (λ e. e.1) es

items_back : {C : Type 0} (codec : Codec C) → IsLawful codec → (es : List (C × ℕ)) (bytes rest : List ℕ) → AreEncoded codec es bytes → (items : List C) × (items_in codec (length es) (bytes ++ rest) ≡ Ok items) × AreLike codec.same items es
unfolding items_in
items_back codec lawful [] bytes rest h = ([], refl, tt)
items_back codec lawful (e ∷ es) bytes rest h =
    let first = h.0 in
    let others = h.1 in
    let one = lawful.read_back e.0 first (others ++ rest) h.2 in
    let more = items_back codec lawful es others rest h.4 in
    let shape : bytes ++ rest ≡ first ++ (others ++ rest) = ap (λ (l : List ℕ). l ++ rest) h.3 ∙ append_assoc first others rest in
    let dropped : drop (length first) (first ++ (others ++ rest)) ≡ others ++ rest = drop_at first (others ++ rest) (length first) refl in
    (one.0 ∷ more.0, rw (shape, one.1, dropped, more.1) refl, (one.2, more.2))

weights_back : {C : Type 0} (es : List (C × ℕ)) (rest : List ℕ) → All (λ e. e.1 < 2 ^ 64) es → words_in (length es) (encoded_weights es ++ rest) ≡ weights_of es
unfolding le_at
weights_back [] rest h = refl
weights_back {C} (e ∷ es) rest h =
    let P : C × ℕ → Type 0 = λ p. p.1 < 2 ^ 64 in
    rw (from_le_bytes-to_le_bytes_8 e.1 (All-head P e es h), weights_back es rest (All-tail P e es h)) refl

weight_like : {C : Type 0} (same : C → C → Bool) → IsEquivalence same → (x : C) (items : List C) (es : List (C × ℕ)) → AreLike same items es → weight_of same x items (weights_of es) ≡ sum_by (λ e. cond (same x e.0) e.1 0) es
weight_like same laws x [] [] h = refl
weight_like same laws x [] (e ∷ es) h = absurd h
weight_like same laws x (i ∷ is) [] h = absurd h
weight_like {C} same laws x (i ∷ is) (e ∷ es) h =
    let f : C × ℕ → ℕ = λ p. cond (same x p.0) p.1 0 in
    let like : same x i ≡ same x e.0 = laws.symm x i ∙ laws.congr i e.0 x h.0 ∙ laws.symm e.0 x in
    sum_by-cons f (i, e.1) (zip is (weights_of es)) ∙ ap (λ (b : Bool). cond b e.1 0 + weight_of same x is (weights_of es)) like ∙ ap (λ (n : ℕ). cond (same x e.0) e.1 0 + n) (weight_like same laws x is es h.1) ∙ sym (sum_by-cons f e es)

-- ---- the fields are read again, whatever stands behind them

module _ (lg_max lg_cur n total error : ℕ) (tail : List ℕ) where
  length_back : length (preamble lg_max lg_cur n total error ++ tail) ≡ 32 + length tail
  length_back = length-append (preamble lg_max lg_cur n total error) tail

  header_passes : 3 ≤ lg_cur → lg_cur ≤ lg_max → lg_max ≤ 30 → first_failing (header_checks (preamble lg_max lg_cur n total error ++ tail)) ≡ None
  header_passes low mid high =
      let t1 : leb 8 (length (preamble lg_max lg_cur n total error ++ tail)) ≡ true = le-leb _ _ (omega (arith, length_back)) in
      let t2 : leb 3 lg_cur ≡ true = le-leb _ _ low in
      let t3 : leb lg_max 30 ≡ true = le-leb _ _ high in
      let t4 : leb lg_cur lg_max ≡ true = le-leb _ _ mid in
      rw (t1, t2, t3, t4) refl

  active_back : n < 2 ^ 32 → active_at (preamble lg_max lg_cur n total error ++ tail) ≡ n
  unfolding le_at
  active_back lt = from_le_bytes-to_le_bytes_4 n lt

  total_back : total < 2 ^ 64 → total_at (preamble lg_max lg_cur n total error ++ tail) ≡ total
  unfolding le_at
  total_back lt = from_le_bytes-to_le_bytes_8 total lt

  error_back : error < 2 ^ 64 → error_at (preamble lg_max lg_cur n total error ++ tail) ≡ error
  unfolding le_at
  error_back lt = from_le_bytes-to_le_bytes_8 error lt

  counts_pass : n < 2 ^ 32 → total < 2 ^ 64 → 0 < total → n ≤ capacity (2 ^ lg_cur) → 8 * n ≤ length tail → first_failing (count_checks (preamble lg_max lg_cur n total error ++ tail)) ≡ None
  counts_pass fits fits' some few long =
      let image = preamble lg_max lg_cur n total error ++ tail in
      let t1 : leb 12 (length image) ≡ true = le-leb _ _ (omega (arith, length_back)) in
      let t2 : leb (active_at image) (capacity (2 ^ lg_cur)) ≡ true = le-leb _ _ (omega (arith, active_back fits, few)) in
      let t3 : leb 24 (length image) ≡ true = le-leb _ _ (omega (arith, length_back)) in
      let t4 : eqb (total_at image) 0 ≡ false = ne_eqb _ _ (λ none. absurd (omega (arith, none, total_back fits', some))) in
      let t5 : leb 32 (length image) ≡ true = le-leb _ _ (omega (arith, length_back)) in
      let t6 : leb (32 + 8 * active_at image) (length image) ≡ true = le-leb _ _ (omega (arith, length_back, active_back fits, long)) in
      rw (t1, t2, t3, t4, t5, t6) refl

-- ---- what is spelled is an image

count_shares : {C : Type 0} {eq : C → C → Bool} → IsEquivalence eq → (es : List (C × ℕ)) (y : C) → IsDistinct eq (keys_of es) → count_of eq es y ≡ sum_by (λ e. cond (eq y e.0) e.1 0) es
unfolding share
count_shares laws es y h = count_is_sum laws es y h

length_encoded : {C : Type 0} (es : List (C × ℕ)) → length (encoded_weights es) ≡ 8 * length es
length_encoded [] = refl
length_encoded (e ∷ es) = omega (arith, length-append (to_le_bytes w64 e.1) (encoded_weights es), length_encoded es)

each_below : {C : Type 0} (es : List (C × ℕ)) (limit : ℕ) → sum_of es < limit → All (λ e. e.1 < limit) es
each_below {C} [] limit h = All-nil (λ (e : C × ℕ). e.1 < limit)
each_below {C} (e ∷ es) limit h =
    let parts = sum_by-cons (λ (p : C × ℕ). p.1) e es in
    All-cons (λ (p : C × ℕ). p.1 < limit) e es (omega (arith, parts, h)) (each_below es limit (omega (arith, parts, h)))

-- powers of two are ordered as their exponents
exponents : (a b : ℕ) → 2 ^ a ≤ 2 ^ b → a ≤ b
exponents a b h =
    by_cases (cases_lt b a)
    (λ less.
    let next : suc b ≤ a = omega (arith, less) in
    let up : 2 ^ suc b ≤ 2 ^ a = pow_mono next in
    absurd (omega (arith, up, pow_twice b, pow_pos b, h)))
    (λ le. le)

-- the items are read to their end
bytes_back : {C : Type 0} (codec : Codec C) → IsLawful codec → (es : List (C × ℕ)) (bytes rest : List ℕ) → AreEncoded codec es bytes → items_bytes codec (length es) (bytes ++ rest) ≡ length bytes
unfolding items_bytes
bytes_back codec lawful [] bytes rest h = sym (ap length h)
bytes_back codec lawful (e ∷ es) bytes rest h =
    let first = h.0 in
    let others = h.1 in
    let one = lawful.read_back e.0 first (others ++ rest) h.2 in
    let shape : bytes ++ rest ≡ first ++ (others ++ rest) = ap (λ (l : List ℕ). l ++ rest) h.3 ∙ append_assoc first others rest in
    let dropped : drop (length first) (first ++ (others ++ rest)) ≡ others ++ rest = drop_at first (others ++ rest) (length first) refl in
    rw (shape, one.1, dropped, bytes_back codec lawful es others rest h.4) (sym (ap length h.3 ∙ length-append first others))

-- an image of a sketch that is not empty, and any bytes after it
module _ {C : Type 0} (codec : Codec C) (lawful : IsLawful codec) (image rest : List ℕ) (s : FrequentState C) (state : IsState codec.same s) (sp : IsWritten codec image s) where
  abbrev after_preamble : List ℕ
  after_preamble = encoded_weights sp.order ++ (sp.items ++ rest)

  abbrev whole : List ℕ
  whole = preamble sp.lg_max sp.lg_cur (length sp.order) s.total s.error ++ after_preamble

  whole_is : image ++ rest ≡ whole
  whole_is =
      let front = preamble sp.lg_max sp.lg_cur (length sp.order) s.total s.error in
      ap (λ (l : List ℕ). l ++ rest) sp.bytes ∙ append_assoc front (encoded_weights sp.order ++ sp.items) rest ∙ ap (λ (l : List ℕ). front ++ l) (append_assoc (encoded_weights sp.order) sp.items rest)

  many : length sp.order ≡ length s.counters
  many = length_permutation s.counters sp.order sp.whole

  few : length sp.order ≤ capacity (2 ^ sp.lg_cur)
  few = subst (λ (k : ℕ). length sp.order ≤ capacity k) sp.size (omega (arith, many, state.few))

  small : length sp.order < 2 ^ 32
  small = omega (arith, few, sp.size, state.within, state.greatest)

  active_is : active_at whole ≡ length sp.order
  active_is = active_back sp.lg_max sp.lg_cur (length sp.order) s.total s.error after_preamble small

  -- the items begin after the weights
  items_behind : drop (32 + 8 * length sp.order) whole ≡ sp.items ++ rest
  items_behind =
      let front = preamble sp.lg_max sp.lg_cur (length sp.order) s.total s.error in
      let long : length (front ++ encoded_weights sp.order) ≡ 32 + 8 * length sp.order = length-append front (encoded_weights sp.order) ∙ ap (λ (k : ℕ). 32 + k) (length_encoded sp.order) in
      drop_at (front ++ encoded_weights sp.order) (sp.items ++ rest) (32 + 8 * length sp.order) long

  full_image : s.total < 2 ^ 64 → 0 < s.total → IsImage codec (image ++ rest) s
  full_image fits some =
      let order = sp.order in
      let n = length order in
      let lg_high : sp.lg_max ≤ 30 = exponents sp.lg_max 30 (omega (arith, sp.max_size, state.greatest)) in
      let lg_mid : sp.lg_cur ≤ sp.lg_max = exponents sp.lg_cur sp.lg_max (omega (arith, sp.max_size, sp.size, state.within)) in
      let lg_low : 3 ≤ sp.lg_cur = exponents 3 sp.lg_cur (omega (arith, sp.size, state.least)) in
      let sum_is : sum_of order ≡ sum_of s.counters = sum_by-IsPermutation (λ (e : C × ℕ). e.1) s.counters order sp.whole in
      let error_fits : s.error < 2 ^ 64 = omega (arith, state.sum, fits) in
      let weights_are : weights_at whole ≡ weights_of order = ap (λ (k : ℕ). words_in k after_preamble) active_is ∙ weights_back order (sp.items ++ rest) (each_below order (2 ^ 64) (omega (arith, sum_is, state.sum, fits))) in
      let weights_sum : sum (weights_at whole) ≡ sum_of order = ap sum weights_are ∙ sum-map (λ (e : C × ℕ). e.1) order in
      let total_is = total_back sp.lg_max sp.lg_cur n s.total s.error after_preamble fits in
      let error_is = error_back sp.lg_max sp.lg_cur n s.total s.error after_preamble error_fits in
      let weights = weights_pass whole (omega (arith, weights_sum, total_is, error_is, sum_is, state.sum)) in
      let read = items_back codec lawful order sp.items rest sp.encoded in
      let items_are : items_at codec whole ≡ Ok read.0 = ap (λ (k : ℕ). items_in codec k (drop (32 + 8 * k) whole)) active_is ∙ ap (items_in codec n) items_behind ∙ read.1 in
      let header_pass = header_passes sp.lg_max sp.lg_cur n s.total s.error after_preamble lg_low lg_mid lg_high in
      let count_pass = counts_pass sp.lg_max sp.lg_cur n s.total s.error after_preamble small fits some few (omega (arith, length-append (encoded_weights order) (sp.items ++ rest), length_encoded order)) in
      subst (λ (b : List ℕ). IsImage codec b s) (sym whole_is) (record {
        no_fault = rw (header_pass, count_pass, weights, items_are) refl;
        state = state;
        max_size = sp.max_size;
        size = sp.size;
        total = sym total_is;
        error = sym error_is;
        counters = λ x.
            let read_weight : weight_of codec.same x read.0 (weights_at whole) ≡ count_of codec.same s.counters x = ap (λ ws. weight_of codec.same x read.0 ws) weights_are ∙ weight_like codec.same lawful.equivalence x read.0 order read.2 ∙ sym (count_shares lawful.equivalence order x (IsDistinct-IsPermutation codec.same lawful.equivalence.symm (keys_of s.counters) (keys_of order) (IsPermutation-map (λ (e : C × ℕ). e.0) s.counters order sp.whole) state.distinct)) ∙ count_of-permutation lawful.equivalence s.counters order x state.distinct sp.whole in
            sym (rw items_are read_weight);
      })

  full_prefix : prefix_bytes codec (image ++ rest) ≡ length image
  full_prefix =
      let n = length sp.order in
      let front = preamble sp.lg_max sp.lg_cur n s.total s.error in
      let long : length image ≡ 32 + 8 * n + length sp.items = omega (arith, ap length sp.bytes, length-append front (encoded_weights sp.order ++ sp.items), length-append (encoded_weights sp.order) sp.items, length_encoded sp.order) in
      ap (prefix_bytes codec) whole_is
      ∙ ap (λ (k : ℕ). 32 + 8 * k + items_bytes codec k (drop (32 + 8 * k) whole)) active_is
      ∙ ap (λ (l : List ℕ). 32 + 8 * n + items_bytes codec n l) items_behind
      ∙ ap (λ (k : ℕ). 32 + 8 * n + k) (bytes_back codec lawful sp.order sp.items rest sp.encoded)
      ∙ sym long

module _ {C : Type 0} (codec : Codec C) (lawful : IsLawful codec) where
  empty_image : (image rest : List ℕ) (s : FrequentState C) → IsState codec.same s → IsWrittenEmpty image s → s.total ≡ 0 → IsImage codec (image ++ rest) s
  empty_image image rest s state sp zero_is =
      let whole = header 1 sp.lg_max 3 5 ++ rest in
      let lg_high : sp.lg_max ≤ 30 = exponents sp.lg_max 30 (omega (arith, sp.max_size, state.greatest)) in
      let lg_low : 3 ≤ sp.lg_max = exponents 3 sp.lg_max (omega (arith, sp.max_size, state.least, state.within)) in
      let t0 : leb 8 (length whole) ≡ true = le-leb _ _ (omega (arith, length-append (header 1 sp.lg_max 3 5) rest)) in
      let t1 : leb sp.lg_max 30 ≡ true = le-leb _ _ lg_high in
      let t2 : leb 3 sp.lg_max ≡ true = le-leb _ _ lg_low in
      let none : s.counters ≡ [] = nil_from_length s.counters (omega (arith, length_le_sum s.counters state.positive, state.sum, zero_is)) in
      subst (λ (b : List ℕ). IsImage codec (b ++ rest) s) (sym sp.bytes) (record {
        no_fault = rw (t0, t1, t2) refl;
        state = state;
        max_size = sp.max_size;
        size = state.empty zero_is;
        total = zero_is;
        error = omega (arith, state.sum, zero_is);
        counters = λ x. rw none refl;
      })

  empty_prefix : (image rest : List ℕ) (s : FrequentState C) → IsWrittenEmpty image s → prefix_bytes codec (image ++ rest) ≡ length image
  empty_prefix image rest s sp = subst (λ (b : List ℕ). prefix_bytes codec (b ++ rest) ≡ length b) (sym sp.bytes) refl

  -- what is spelled is an image, and is read to its end, whatever stands behind it
  pub spelled_is_front : SpelledIsFront codec
  spelled_is_front image rest s h =
      by_cases (cases_lt 0 s.total)
      (λ some. (full_image codec lawful image rest s h.state (h.full some) h.total some, full_prefix codec lawful image rest s h.state (h.full some)))
      (λ none.
      let zero_is : s.total ≡ 0 = omega (arith, none) in
      (empty_image image rest s h.state (h.empty zero_is) zero_is, empty_prefix image rest s (h.empty zero_is)))

  pub spelled_is_image : SpelledIsImage codec
  spelled_is_image image s h = subst (λ (b : List ℕ). IsImage codec b s) (append-nil image) (spelled_is_front image [] s h).0

-- bytes that are images of one sketch are images of the same sketches
same_image : {C : Type 0} (codec : Codec C) (a b : List ℕ) (s t : FrequentState C) → IsImage codec a s → IsImage codec b s → IsImage codec a t → IsImage codec b t
same_image codec a b s t old image new = record {
  no_fault = image.no_fault;
  state = new.state;
  max_size = new.max_size ∙ sym old.max_size ∙ image.max_size;
  size = new.size ∙ sym old.size ∙ image.size;
  total = new.total ∙ sym old.total ∙ image.total;
  error = new.error ∙ sym old.error ∙ image.error;
  counters = λ x. new.counters x ∙ sym (old.counters x) ∙ image.counters x;
}

-- what is read at the front of bytes
pub front_read : {T C : Type 0} (codec : Codec C) (content : T → C) → IsLawful codec → (bytes : List ℕ) (new : FrequentState T) (used : ℕ) → IsImageOf codec content bytes new → used ≡ prefix_bytes codec bytes → ReadsFront codec content bytes new used
front_read codec content lawful bytes new used read used_is image rest old spelled is =
    let front = spelled_is_front codec lawful image rest (state_of_contents content old) spelled in
    let new_is = subst (λ (b : List ℕ). IsImage codec b (state_of_contents content new)) is read in (
      same_image codec (image ++ rest) image (state_of_contents content old) (state_of_contents content new) front.0 (spelled_is_image codec lawful image (state_of_contents content old) spelled) new_is,
      used_is ∙ ap (prefix_bytes codec) is ∙ front.1,
    )
