-- The ends of words among marks: a mark behind an element that is not marked.
use Rattle.std.proofs.Common.{◌≡◌, ◌≢◌, ℕ, zero, suc, ◌+◌, ◌-◌, ◌*◌, ◌/◌, ◌%◌, ◌^◌, ◌<◌, ◌≤◌, min, bit_and, Bool, true, false, not, cond, ◌&&◌, w64, List, [], ◌∷◌, ◌++◌, length, map, get_or, take, drop, refl, sym, ◌∙◌, ap, arith, length-drop}
use Rattle.std.specs.Int.{bit_at, trailing_zeros}
use Rattle.std.specs.Int.Bits.{and_step, and_self}
use Rattle.std.specs.List.{position_or_len}
use Rattle.std.specs.Simd.Lanes.{mask_l}
use Rattle.std.proofs.Math.Nat.{pow-suc}
use Rattle.std.proofs.Math.Pow.{pow_mono}
use Rattle.std.proofs.lemmas.Bool.{false≢true}
use Rattle.std.proofs.lemmas.List.{drop-drop, length-map, take-append-drop}
use Rattle.std.proofs.lemmas.List.Sums.{prefix_len-le-length}
use Rattle.std.proofs.lemmas.Nat.Bits.{bit_at-trailing_zeros}
use Rattle.std.proofs.lemmas.Simd.{bit_mask_l, mask_l-lt}
use Rattle.sketch_base.specs.Split.{separates, with_word, words_by}
use Rattle.sketch_base.specs.declared.separator.Separator.{Separator}
use Rattle.sketch_base.proofs.MarkedWords.{set_bit, clear_bit, before_last, before_last-length, before_last-drop}
use Rattle.sketch_base.proofs.Marks.{marks, marks_drop}
use Rattle.sketch_base.proofs.SplitWords.{first_word}

-- which marks end a word. Before the first element there is a mark or none
pub ends_of : Bool → List Bool → List Bool
ends_of before [] = []
ends_of before (b ∷ bs) = (b && not before) ∷ ends_of b bs

-- the same without the first ones that are set
pub cleared : ℕ → List Bool → List Bool
cleared zero es = es
cleared (suc n) [] = []
cleared (suc n) (true ∷ es) = false ∷ cleared n es
cleared (suc n) (false ∷ es) = false ∷ cleared (suc n) es

cleared_nil : (n : ℕ) → cleared n [] ≡ []
unfolding cleared
cleared_nil zero = refl
cleared_nil (suc n) = refl

cleared_false : (n : ℕ) (es : List Bool) → cleared n (false ∷ es) ≡ false ∷ cleared n es
unfolding cleared
cleared_false zero es = refl
cleared_false (suc n) es = refl

cleared_more : (n : ℕ) (es : List Bool) → cleared 1 (cleared n es) ≡ cleared (suc n) es
unfolding cleared
cleared_more zero es = refl
cleared_more (suc n) [] = refl
cleared_more (suc n) (true ∷ es) = ap (λ (l : List Bool). false ∷ l) (cleared_more n es)
cleared_more (suc n) (false ∷ es) = ap (λ (l : List Bool). false ∷ l) (cleared_more (suc n) es)

-- the lowest bit is cleared
clear_step : (b : Bool) (es : List Bool) → (mask_l es ≢ 0 → bit_and (mask_l es) (mask_l es - 1) ≡ mask_l (cleared 1 es)) → mask_l (b ∷ es) ≢ 0 → bit_and (mask_l (b ∷ es)) (mask_l (b ∷ es) - 1) ≡ mask_l (cleared 1 (b ∷ es))
unfolding cleared
clear_step true es later some =
    let m = mask_l es in
    let whole : (1 + 2 * m) / 2 ≡ m = omega arith in
    let less : (1 + 2 * m - 1) / 2 ≡ m = omega arith in
    let even : (1 + 2 * m - 1) % 2 ≡ 0 = omega arith in
    let high : bit_and ((1 + 2 * m) / 2) ((1 + 2 * m - 1) / 2) ≡ m = (λ i. bit_and (whole i) (less i)) ∙ and_self m in
    omega (arith, and_step (1 + 2 * m) (1 + 2 * m - 1), high, even)
clear_step false es later some =
    let m = mask_l es in
    let whole : (0 + 2 * m) / 2 ≡ m = omega arith in
    let nonzero : m ≢ 0 = λ none. some (omega (arith, none)) in
    let less : (0 + 2 * m - 1) / 2 ≡ m - 1 = omega arith in
    let even : (0 + 2 * m) % 2 ≡ 0 = omega arith in
    let high : bit_and ((0 + 2 * m) / 2) ((0 + 2 * m - 1) / 2) ≡ mask_l (cleared 1 es) = (λ i. bit_and (whole i) (less i)) ∙ later nonzero in
    omega (arith, and_step (0 + 2 * m) (0 + 2 * m - 1), high, even)

pub clear_lowest : (es : List Bool) → mask_l es ≢ 0 → bit_and (mask_l es) (mask_l es - 1) ≡ mask_l (cleared 1 es)
clear_lowest [] some = absurd (some refl)
clear_lowest (b ∷ es) some = clear_step b es (clear_lowest es) some

ends_step : (b c m p : ℕ) → b ≤ 1 → c ≤ 1 → m * 2 + 1 < p → bit_and (b + 2 * m) (p * 2 - 1 - ((b + 2 * m) * 2 + c)) ≡ min b (1 - c) + 2 * bit_and m (p - 1 - (m * 2 + b))
ends_step b c m p b1 c1 less =
    let whole : (b + 2 * m) / 2 ≡ m = omega arith in
    let low : (b + 2 * m) % 2 ≡ b = omega arith in
    let whole' : (p * 2 - 1 - ((b + 2 * m) * 2 + c)) / 2 ≡ p - 1 - (m * 2 + b) = omega arith in
    let low' : (p * 2 - 1 - ((b + 2 * m) * 2 + c)) % 2 ≡ 1 - c = omega arith in
    let high : bit_and ((b + 2 * m) / 2) ((p * 2 - 1 - ((b + 2 * m) * 2 + c)) / 2) ≡ bit_and m (p - 1 - (m * 2 + b)) = λ i. bit_and (whole i) (whole' i) in
    let lowest : min ((b + 2 * m) % 2) ((p * 2 - 1 - ((b + 2 * m) * 2 + c)) % 2) ≡ min b (1 - c) = λ i. min (low i) (low' i) in
    omega (arith, and_step (b + 2 * m) (p * 2 - 1 - ((b + 2 * m) * 2 + c)), high, lowest)

bit_below : (b : Bool) → cond b 1 0 ≤ 1
bit_below true = omega arith
bit_below false = omega arith

ends_bit : (b before : Bool) → min (cond b 1 0) (1 - cond before 1 0) ≡ cond (b && not before) 1 0
ends_bit true true = refl
ends_bit true false = refl
ends_bit false true = refl
ends_bit false false = refl

-- all ends at once
pub ends_mask : (before : Bool) (bs : List Bool) (w : ℕ) → length bs < w → bit_and (mask_l bs) (2 ^ w - 1 - (mask_l bs * 2 + cond before 1 0)) ≡ mask_l (ends_of before bs)
unfolding ends_of
ends_mask before [] w less = refl
ends_mask before (b ∷ bs) zero less = absurd (omega arith)
ends_mask before (b ∷ bs) (suc w) less =
    let m = mask_l bs in
    let more : suc (length bs) ≤ w = omega arith in
    let fits : m * 2 + 1 < 2 ^ w = omega (arith, mask_l-lt bs, pow_mono more, pow-suc 2 (length bs)) in
    ap (λ (p : ℕ). bit_and (cond b 1 0 + 2 * m) (p - 1 - ((cond b 1 0 + 2 * m) * 2 + cond before 1 0))) (pow-suc 2 w)
    ∙ ends_step (cond b 1 0) (cond before 1 0) m (2 ^ w) (bit_below b) (bit_below before) fits
    ∙ (λ i. ends_bit b before i + 2 * ends_mask b bs w (omega arith) i)

module _ (s : Separator) where
  -- the words from here on. If there is no mark before, a word has begun: it counts, and its bytes do not matter
  abbrev words_after : Bool → List ℕ → List (List ℕ)
  words_after true xs = words_by s xs
  words_after false xs = [] ∷ words_by s (drop (position_or_len (separates s) xs) xs)

  abbrev Reaches : Bool → List ℕ → List ℕ → Type 0
  Reaches before ys zs = (n at : ℕ)
      → get_or (cleared n (ends_of before (map (separates s) ys))) at false ≡ true
      → ((k : ℕ) → k < at → get_or (cleared n (ends_of before (map (separates s) ys))) k false ≡ false)
      → (at < length ys) × (separates s (get_or (ys ++ zs) at 0) ≡ true) × (words_by s (drop at (ys ++ zs)) ≡ drop (suc n) (words_after before (ys ++ zs)))

  words_behind : (x : ℕ) (xs : List ℕ) → separates s x ≡ true → words_by s (x ∷ xs) ≡ words_by s xs
  words_behind x xs e = rw e refl

  begun : (before : Bool) (x : ℕ) (xs : List ℕ) (n : ℕ) → separates s x ≡ false → drop (suc n) (words_after before (x ∷ xs)) ≡ drop (suc n) (words_after false xs)
  begun true x xs n e =
      let at : position_or_len (separates s) (x ∷ xs) ≡ suc (position_or_len (separates s) xs) = rw e (omega arith) in
      let within : suc (position_or_len (separates s) xs) ≤ length (x ∷ xs) = omega (arith, prefix_len-le-length (λ y. not (separates s y)) xs) in
      ap (drop (suc n))
      (first_word s (x ∷ xs) (x ∷ take (position_or_len (separates s) xs) xs) (drop (position_or_len (separates s) xs) xs) (suc (position_or_len (separates s) xs)) (λ _. e) (sym at) within refl refl)
  begun false x xs n e =
      let at : position_or_len (separates s) (x ∷ xs) ≡ suc (position_or_len (separates s) xs) = rw e (omega arith) in
      ap (λ (k : ℕ). drop n (words_by s (drop k (x ∷ xs)))) at

  reaches_behind : (before : Bool) (y : ℕ) (ys zs : List ℕ) (b : Bool) → separates s y ≡ b → ((p : Bool) → Reaches p ys zs) → Reaches before (y ∷ ys) zs
  unfolding ends_of cleared
  reaches_behind before y ys zs false e later n zero here lower =
      let head : get_or (cleared n (ends_of before (map (separates s) (y ∷ ys)))) 0 false ≡ false =
      ap (λ (b : Bool). get_or (cleared n ((b && not before) ∷ ends_of b (map (separates s) ys))) 0 false) e
      ∙ ap (λ (l : List Bool). get_or l 0 false) (cleared_false n (ends_of false (map (separates s) ys))) in
      absurd (false≢true (sym head ∙ here))
  reaches_behind before y ys zs false e later n (suc at) here lower =
      let marks : cleared n (ends_of before (map (separates s) (y ∷ ys))) ≡ false ∷ cleared n (ends_of false (map (separates s) ys)) =
      ap (λ (b : Bool). cleared n ((b && not before) ∷ ends_of b (map (separates s) ys))) e ∙ cleared_false n (ends_of false (map (separates s) ys)) in
      let found = later false n at (sym (ap (λ (l : List Bool). get_or l (suc at) false) marks) ∙ here) (λ k less. sym (ap (λ (l : List Bool). get_or l (suc k) false) marks) ∙ lower (suc k) (omega arith)) in
      (omega (arith, found.0), found.1, found.2 ∙ sym (begun before y (ys ++ zs) n e))
  reaches_behind true y ys zs true e later n zero here lower =
      let head : get_or (cleared n (ends_of true (map (separates s) (y ∷ ys)))) 0 false ≡ false =
      ap (λ (b : Bool). get_or (cleared n ((b && false) ∷ ends_of b (map (separates s) ys))) 0 false) e
      ∙ ap (λ (l : List Bool). get_or l 0 false) (cleared_false n (ends_of true (map (separates s) ys))) in
      absurd (false≢true (sym head ∙ here))
  reaches_behind true y ys zs true e later n (suc at) here lower =
      let marks : cleared n (ends_of true (map (separates s) (y ∷ ys))) ≡ false ∷ cleared n (ends_of true (map (separates s) ys)) =
      ap (λ (b : Bool). cleared n ((b && false) ∷ ends_of b (map (separates s) ys))) e ∙ cleared_false n (ends_of true (map (separates s) ys)) in
      let found = later true n at (sym (ap (λ (l : List Bool). get_or l (suc at) false) marks) ∙ here) (λ k less. sym (ap (λ (l : List Bool). get_or l (suc k) false) marks) ∙ lower (suc k) (omega arith)) in
      (omega (arith, found.0), found.1, found.2 ∙ ap (drop (suc n)) (sym (words_behind y (ys ++ zs) e)))
  reaches_behind false y ys zs true e later zero zero here lower =
      let at : position_or_len (separates s) (y ∷ (ys ++ zs)) ≡ 0 = rw e refl in
      (omega arith, e, ap (λ (k : ℕ). words_by s (drop k (y ∷ (ys ++ zs)))) (sym at))
  reaches_behind false y ys zs true e later zero (suc at) here lower =
      let head : get_or (cleared 0 (ends_of false (map (separates s) (y ∷ ys)))) 0 false ≡ true =
      ap (λ (b : Bool). get_or ((b && true) ∷ ends_of b (map (separates s) ys)) 0 false) e in
      absurd (false≢true (sym (lower 0 (omega arith)) ∙ head))
  reaches_behind false y ys zs true e later (suc n) zero here lower =
      let head : get_or (cleared (suc n) (ends_of false (map (separates s) (y ∷ ys)))) 0 false ≡ false =
      ap (λ (b : Bool). get_or (cleared (suc n) ((b && true) ∷ ends_of b (map (separates s) ys))) 0 false) e in
      absurd (false≢true (sym head ∙ here))
  reaches_behind false y ys zs true e later (suc n) (suc at) here lower =
      let marks : cleared (suc n) (ends_of false (map (separates s) (y ∷ ys))) ≡ false ∷ cleared n (ends_of true (map (separates s) ys)) =
      ap (λ (b : Bool). cleared (suc n) ((b && true) ∷ ends_of b (map (separates s) ys))) e in
      let found = later true n at (sym (ap (λ (l : List Bool). get_or l (suc at) false) marks) ∙ here) (λ k less. sym (ap (λ (l : List Bool). get_or l (suc k) false) marks) ∙ lower (suc k) (omega arith)) in
      let zero_at : position_or_len (separates s) (y ∷ (ys ++ zs)) ≡ 0 = rw e refl in (
        omega (arith, found.0),
        found.1,
        found.2 ∙ ap (drop (suc n)) (sym (words_behind y (ys ++ zs) e) ∙ ap (λ (k : ℕ). words_by s (drop k (y ∷ (ys ++ zs)))) (sym zero_at)),
      )

  -- the lowest end that is left has the words before it that were counted
  reaches : (before : Bool) (ys zs : List ℕ) → Reaches before ys zs
  unfolding ends_of cleared
  reaches before [] zs = λ n at here lower. absurd (false≢true (ap (λ (l : List Bool). get_or l at false) (sym (cleared_nil n)) ∙ here))
  reaches before (y ∷ ys) zs = reaches_behind before y ys zs (separates s y) refl (λ p. reaches p ys zs)

-- words were skipped in bytes of which the last have no marks: the ends of the other words are set
abbrev pub HasPassed : Separator → List ℕ → ℕ → ℕ → ℕ → ℕ → Type 0
HasPassed s text unmarked count ends at =
    (ends ≡ mask_l (cleared count (ends_of true (map (separates s) (before_last unmarked text)))))
    × (at + unmarked ≤ length text) × (words_by s (drop at text) ≡ drop count (words_by s text))

length-cleared : (n : ℕ) (es : List Bool) → length (cleared n es) ≡ length es
unfolding cleared
length-cleared zero es = refl
length-cleared (suc n) [] = refl
length-cleared (suc n) (true ∷ es) = omega (arith, length-cleared n es)
length-cleared (suc n) (false ∷ es) = omega (arith, length-cleared (suc n) es)

length-ends_of : (before : Bool) (bs : List Bool) → length (ends_of before bs) ≡ length bs
unfolding ends_of
length-ends_of before [] = refl
length-ends_of before (b ∷ bs) = omega (arith, length-ends_of b bs)

module _ (s : Separator) (text : List ℕ) (unmarked mask : ℕ) (le : unmarked ≤ length text) (few : length text ≤ unmarked + 63) (is : mask ≡ marks (separates s) (before_last unmarked text)) where
  few_bits : length (map (separates s) (before_last unmarked text)) < 64
  few_bits = omega (arith, length-map (before_last unmarked text) (separates s), before_last-length unmarked text)

  pub twice_fits : mask * 2 + 1 < 2 ^ 64
  twice_fits =
      let small : length (map (separates s) (before_last unmarked text)) ≤ 63 = omega (arith, few_bits) in
      omega (arith, is, mask_l-lt (map (separates s) (before_last unmarked text)), pow_mono small)

  pub none_passed : HasPassed s text unmarked 0 (bit_and mask (2 ^ 64 - 1 - (mask * 2 + 1))) 0
  unfolding cleared
  none_passed = (
    ap (λ (m : ℕ). bit_and m (2 ^ 64 - 1 - (m * 2 + 1))) is ∙ ends_mask true (map (separates s) (before_last unmarked text)) 64 few_bits,
    omega arith,
    refl,
  )

  module _ (count ends at : ℕ) (passed : HasPassed s text unmarked count ends at) (some : ends ≢ 0) where
    few_left : length (cleared count (ends_of true (map (separates s) (before_last unmarked text)))) < 64
    few_left = omega (arith, length-cleared count (ends_of true (map (separates s) (before_last unmarked text))), length-ends_of true (map (separates s) (before_last unmarked text)), few_bits)

    below : ends < 2 ^ 64
    below =
        let small : length (cleared count (ends_of true (map (separates s) (before_last unmarked text)))) ≤ 64 = omega (arith, few_left) in
        omega (arith, passed.0, mask_l-lt (cleared count (ends_of true (map (separates s) (before_last unmarked text)))), pow_mono small)

    bit_of : (k : ℕ) → bit_at ends k ≡ cond (get_or (cleared count (ends_of true (map (separates s) (before_last unmarked text)))) k false) 1 0
    bit_of k = ap (λ (m : ℕ). bit_at m k) passed.0 ∙ bit_mask_l (cleared count (ends_of true (map (separates s) (before_last unmarked text)))) k

    pub passes_one : HasPassed s text unmarked (suc count) (bit_and ends (ends - 1)) (trailing_zeros w64 ends)
    passes_one =
        let positive : 0 < ends = omega arith in
        let lowest = bit_at-trailing_zeros w64 ends positive below in
        let found = reaches s true (before_last unmarked text) (drop (length text - unmarked) text) count (trailing_zeros w64 ends)
        (set_bit _ (sym (bit_of (trailing_zeros w64 ends)) ∙ lowest.1))
        (λ k less. clear_bit _ (sym (bit_of k) ∙ lowest.2 k less)) in
        let whole : before_last unmarked text ++ drop (length text - unmarked) text ≡ text = take-append-drop (length text - unmarked) text in
        let marked : trailing_zeros w64 ends + unmarked ≤ length text = omega (arith, found.0, before_last-length unmarked text) in (
          ap (λ (m : ℕ). bit_and m (m - 1)) passed.0
              ∙ clear_lowest (cleared count (ends_of true (map (separates s) (before_last unmarked text)))) (λ none. some (passed.0 ∙ none))
              ∙ ap mask_l (cleared_more count (ends_of true (map (separates s) (before_last unmarked text)))),
          marked,
          ap (λ (l : List ℕ). words_by s (drop (trailing_zeros w64 ends) l)) (sym whole) ∙ found.2 ∙ ap (λ (l : List ℕ). drop (suc count) (words_by s l)) whole,
        )

  -- what is left of the string, cut there
  module _ (count ends at : ℕ) (passed : HasPassed s text unmarked count ends at) (rest : List ℕ) (back : rest ≡ drop at text) where
    pub unmarked_rest : unmarked ≤ length rest
    unmarked_rest = omega (arith, passed.1, ap length back, length-drop at text)

    pub few_rest : length rest ≤ unmarked + 63
    few_rest = omega (arith, ap length back, length-drop at text)

    pub marks_rest : mask / 2 ^ at ≡ marks (separates s) (before_last unmarked rest)
    marks_rest =
        ap (λ n. n / 2 ^ at) is ∙ marks_drop (separates s) (before_last unmarked text) at
        ∙ ap (marks (separates s)) (before_last-drop unmarked at text passed.1 ∙ ap (before_last unmarked) (sym back))

    pub words_rest : words_by s rest ≡ drop count (words_by s text)
    words_rest = ap (words_by s) back ∙ passed.2

-- only the word
pub only_first : (word : List ℕ) (all later : List (List ℕ)) → all ≡ with_word word later → take 1 all ≡ with_word word []
only_first [] all later e = ap (take 1) e
only_first (x ∷ xs) all later e = ap (take 1) e

-- the strings after a word that was taken
pub after_taken : (word : List ℕ) (old new : List (List ℕ)) → old ≡ with_word word new → (word ≡ [] → new ≡ []) → new ≡ drop 1 old
after_taken [] old new e none = none refl ∙ sym (ap (drop 1) e)
after_taken (x ∷ xs) old new e none = sym (ap (drop 1) e)

drop_none : (n : ℕ) → drop {A = List ℕ} n [] ≡ []
drop_none zero = refl
drop_none (suc n) = refl

pub after_last : (word : List ℕ) (old new : List (List ℕ)) → length word ≡ 0 → old ≡ with_word word new → (word ≡ [] → new ≡ []) → (n : ℕ) → new ≡ drop n old
after_last [] old new empty e none n = none refl ∙ sym (ap (drop n) e ∙ drop_none n)
after_last (x ∷ xs) old new empty e none n = absurd (omega arith)

-- words skipped, one taken, and words skipped
pub skipped_more : (n left later : ℕ) (all self new last : List (List ℕ)) → 0 < left → left ≤ n → later ≤ left - 1 → self ≡ drop (n - left) all → new ≡ drop 1 self → last ≡ drop (left - 1 - later) new → last ≡ drop (n - later) all
skipped_more n left later all self new last some le less a b c =
    let sum : n - left + 1 + (left - 1 - later) ≡ n - later = omega arith in
    c ∙ ap (drop (left - 1 - later)) (b ∙ ap (drop 1) a ∙ drop-drop 1 (n - left) all)
    ∙ drop-drop (left - 1 - later) (n - left + 1) all ∙ ap (λ (k : ℕ). drop k all) sum

pub skipped_all : (n left : ℕ) (all self : List (List ℕ)) → left ≤ n → self ≡ drop (n - left) all → drop left self ≡ drop n all
skipped_all n left all self le a =
    let sum : n - left + left ≡ n = omega arith in
    ap (drop left) a ∙ drop-drop left (n - left) all ∙ ap (λ (k : ℕ). drop k all) sum
