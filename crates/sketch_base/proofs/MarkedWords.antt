-- The first word of a string whose separators are marked.
use Rattle.std.proofs.Common.{◌≡◌, ◌≢◌, ◌⊎◌, ℕ, zero, suc, ◌+◌, ◌-◌, ◌*◌, ◌/◌, ◌^◌, ◌<◌, ◌≤◌, ⊎_elim, Bool, true, false, not, cond, List, [], ◌∷◌, length, map, get_or, take, drop, w64, refl, sym, ◌∙◌, ap, subst, arith, length-drop}
use Rattle.std.specs.List.{position_or_len, slice_range}
use Rattle.std.specs.Int.{trailing_ones}
use Rattle.std.proofs.lemmas.Bool.{cases_lt, false≢true}
use Rattle.std.proofs.lemmas.Nat.Bits.{bit_at-trailing_ones}
use Rattle.std.proofs.Math.Pow.{pow_mono}
use Rattle.std.proofs.lemmas.List.{length-map, length-take-le, get_or-take, drop-take, take_all}
use Rattle.std.proofs.lemmas.List.Sums.{prefix_len-le-length}
use Rattle.std.proofs.lemmas.Simd.{bit_mask_l, mask_l-lt}
use Rattle.sketch_base.specs.Split.{IsFirstMarked, separates, with_word, words_by}
use Rattle.sketch_base.specs.declared.separator.Separator.{Separator}
use Rattle.sketch_base.proofs.Marks.{marks, marks_drop}
use Rattle.sketch_base.proofs.Searching.{found_in, range_by_length}
use Rattle.sketch_base.proofs.SplitWords.{HasSkipped, skips, first_word, nothing_left, plain_after}

pub set_bit : (b : Bool) → ◌≡◌ {A = ℕ} (cond b 1 0) 1 → b ≡ true
set_bit true e = refl
set_bit false e = absurd (omega (arith, e))

pub clear_bit : (b : Bool) → ◌≡◌ {A = ℕ} (cond b 1 0) 0 → b ≡ false
clear_bit true e = absurd (omega (arith, e))
clear_bit false e = refl

module _ (p : ℕ → Bool) where
  marked_here : (xs : List ℕ) (i : ℕ) → get_or (map p xs) i false ≡ true → (i < length xs) × (p (get_or xs i 0) ≡ true)
  marked_here [] i e = absurd (false≢true e)
  marked_here (x ∷ xs) zero e = (omega arith, e)
  marked_here (x ∷ xs) (suc i) e =
      let later = marked_here xs i e in
      (omega (arith, later.0), later.1)

  plain_here : (xs : List ℕ) (i : ℕ) → get_or (map p xs) i false ≡ false → i < length xs → p (get_or xs i 0) ≡ false
  plain_here [] i e less = absurd (omega arith)
  plain_here (x ∷ xs) zero e less = e
  plain_here (x ∷ xs) (suc i) e less = plain_here xs i e (omega arith)

  has_later : (x : ℕ) (xs : List ℕ) (b : Bool) → p x ≡ b → (marks p xs ≢ 0 → position_or_len p xs < length xs) → marks p (x ∷ xs) ≢ 0 → position_or_len p (x ∷ xs) < length (x ∷ xs)
  has_later x xs true e later some =
      let at_once : position_or_len p (x ∷ xs) ≡ 0 = rw e refl in
      omega (arith, at_once)
  has_later x xs false e later some =
      let behind : position_or_len p (x ∷ xs) ≡ 1 + position_or_len p xs = rw e refl in
      let twice : marks p (x ∷ xs) ≡ 0 + 2 * marks p xs = rw e refl in
      omega (arith, behind, later (λ none. some (omega (arith, twice, none))))

  -- where the marks are not 0, an element passes
  pub has_mark : (xs : List ℕ) → marks p xs ≢ 0 → position_or_len p xs < length xs
  has_mark [] some = absurd (some refl)
  has_mark (x ∷ xs) some = has_later x xs (p x) refl (has_mark xs) some

  module _ (xs : List ℕ) (few : length xs < 64) where
    below : marks p xs + 1 < 2 ^ 64
    below =
        let few' : length (map p xs) ≤ 63 = omega (arith, length-map xs p) in
        omega (arith, mask_l-lt (map p xs), pow_mono few')

    -- the elements before the lowest bit that is not set are marked
    pub marked_before : (k : ℕ) → k < trailing_ones w64 (marks p xs) → (k < length xs) × (p (get_or xs k 0) ≡ true)
    marked_before k less = marked_here xs k (set_bit (get_or (map p xs) k false) (sym (bit_mask_l (map p xs) k) ∙ (bit_at-trailing_ones w64 (marks p xs) below).2 k less))

    pub start_within : trailing_ones w64 (marks p xs) ≤ length xs
    start_within = ⊎_elim (λ more. absurd (omega (arith, (marked_before (length xs) more).0))) (λ le. le) (cases_lt (length xs) (trailing_ones w64 (marks p xs)))

    -- and the element there is not
    pub plain_start : trailing_ones w64 (marks p xs) < length xs → p (get_or xs (trailing_ones w64 (marks p xs)) 0) ≡ false
    plain_start = plain_here xs _ (clear_bit (get_or (map p xs) (trailing_ones w64 (marks p xs)) false) (sym (bit_mask_l (map p xs) (trailing_ones w64 (marks p xs))) ∙ (bit_at-trailing_ones w64 (marks p xs) below).1))

-- the elements before the last ones
abbrev pub before_last : ℕ → List ℕ → List ℕ
before_last n xs = take (length xs - n) xs

pub before_last-length : (n : ℕ) (xs : List ℕ) → length (before_last n xs) ≡ length xs - n
before_last-length n xs = length-take-le (length xs - n) xs (omega arith)

pub before_last-drop : (n k : ℕ) (xs : List ℕ) → k + n ≤ length xs → drop k (before_last n xs) ≡ before_last n (drop k xs)
before_last-drop n k xs le =
    let count : length xs - n ≡ k + (length (drop k xs) - n) = omega (arith, length-drop k xs) in
    ap (λ m. drop k (take m xs)) count ∙ drop-take k (length (drop k xs) - n) xs

module _ (s : Separator) (text : List ℕ) where
  -- separators up to an index are skipped
  skips_all : (at : ℕ) → at ≤ length text → ((k : ℕ) → k < at → separates s (get_or text k 0) ≡ true) → HasSkipped s text at
  skips_all zero le all = (omega arith, refl)
  skips_all (suc at) le all =
      let next : at + 1 ≡ suc at = omega arith in
      subst (HasSkipped s text) next (skips s text at (skips_all at (omega arith) (λ k less. all k (omega arith))) (omega arith) (all at (omega arith)))

  -- all bytes but the last `left` have marks
  module _ (left mask : ℕ) (le : left ≤ length text) (few : length text ≤ left + 63) (is : mask ≡ marks (separates s) (before_last left text)) where
    short : length (before_last left text) < 64
    short = omega (arith, before_last-length left text)

    ones : trailing_ones w64 mask ≡ trailing_ones w64 (marks (separates s) (before_last left text))
    ones = ap (trailing_ones w64) is

    pub start_marked : trailing_ones w64 mask ≤ length text - left
    start_marked = omega (arith, ones, start_within (separates s) (before_last left text) short, before_last-length left text)

    pub skips_marked : HasSkipped s text (trailing_ones w64 mask)
    skips_marked = skips_all (trailing_ones w64 mask) (omega (arith, start_marked)) (λ k less.
        let lower : k < trailing_ones w64 (marks (separates s) (before_last left text)) = omega (arith, ones) in
        let marked = marked_before (separates s) (before_last left text) short k lower in
        let within : k < length text - left = omega (arith, marked.0, before_last-length left text) in
        subst (λ byte. separates s byte ≡ true) (get_or-take (length text - left) text k 0 within) marked.1)

    plain_behind : trailing_ones w64 mask < length text - left → separates s (get_or text (trailing_ones w64 mask) 0) ≡ false
    plain_behind less =
        let lower : trailing_ones w64 (marks (separates s) (before_last left text)) < length (before_last left text) = omega (arith, ones, before_last-length left text) in
        ap (separates s) (sym (get_or-take (length text - left) text (trailing_ones w64 mask) 0 less))
        ∙ ap (λ k. separates s (get_or (before_last left text) k 0)) ones ∙ plain_start (separates s) (before_last left text) short lower

    -- the first word, if the string is cut behind the separators and then at the lowest mark
    module _ (start end : ℕ) (behind word rest : List ℕ) (starts : start ≡ trailing_ones w64 mask) (back : behind ≡ drop start text) where
      pub left_behind : left ≤ length behind
      left_behind = omega (arith, starts, start_marked, ap length back, length-drop start text)

      marks_behind : mask / 2 ^ start ≡ marks (separates s) (before_last left behind)
      marks_behind =
          ap (λ n. n / 2 ^ start) is ∙ marks_drop (separates s) (before_last left text) start
          ∙ ap (marks (separates s)) (before_last-drop left start text (omega (arith, starts, start_marked)) ∙ ap (before_last left) (sym back))

      module _ (ends : IsFirstMarked (mask / 2 ^ start) (length behind - left) end) where
        first_marked : end ≡ position_or_len (separates s) (before_last left behind)
        first_marked =
            ends (separates s) (before_last left behind) (before_last-length left behind) (omega (arith, ap length back, length-drop start text)) marks_behind

        pub end_marked : end ≤ length behind - left
        end_marked = omega (arith, first_marked, prefix_len-le-length (λ x. not (separates s x)) (before_last left behind), before_last-length left behind)

        pub end_fits : end < 64
        end_fits = omega (arith, end_marked, ap length back, length-drop start text)

        -- all bytes have marks, or a separator has one
        module _ (known : (left ≡ 0) ⊎ (mask / 2 ^ start ≢ 0)) where
          ends_before : mask / 2 ^ start ≢ 0 → end < length behind - left
          ends_before some = omega (arith, first_marked, has_mark (separates s) (before_last left behind) (λ none. some (marks_behind ∙ none)), before_last-length left behind)

          first : end ≡ position_or_len (separates s) behind
          first = ⊎_elim
              (λ none.
              let all : length behind ≤ length behind - left = omega arith in
              first_marked ∙ ap (position_or_len (separates s)) (take_all (length behind - left) behind all))
              (λ some.
              let counted : end ≡ position_or_len (separates s) (slice_range behind 0 (0 + (length behind - left))) =
              first_marked ∙ ap (position_or_len (separates s)) (sym (range_by_length behind 0 (length behind - left))) in
              let found : 0 + end ≡ position_or_len (separates s) behind =
              found_in (separates s) behind 0 (length behind - left) end (omega arith) (λ k less. absurd (omega arith)) counted (ends_before some) in
              omega (arith, found))
              known

          pub end_within : end ≤ length behind
          end_within = omega (arith, end_marked)

          starts_before : 0 < length behind → start < length text - left
          starts_before some = ⊎_elim
              (λ none. omega (arith, ap length back, length-drop start text))
              (λ mark. omega (arith, ends_before mark, ap length back, length-drop start text))
              known

          plain_start_of : start < length text → separates s (get_or text start 0) ≡ false
          plain_start_of less =
              let some : 0 < length behind = omega (arith, ap length back, length-drop start text) in
              let lower : trailing_ones w64 mask < length text - left = omega (arith, starts, starts_before some) in
              ap (λ k. separates s (get_or text k 0)) starts ∙ plain_behind lower

          plain_first : 0 < length behind → separates s (get_or behind 0 0) ≡ false
          plain_first = subst (λ l. 0 < length l → separates s (get_or l 0 0) ≡ false) (sym back) (plain_after s text start plain_start_of)

          module _ (front : word ≡ take end behind) (last : rest ≡ drop end behind) where
            pub left_rest : left ≤ length rest
            left_rest = omega (arith, end_marked, left_behind, ap length last, length-drop end behind)

            pub few_rest : length rest ≤ left + 63
            few_rest = omega (arith, ap length last, length-drop end behind, ap length back, length-drop start text)

            pub marks_left : mask / 2 ^ start / 2 ^ end ≡ marks (separates s) (before_last left rest)
            marks_left =
                ap (λ n. n / 2 ^ end) marks_behind ∙ marks_drop (separates s) (before_last left behind) end
                ∙ ap (marks (separates s)) (before_last-drop left end behind (omega (arith, end_marked, left_behind)) ∙ ap (before_last left) (sym last))

            pub first_marked_word : words_by s text ≡ with_word word (words_by s rest)
            first_marked_word =
                sym (skips_marked.1) ∙ ap (λ k. words_by s (drop k text)) (sym starts) ∙ ap (words_by s) (sym back)
                ∙ first_word s behind word rest end plain_first first end_within front last

            pub no_marked_word : word ≡ [] → words_by s rest ≡ []
            no_marked_word none = ap (words_by s) (nothing_left s behind word rest end plain_first first front last none)
