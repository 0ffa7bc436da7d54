-- The words of a string, one after another.
use Rattle.std.proofs.Common.{◌≡◌, ℕ, zero, suc, ◌+◌, ◌<◌, ◌≤◌, ⊎_elim, Bool, true, false, ltb, List, [], ◌∷◌, length, get_or, take, drop, filter, refl, sym, ◌∙◌, ap, subst, arith, length-drop}
use Rattle.std.specs.List.{position_or_len, slice_split, onto_first}
use Rattle.std.specs.Str.{IsCharBoundary}
use Rattle.std.specs.Char.{is_ascii_whitespace}
use Rattle.std.proofs.lemmas.Bool.{cases_lt, eqb-true, false≢true}
use Rattle.std.proofs.lemmas.Bool.Decides.{nat_tests}
use Rattle.std.proofs.lemmas.List.{drop_more, take_all, drop_all}
use Rattle.std.proofs.lemmas.List.Sums.{passes_at_first}
use Rattle.std.proofs.lemmas.List.Splits.{slice_split_first}
use Rattle.std.proofs.lemmas.Str.{IsCharBoundary-end, IsCharBoundary-before_ascii}
use Rattle.sketch_base.specs.Split.{separates, with_word, words_by}
use Rattle.sketch_base.specs.declared.separator.Separator.{Separator}
use Rattle.sketch_base.specs.declared.separator.Separator.TheVariants.{Space, LineFeed, AsciiWhitespace}

white_below : (byte : ℕ) → is_ascii_whitespace byte ≡ true → byte < 128
white_below byte h = grind (arith, nat_tests, h)

-- separators are ASCII
pub separator_below : (s : Separator) (byte : ℕ) → separates s byte ≡ true → byte < 128
separator_below Space byte h = omega (arith, eqb-true byte 32 h)
separator_below LineFeed byte h = omega (arith, eqb-true byte 10 h)
separator_below AsciiWhitespace byte h = white_below byte h

-- what is left of a list of parts without the empty ones
abbrev pub not_empty : List ℕ → Bool
not_empty word = ltb 0 (length word)

first_of : (word : List ℕ) (parts : List (List ℕ)) → 0 < length word → filter not_empty (word ∷ parts) ≡ with_word word (filter not_empty parts)
first_of [] parts some = absurd (omega arith)
first_of (x ∷ xs) parts some =
    let test : ltb 0 (length (x ∷ xs)) ≡ true = grind (arith, nat_tests) in
    rw test refl

module _ (s : Separator) where
  -- the words from an index on are all of them
  abbrev pub HasSkipped : List ℕ → ℕ → Type 0
  HasSkipped text at = (at ≤ length text) × (words_by s (drop at text) ≡ words_by s text)

  after_separator : (xs : List ℕ) (at : ℕ) → at < length xs → separates s (get_or xs at 0) ≡ true → words_by s (drop at xs) ≡ words_by s (drop (at + 1) xs)
  after_separator xs at less stops = rw (drop_more xs at 0 less, stops) refl

  -- one more separator
  pub skips : (text : List ℕ) (at : ℕ) → HasSkipped text at → at < length text → separates s (get_or text at 0) ≡ true → HasSkipped text (at + 1)
  skips text at (le, same) less stops = (
    omega arith,
    sym (after_separator text at less stops) ∙ same,
  )

  -- behind the separators
  pub plain_after : (text : List ℕ) (at : ℕ) → (at < length text → separates s (get_or text at 0) ≡ false) → 0 < length (drop at text) → separates s (get_or (drop at text) 0 0) ≡ false
  plain_after text at plain some =
      let less : at < length text = omega (arith, length-drop at text) in
      ap (λ (l : List ℕ). separates s (get_or l 0 0)) (drop_more text at 0 less) ∙ plain less

  -- a string may be cut at its first separator, or at its end
  pub first_boundary : (text : List ℕ) (at : ℕ) → at ≡ position_or_len (separates s) text → at ≤ length text → IsCharBoundary text at
  first_boundary text at e le = ⊎_elim
      (λ less. IsCharBoundary-before_ascii text at less (separator_below s _ (rw (← e) at (passes_at_first (separates s) text 0 (rw (← e) less)))))
      (λ ge. let end : length text ≡ at = omega arith in subst (IsCharBoundary text) end (IsCharBoundary-end text))
      (cases_lt at (length text))

  one_part : (x : ℕ) (xs : List ℕ) (b : Bool) → separates s x ≡ b → (length xs ≤ position_or_len (separates s) xs → slice_split (separates s) xs ≡ xs ∷ []) → length (x ∷ xs) ≤ position_or_len (separates s) (x ∷ xs) → slice_split (separates s) (x ∷ xs) ≡ (x ∷ xs) ∷ []
  one_part x xs true e h le =
      let at_once : position_or_len (separates s) (x ∷ xs) ≡ 0 = rw e refl in
      absurd (omega arith)
  one_part x xs false e h le =
      let later : position_or_len (separates s) (x ∷ xs) ≡ 1 + position_or_len (separates s) xs = rw e refl in
      rw e (ap (onto_first x) (h (omega arith)))

  -- a string without a separator is one part
  pub no_separator : (xs : List ℕ) → length xs ≤ position_or_len (separates s) xs → slice_split (separates s) xs ≡ xs ∷ []
  no_separator [] le = refl
  no_separator (x ∷ xs) le = one_part x xs (separates s x) refl (no_separator xs) le

  -- a string that does not begin with a separator begins with its first word
  pub first_word : (xs word rest : List ℕ) (at : ℕ) → (0 < length xs → separates s (get_or xs 0 0) ≡ false) → at ≡ position_or_len (separates s) xs → at ≤ length xs → word ≡ take at xs → rest ≡ drop at xs → words_by s xs ≡ with_word word (words_by s rest)
  first_word [] word rest at plain e le w r =
      let none : word ≡ [] = w ∙ take_all at [] (omega arith) in
      rw none refl
  first_word (x ∷ xs) word rest zero plain e le w r = absurd (false≢true (sym (plain (omega arith)) ∙ rw (← e) at (passes_at_first (separates s) (x ∷ xs) 0 (omega (arith, e)))))
  first_word (x ∷ xs) word rest (suc n) plain e le w r = ⊎_elim
      (λ less.
      let here : position_or_len (separates s) (x ∷ xs) < length (x ∷ xs) = omega (arith, e) in
      let stops : separates s (get_or (x ∷ xs) (suc n) 0) ≡ true = rw (← e) at (passes_at_first (separates s) (x ∷ xs) 0 here) in
      let more : words_by s rest ≡ words_by s (drop (suc n + 1) (x ∷ xs)) = ap (words_by s) r ∙ after_separator (x ∷ xs) (suc n) less stops in
      ap (filter not_empty) (slice_split_first (separates s) (x ∷ xs) 0 here)
      ∙ ap (λ (k : ℕ). filter not_empty (take k (x ∷ xs) ∷ slice_split (separates s) (drop (k + 1) (x ∷ xs)))) (sym e)
      ∙ first_of (take (suc n) (x ∷ xs)) (slice_split (separates s) (drop (suc n + 1) (x ∷ xs))) (omega arith)
      ∙ ap (λ (l : List (List ℕ)). with_word (take (suc n) (x ∷ xs)) l) (sym more)
      ∙ ap (λ (l : List ℕ). with_word l (words_by s rest)) (sym w))
      (λ ge.
      let whole : word ≡ x ∷ xs = w ∙ take_all (suc n) (x ∷ xs) ge in
      let nothing : rest ≡ [] = r ∙ drop_all (suc n) (x ∷ xs) ge in
      ap (filter not_empty) (no_separator (x ∷ xs) (omega (arith, e))) ∙ first_of (x ∷ xs) [] (omega arith) ∙ rw (whole, nothing) refl)
      (cases_lt (suc n) (length (x ∷ xs)))

  -- if there is no word, nothing is left
  pub nothing_left : (xs word rest : List ℕ) (at : ℕ) → (0 < length xs → separates s (get_or xs 0 0) ≡ false) → at ≡ position_or_len (separates s) xs → word ≡ take at xs → rest ≡ drop at xs → word ≡ [] → rest ≡ []
  nothing_left [] word rest at plain e w r none = r ∙ drop_all at [] (omega arith)
  nothing_left (x ∷ xs) word rest zero plain e w r none = absurd (false≢true (sym (plain (omega arith)) ∙ rw (← e) at (passes_at_first (separates s) (x ∷ xs) 0 (omega (arith, e)))))
  nothing_left (x ∷ xs) word rest (suc n) plain e w r none = absurd (omega (arith, ap length (sym w ∙ none)))
