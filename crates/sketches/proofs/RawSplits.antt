-- The first line of bytes, with its end.
use Rattle.std.proofs.Common.{◌≡◌, ℕ, ◌+◌, ◌<◌, ◌≤◌, false, eqb, List, [], ◌∷◌, ◌++◌, length, get_or, map, take, drop, refl, sym, ◌∙◌, ap, subst, arith, length-drop, length-take-le}
use Rattle.std.proofs.lemmas.Bool.{eqb-true}
use Rattle.std.proofs.lemmas.Bool.Decides.{nat_tests}
use Rattle.std.proofs.lemmas.List.{drop_all, drop_more, get_or-take, take_all, take_more, take-append-drop, take-take}
use Rattle.std.proofs.lemmas.List.Splits.{slice_split_none}
use Rattle.std.proofs.lemmas.List.Sums.{fails_before_first, passes_at_first}
use Rattle.std.specs.List.{position_or_len, slice_split}
use Rattle.std.specs.Str.Lines.{lines, lines_of_parts, strip_carriage_return}
use Rattle.sketch_base.specs.Split.{separates}
use Rattle.sketch_base.specs.declared.separator.Separator.TheVariants.{LineFeed}
use Rattle.sketches.specs.RawLines.{raw_lines, raw_lines_of_parts}
use Rattle.sketches.specs.UnseenLaws.{raw_after_feed, split_joined}

one_raw : (text : List ℕ) → 0 < length text → raw_lines_of_parts (text ∷ []) ≡ text ∷ []
one_raw [] some = absurd (omega arith)
one_raw (x ∷ xs) some = let test : eqb (length (x ∷ xs)) 0 ≡ false = grind (arith, nat_tests) in rw test refl

one_line : (text : List ℕ) → 0 < length text → lines_of_parts (text ∷ []) ≡ text ∷ []
one_line [] some = absurd (omega arith)
one_line (x ∷ xs) some = let test : eqb (length (x ∷ xs)) 0 ≡ false = grind (arith, nat_tests) in rw test refl

module _ (text : List ℕ) (at : ℕ) (e : at ≡ position_or_len (separates LineFeed) text) where
  front_is_one : at ≤ length text → slice_split (separates LineFeed) (take at text) ≡ take at text ∷ []
  front_is_one le =
      let len : length (take at text) ≡ at = length-take-le at text le in
      slice_split_none (separates LineFeed) (take at text) (λ k d less.
      let before : k < at = omega (arith, len, less) in
      ap (separates LineFeed) (get_or-take at text k d before) ∙ fails_before_first (separates LineFeed) text k d (omega (arith, e, before)))

  -- a last line without an end
  pub last_raw : (line after : List ℕ) → 0 < length text → at ≡ length text → line ≡ take at text → after ≡ drop at text → (raw_lines text ≡ line ∷ raw_lines after) × (lines line ≡ line ∷ []) × (length after < length text)
  last_raw line after some end l a =
      let whole : line ≡ text = l ∙ take_all at text (omega (arith, end)) in
      let nothing : after ≡ [] = a ∙ drop_all at text (omega (arith, end)) in
      let one : slice_split (separates LineFeed) text ≡ text ∷ [] = subst (λ (x : List ℕ). slice_split (separates LineFeed) x ≡ x ∷ []) (take_all at text (omega (arith, end))) (front_is_one (omega (arith, end))) in (
        ap raw_lines_of_parts one ∙ one_raw text some ∙ rw (whole, nothing) refl,
        ap lines whole ∙ ap lines_of_parts one ∙ one_line text some ∙ ap (λ (x : List ℕ). x ∷ []) (sym whole),
        rw nothing some,
      )

  -- a line with an end
  pub first_raw : (raw after front line : List ℕ) → at < length text → raw ≡ take (at + 1) text → after ≡ drop (at + 1) text → front ≡ take at raw → line ≡ strip_carriage_return front → (raw_lines text ≡ raw ∷ raw_lines after) × (lines raw ≡ line ∷ []) × (length after < length text)
  first_raw raw after front line less r a f l =
      let feed : get_or text at 0 ≡ 10 = eqb-true _ 10 (rw (← e) at (passes_at_first (separates LineFeed) text 0 (omega (arith, e, less)))) in
      let before : List ℕ = take at text in
      let one : slice_split (separates LineFeed) before ≡ before ∷ [] = front_is_one (omega arith) in
      let raw_is : raw ≡ before ++ 10 ∷ [] = r ∙ (take_more text at 0 less ∙ ap (λ (x : ℕ). before ++ x ∷ []) feed) in
      let whole : text ≡ before ++ 10 ∷ after = sym (take-append-drop at text) ∙ ap (λ t. before ++ t) (drop_more text at 0 less ∙ (ap (λ (x : ℕ). x ∷ drop (at + 1) text) feed ∙ ap (λ (t : List ℕ). 10 ∷ t) (sym a))) in
      let front_is : front ≡ before = f ∙ (ap (take at) r ∙ take-take at (at + 1) text (omega arith)) in (
        ap raw_lines whole ∙ raw_after_feed before after ∙ ap (λ (parts : List (List ℕ)). map (λ x. x ++ 10 ∷ []) parts ++ raw_lines after) one ∙ ap (λ (x : List ℕ). x ∷ raw_lines after) (sym raw_is),
        ap lines raw_is ∙ ap lines_of_parts (split_joined before [] ∙ ap (λ (parts : List (List ℕ)). parts ++ slice_split (separates LineFeed) []) one) ∙ ap (λ (x : List ℕ). strip_carriage_return x ∷ []) (sym front_is) ∙ ap (λ (x : List ℕ). x ∷ []) (sym l),
        omega (arith, ap length a, length-drop (at + 1) text, less),
      )
