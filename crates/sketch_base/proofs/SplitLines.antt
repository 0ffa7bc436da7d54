-- The first line of a string.
use Rattle.std.proofs.Common.{◌≡◌, ℕ, ◌+◌, ◌<◌, ◌≤◌, false, eqb, List, [], ◌∷◌, length, get_or, take, drop, length-drop, refl, sym, subst, ◌∙◌, ap, arith}
use Rattle.std.specs.List.{position_or_len, slice_split}
use Rattle.std.specs.Str.Lines.{lines, lines_of_parts, strip_carriage_return}
use Rattle.std.proofs.lemmas.Bool.Decides.{nat_tests}
use Rattle.std.specs.Str.{IsUtf8, IsCharBoundary}
use Rattle.std.proofs.lemmas.Bool.{eqb-true}
use Rattle.std.proofs.lemmas.List.{drop-drop, take_all, drop_all, drop_more}
use Rattle.std.proofs.lemmas.List.Sums.{passes_at_first}
use Rattle.std.proofs.lemmas.Str.{IsUtf8-drop, IsCharBoundary-after_ascii}
use Rattle.std.proofs.lemmas.List.Splits.{length-slice_split, slice_split_first}
use Rattle.sketch_base.specs.Split.{separates}
use Rattle.sketch_base.specs.declared.separator.Separator.TheVariants.{LineFeed}
use Rattle.sketch_base.proofs.SplitWords.{no_separator, first_boundary}
use Rattle.sketch_base.proofs.SplitEnds.{lines_cons}

pub positive : (n : ℕ) → eqb n 0 ≡ false → 0 < n
positive n h = grind (arith, nat_tests, h)

one_line : (text : List ℕ) → 0 < length text → lines_of_parts (text ∷ []) ≡ text ∷ []
one_line [] some = absurd (omega arith)
one_line (x ∷ xs) some = let test : eqb (length (x ∷ xs)) 0 ≡ false = grind (arith, nat_tests) in rw test refl

module _ (text line after : List ℕ) (at : ℕ) (e : at ≡ position_or_len (separates LineFeed) text) (front : line ≡ take at text) (back : after ≡ drop at text) where
  -- a last line without a line feed
  pub last_line : 0 < length text → length after ≡ 0 → (lines text ≡ line ∷ lines after) × (length after < length text)
  last_line some none =
      let le : length text ≤ at = omega (arith, ap length back, length-drop at text) in
      let whole : line ≡ text = front ∙ take_all at text le in
      let nothing : after ≡ [] = back ∙ drop_all at text le in (
        ap lines_of_parts (no_separator LineFeed text (omega (arith, e))) ∙ one_line text some ∙ rw (whole, nothing) refl,
        omega arith,
      )

  module _ (some : 0 < length after) where
    less : at < length text
    less = omega (arith, ap length back, length-drop at text)

    feed : get_or after 0 0 ≡ 10
    feed =
        ap (λ l. get_or l 0 0) (back ∙ drop_more text at 0 less)
        ∙ eqb-true _ 10 (rw (← e) at (passes_at_first (separates LineFeed) text 0 (omega (arith, e, less))))

    -- what comes after a line may be cut behind the line feed
    pub behind_feed : IsUtf8 text → IsCharBoundary after 1
    behind_feed utf8 =
        let after_utf8 : IsUtf8 after = subst IsUtf8 (sym back) (IsUtf8-drop text at utf8 (first_boundary LineFeed text at e (omega (arith, less)))) in
        IsCharBoundary-after_ascii after 0 after_utf8 some (omega (arith, feed))

    -- a line that ends in a line feed
    pub first_line : (stripped rest : List ℕ) → stripped ≡ strip_carriage_return line → rest ≡ drop 1 after → (lines text ≡ stripped ∷ lines rest) × (length rest < length text)
    first_line stripped rest strip behind =
        let rest_is : rest ≡ drop (at + 1) text = behind ∙ (ap (drop 1) back ∙ drop-drop 1 at text) in (
          ap lines_of_parts (slice_split_first (separates LineFeed) text 0 (omega (arith, e, less)))
              ∙ lines_cons (take (position_or_len (separates LineFeed) text) text) (slice_split (separates LineFeed) (drop (position_or_len (separates LineFeed) text + 1) text)) (omega (arith, length-slice_split (separates LineFeed) (drop (position_or_len (separates LineFeed) text + 1) text)))
              ∙ ap (λ k. strip_carriage_return (take k text) ∷ lines (drop (k + 1) text)) (sym e)
              ∙ ap (λ l. l ∷ lines (drop (at + 1) text)) (sym (strip ∙ ap strip_carriage_return front))
              ∙ ap (λ l. stripped ∷ lines l) (sym rest_is),
          omega (arith, ap length rest_is, length-drop (at + 1) text, less),
        )
