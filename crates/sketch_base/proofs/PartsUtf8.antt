-- The parts of UTF-8 between ASCII bytes are UTF-8, and so are its words.
use Rattle.std.proofs.Common.{◌≡◌, ℕ, zero, suc, ◌+◌, ◌<◌, ◌≤◌, ⊎_elim, Bool, true, List, [], ◌∷◌, length, get_or, take, drop, refl, sym, subst, arith, length-drop}
use Rattle.std.specs.List.{All, position_or_len, slice_split}
use Rattle.std.specs.Str.{IsUtf8}
use Rattle.std.proofs.lemmas.Bool.{cases_lt}
use Rattle.std.proofs.lemmas.List.Elements.{All-nil, All-cons, All-head, All-tail, All-take, All-drop, All-filter}
use Rattle.std.proofs.lemmas.List.Splits.{slice_split_first, slice_split_none}
use Rattle.std.proofs.lemmas.List.Sums.{fails_before_first, passes_at_first}
use Rattle.std.proofs.lemmas.Str.{IsUtf8-nil, IsUtf8-take, IsUtf8-drop, IsCharBoundary-before_ascii, IsCharBoundary-after_ascii}
use Rattle.sketch_base.specs.Split.{separates, with_word, words_by}
use Rattle.sketch_base.specs.declared.separator.Separator.{Separator}
use Rattle.sketch_base.proofs.SplitWords.{not_empty, separator_below}

module _ (p : ℕ → Bool) (ascii : (byte : ℕ) → p byte ≡ true → byte < 128) where
  -- a string without such a byte is one part
  one_part : (text : List ℕ) → IsUtf8 text → length text ≤ position_or_len p text → All IsUtf8 (slice_split p text)
  one_part text utf8 none =
      subst (All IsUtf8) (sym (slice_split_none p text (λ k d less. fails_before_first p text k d (omega (arith, none, less))))) (All-cons IsUtf8 text [] utf8 (All-nil IsUtf8))

  parts_within : (n : ℕ) (text : List ℕ) → length text ≤ n → IsUtf8 text → All IsUtf8 (slice_split p text)
  parts_within zero text few utf8 = one_part text utf8 (omega arith)
  parts_within (suc n) text few utf8 = ⊎_elim
      (λ less.
      let at = position_or_len p text in
      let below : get_or text at 0 < 128 = ascii _ (passes_at_first p text 0 less) in
      subst (All IsUtf8) (sym (slice_split_first p text 0 less))
      (All-cons IsUtf8 (take at text) (slice_split p (drop (at + 1) text))
      (IsUtf8-take text at utf8 (IsCharBoundary-before_ascii text at less below))
      (parts_within n (drop (at + 1) text) (omega (arith, length-drop (at + 1) text)) (IsUtf8-drop text (at + 1) utf8 (IsCharBoundary-after_ascii text at utf8 less below)))))
      (one_part text utf8)
      (cases_lt (position_or_len p text) (length text))

  pub parts_utf8 : (text : List ℕ) → IsUtf8 text → All IsUtf8 (slice_split p text)
  parts_utf8 text utf8 = parts_within (length text) text (omega arith) utf8

pub words_utf8 : (s : Separator) (text : List ℕ) → IsUtf8 text → All IsUtf8 (words_by s text)
words_utf8 s text utf8 = All-filter not_empty IsUtf8 _ (parts_utf8 (separates s) (separator_below s) text utf8)

-- a word that was taken is UTF-8, and so are the words after it
pub taken_utf8 : (old new : List (List ℕ)) (word : List ℕ) → All IsUtf8 old → old ≡ with_word word new → (word ≡ [] → new ≡ []) → IsUtf8 word × All IsUtf8 new
taken_utf8 old new [] all e none = (IsUtf8-nil, subst (All IsUtf8) (sym (none refl)) (All-nil IsUtf8))
taken_utf8 old new (x ∷ xs) all e none =
    let whole : All IsUtf8 ((x ∷ xs) ∷ new) = subst (All IsUtf8) e all in
    (All-head IsUtf8 (x ∷ xs) new whole, All-tail IsUtf8 (x ∷ xs) new whole)

-- so is the part of an index
pub nth_utf8 : (index : ℕ) (parts : List (List ℕ)) (part : List ℕ) → All IsUtf8 parts → take 1 (drop index parts) ≡ part ∷ [] → IsUtf8 part
nth_utf8 index parts part all e =
    All-head IsUtf8 part [] (subst (All IsUtf8) e (All-take IsUtf8 1 (drop index parts) (All-drop IsUtf8 index parts all)))
