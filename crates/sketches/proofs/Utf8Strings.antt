-- The items of a line that is UTF-8 are UTF-8.
use Rattle.std.proofs.Common.{◌≡◌, ℕ, ◌+◌, ◌-◌, ◌^◌, Bool, true, false, eqb, cond, List, [], ◌∷◌, length, get_or, take, drop, min, refl, ◌∙◌, ap, arith}
use Rattle.std.proofs.lemmas.Bool.{eqb-true}
use Rattle.std.proofs.lemmas.List.Elements.{All-cons, All-drop, All-head, All-nil, All-tail, All-take}
use Rattle.std.proofs.lemmas.List.Sums.{sum_by-cons}
use Rattle.std.proofs.lemmas.Str.{IsUtf8-nil, IsUtf8-take, IsCharBoundary-before_ascii, IsUtf8-from_is_utf8, is_utf8-from_IsUtf8}
use Rattle.std.specs.List.{All, list_all, slice_split}
use Rattle.std.specs.Prelude.{◌&&◌, not}
use Rattle.std.specs.Str.{IsUtf8, is_utf8}
use Rattle.std.specs.Str.Lines.{lines, lines_of_parts, strip_carriage_return}
use Rattle.sketch_base.proofs.PartsUtf8.{parts_utf8, words_utf8}
use Rattle.sketch_base.proofs.SplitWords.{separator_below}
use Rattle.sketch_base.specs.Split.{separates, words_of}
use Rattle.sketch_base.specs.declared.separator.Separator.TheVariants.{AsciiWhitespace, LineFeed}
use Rattle.sketch_text.proofs.Delimited.{fields_of, fields_utf8}
use Rattle.sketch_text.specs.Records.{part_of}
use Rattle.sketch_text.specs.declared.part.Part.{Part}
use Rattle.sketch_text.specs.declared.part.Part.TheVariants as part
use Rattle.sketches.specs.Utf8Lines.{GrowsBy, bytes_of, bytes_of_line, not_utf8_in, not_utf8_of}
use Rattle.sketches.specs.declared.item.selection.Selection.{Selection}
use Rattle.sketches.specs.declared.item.selection.Selection.TheVariants as selection
use Rattle.sketches.specs.declared.item.weighing.Weighing.{Weighing}
use Rattle.sketches.specs.declared.item.weighing.Weighing.TheVariants as weighing

module _ (chosen : Weighing) where
  abbrev one : List ℕ → ℕ
  one row = cond (not (list_all is_utf8 (bytes_of chosen row))) 1 0

  pub not_utf8_cons : (row : List ℕ) (rest : List (List ℕ)) → not_utf8_in chosen (row ∷ rest) ≡ not_utf8_in chosen (row ∷ []) + not_utf8_in chosen rest
  not_utf8_cons row rest =
      let none : not_utf8_in chosen [] ≡ 0 = refl in
      omega (arith, sum_by-cons one row rest, sum_by-cons one row [], none)

  of_record : (row : List ℕ) (n : ℕ) → one row ≡ n → not_utf8_in chosen (row ∷ []) ≡ n
  of_record row n is = let none : not_utf8_in chosen [] ≡ 0 = refl in omega (arith, sum_by-cons one row [], none, is)

  -- a record without an item counts 0
  pub counts_no_item : (row : List ℕ) → bytes_of chosen row ≡ [] → not_utf8_in chosen (row ∷ []) ≡ 0
  counts_no_item row none = of_record row 0 (ap (λ (l : List (List ℕ)). cond (not (list_all is_utf8 l)) 1 0) none)

  one_item : (b : Bool) → cond {A = ℕ} (not (b && true)) 1 0 ≡ cond b 0 1
  one_item true = refl
  one_item false = refl

  -- a record with one counts what the item counts
  pub counts_item : (row item : List ℕ) → bytes_of chosen row ≡ item ∷ [] → not_utf8_in chosen (row ∷ []) ≡ not_utf8_of item
  counts_item row item is = of_record row (not_utf8_of item) (ap (λ (l : List (List ℕ)). cond (not (list_all is_utf8 l)) 1 0) is ∙ one_item (is_utf8 item))

  all_utf8 : (items : List (List ℕ)) → All IsUtf8 items → list_all is_utf8 items ≡ true
  all_utf8 [] all = refl
  all_utf8 (x ∷ items) all =
      ap (λ (b : Bool). b && list_all is_utf8 items) (is_utf8-from_IsUtf8 x (All-head IsUtf8 x items all)) ∙ all_utf8 items (All-tail IsUtf8 x items all)

  -- a record whose items are UTF-8 counts 0
  pub counts_none : (row : List ℕ) → All IsUtf8 (bytes_of chosen row) → not_utf8_in chosen (row ∷ []) ≡ 0
  counts_none row all = of_record row 0 (ap (λ (b : Bool). cond (not b) 1 0) (all_utf8 (bytes_of chosen row) all))

  -- ---- one record after another

  -- the number grew by the records before those that are left
  abbrev pub HasGrown : (old : ℕ) (all left : List (List ℕ)) (new : ℕ) → Type 0
  HasGrown old all left new = min (new + not_utf8_in chosen left) (2 ^ 64 - 1) ≡ min (old + not_utf8_in chosen all) (2 ^ 64 - 1)

  pub grown_more : (old mid new : ℕ) (all left later : List (List ℕ)) (row : List ℕ) → HasGrown old all left mid → left ≡ row ∷ later → GrowsBy mid (not_utf8_in chosen (row ∷ [])) new → HasGrown old all later new
  grown_more old mid new all left later row so next grows =
      omega (arith, so, grows, ap (not_utf8_in chosen) next, not_utf8_cons row later)

-- an item that is UTF-8 counts 0, and another counts 1
pub item_counts_none : (item : List ℕ) → IsUtf8 item → not_utf8_of item ≡ 0
item_counts_none item utf8 = ap (λ (b : Bool). cond b 0 1) (is_utf8-from_IsUtf8 item utf8)

counts_one : (item : List ℕ) (b : Bool) → is_utf8 item ≡ b → ¬ (IsUtf8 item) → cond {A = ℕ} b 0 1 ≡ 1
counts_one item true is other = absurd (other (IsUtf8-from_is_utf8 item is))
counts_one item false is other = refl

pub item_counts_one : (item : List ℕ) → ¬ (IsUtf8 item) → not_utf8_of item ≡ 1
item_counts_one item other = counts_one item (is_utf8 item) refl other

-- ---- the items of a line that is UTF-8

part_utf8 : (chosen : Part) (line : List ℕ) → IsUtf8 line → All IsUtf8 (part_of chosen line)
part_utf8 part.Line line utf8 = All-cons IsUtf8 line [] utf8 (All-nil IsUtf8)
part_utf8 (part.Word index) line utf8 = All-take IsUtf8 1 (drop index (words_of line)) (All-drop IsUtf8 index (words_of line) (words_utf8 AsciiWhitespace line utf8))
part_utf8 (part.Field field) line utf8 =
    All-take IsUtf8 1 (drop field.index (fields_of field.delimiter line)) (All-drop IsUtf8 field.index (fields_of field.delimiter line) (fields_utf8 field.delimiter line field.ascii utf8))

line_utf8 : (chosen : Selection) (line : List ℕ) → IsUtf8 line → All IsUtf8 (bytes_of_line chosen line)
line_utf8 selection.Words line utf8 = All-cons IsUtf8 line [] utf8 (All-nil IsUtf8)
line_utf8 (selection.Part chosen) line utf8 = part_utf8 chosen line utf8

-- a line that is UTF-8 counts 0
line_counts_none : (chosen : Selection) (line : List ℕ) → IsUtf8 line → not_utf8_in (weighing.Once chosen) (line ∷ []) ≡ 0
line_counts_none chosen line utf8 = counts_none (weighing.Once chosen) line (line_utf8 chosen line utf8)

-- ---- the lines of a string

strip_by : (line : List ℕ) (b : Bool) → eqb (get_or line (length line - 1) 0) 13 ≡ b → IsUtf8 line → IsUtf8 (cond b (take (length line - 1) line) line)
strip_by line false is utf8 = utf8
strip_by [] true is utf8 = IsUtf8-nil
strip_by (x ∷ xs) true is utf8 =
    let last : ℕ = length (x ∷ xs) - 1 in
    IsUtf8-take (x ∷ xs) last utf8 (IsCharBoundary-before_ascii (x ∷ xs) last (omega arith) (omega (arith, eqb-true _ 13 is)))

strip_utf8 : (line : List ℕ) → IsUtf8 line → IsUtf8 (strip_carriage_return line)
strip_utf8 line utf8 = strip_by line (eqb (get_or line (length line - 1) 0) 13) refl utf8

module _ (chosen : Selection) where
  last_part : (part : List ℕ) (b : Bool) → IsUtf8 part → not_utf8_in (weighing.Once chosen) (cond b [] (part ∷ [])) ≡ 0
  last_part part true utf8 = refl
  last_part part false utf8 = line_counts_none chosen part utf8

  parts_count_none : (parts : List (List ℕ)) → All IsUtf8 parts → not_utf8_in (weighing.Once chosen) (lines_of_parts parts) ≡ 0
  parts_count_none [] all = refl
  parts_count_none (part ∷ []) all = last_part part (eqb (length part) 0) (All-head IsUtf8 part [] all)
  parts_count_none (part ∷ next ∷ more) all =
      let line : List ℕ = strip_carriage_return part in
      let rest : List (List ℕ) = lines_of_parts (next ∷ more) in
      omega (arith, not_utf8_cons (weighing.Once chosen) line rest, line_counts_none chosen line (strip_utf8 part (All-head IsUtf8 part (next ∷ more) all)), parts_count_none (next ∷ more) (All-tail IsUtf8 part (next ∷ more) all))

  string_counts_none : (text : List ℕ) → IsUtf8 text → not_utf8_in (weighing.Once chosen) (lines text) ≡ 0
  string_counts_none text utf8 = parts_count_none (slice_split (separates LineFeed) text) (parts_utf8 (separates LineFeed) (separator_below LineFeed) text utf8)

  -- a number does not grow by a line that is UTF-8, nor by the lines of a string
  pub line_grows_none : (line : List ℕ) (n : ℕ) → IsUtf8 line → GrowsBy n (not_utf8_in (weighing.Once chosen) (line ∷ [])) n
  line_grows_none line n utf8 = omega (arith, line_counts_none chosen line utf8)

  pub string_grows_none : (text : List ℕ) (n : ℕ) → IsUtf8 text → GrowsBy n (not_utf8_in (weighing.Once chosen) (lines text)) n
  string_grows_none text n utf8 = omega (arith, string_counts_none text utf8)
