-- The column that has n columns behind it.
use Rattle.std.proofs.Common.{◌≡◌, ℕ, suc, ◌+◌, ◌-◌, ◌<◌, ◌≤◌, cond, List, [], ◌∷◌, length, take, drop, sym, ◌∙◌, ap, arith, length-drop}
use Rattle.std.proofs.lemmas.Bool.{lt-ltb, le-ltb}
use Rattle.std.proofs.lemmas.List.{drop-drop, take_all}
use Rattle.sketch_text.specs.Columns.{from_last}
use Rattle.sketch_text.proofs.Delimited.{fields_of, last_field}
use Rattle.sketch_text.proofs.CsvFields.{parts_of, last_part}
use Rattle.sketch_text.specs.Csv.{IsFieldEnd}
use Rattle.std.specs.List.{position_or_len}
use Rattle.std.specs.Prelude.{◌==◌}

-- ---- the last field

-- without a delimiter after it
pub only_field : (d : ℕ) (text item after : List ℕ) (at : ℕ) → at ≡ position_or_len (λ byte. byte == d) text → item ≡ take at text → after ≡ drop at text → length after ≡ 0 → fields_of d text ≡ item ∷ []
only_field d text item after at e i a none =
    last_field d text after at e a none ∙ ap (λ x. x ∷ []) (sym (i ∙ take_all at text (omega (arith, ap length a, length-drop at text, none))))

pub only_part : (d : ℕ) (text item after : List ℕ) (at : ℕ) → IsFieldEnd d text at → item ≡ take at text → after ≡ drop at text → length after ≡ 0 → parts_of d text ≡ item ∷ []
only_part d text item after at end i a none =
    last_part d text after at end a none ∙ ap (λ x. x ∷ []) (sym (i ∙ take_all at text (omega (arith, ap length a, length-drop at text, none))))

-- ---- columns ahead of others

-- `ahead` has the columns of `left` without the first n + 1, and the column with n columns behind it is that of all
pub record IsAhead (n : ℕ) (all left ahead : List (List ℕ)) : Type 0 where
  pub enough : n < length left
  pub others : ahead ≡ drop (n + 1) left
  pub same : from_last n left ≡ from_last n all

inside : (n : ℕ) (columns : List (List ℕ)) → n < length columns → from_last n columns ≡ take 1 (drop (length columns - 1 - n) columns)
inside n columns less = ap (λ b. cond b (take 1 (drop (length columns - 1 - n) columns)) []) (lt-ltb n (length columns) less)

pub none_from_last : (n : ℕ) (columns : List (List ℕ)) → length columns ≤ n → from_last n columns ≡ []
none_from_last n columns few = ap (λ b. cond b (take 1 (drop (length columns - 1 - n) columns)) []) (le-ltb n (length columns) few)

-- no column is ahead
pub at_last : (n : ℕ) (all left ahead after : List (List ℕ)) (column : List ℕ) → IsAhead n all left ahead → left ≡ column ∷ after → ahead ≡ [] → from_last n all ≡ column ∷ []
at_last n all left ahead after column is first none =
    let long : length left ≡ n + 1 = omega (arith, is.enough, length-drop (n + 1) left, ap length is.others, ap length none) in
    let at : length left - 1 - n ≡ 0 = omega (arith, long) in
    sym is.same ∙ (inside n left is.enough ∙ (ap (λ (k : ℕ). take 1 (drop k left)) at ∙ ap (take 1) first))

-- another column is
pub one_on : (n : ℕ) (all left ahead after further : List (List ℕ)) (column next : List ℕ) → IsAhead n all left ahead → left ≡ column ∷ after → ahead ≡ next ∷ further → IsAhead n all after further
one_on n all left ahead after further column next is first more =
    let long : n + 1 < length left = omega (arith, length-drop (n + 1) left, ap length is.others, ap length more) in
    let one : length left ≡ length after + 1 = omega (arith, ap length first) in
    let less : n < length after = omega (arith, long, one) in
    let at : length left - 1 - n ≡ suc (length after - 1 - n) = omega (arith, long, one) in record {
      enough = less;
      others =
          let next_n : n + 1 ≡ suc n = omega arith in
          let both : next ∷ further ≡ drop n after = sym more ∙ (is.others ∙ (ap (drop (n + 1)) first ∙ ap (λ (k : ℕ). drop k (column ∷ after)) next_n)) in
          ap (drop 1) both ∙ drop-drop 1 n after;
      same =
          inside n after less
          ∙ (sym (inside n left is.enough ∙ (ap (λ (k : ℕ). take 1 (drop k left)) at ∙ ap (λ l. take 1 (drop (suc (length after - 1 - n)) l)) first))
          ∙ is.same);
    }
