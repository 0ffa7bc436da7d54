-- Items of several columns, one column after another.
use Rattle.std.proofs.Common.{◌≡◌, ℕ, zero, suc, ◌<◌, ltb, cond, ◌&&◌, Bool, true, false, List, [], ◌∷◌, ◌++◌, length, map, take, get_or, refl, sym, ◌∙◌, ap, arith, append_assoc, length-append}
use Rattle.std.specs.List.{join_with_byte, list_all}
use Rattle.std.proofs.lemmas.List.Concat.{flat_map-append}
use Rattle.std.proofs.lemmas.List.Folds.{list_all-append}
use Rattle.sketch_text.specs.Columns.{added_by, added_in, between, chosen_by, column_in, has_column, joined_of}
use Rattle.sketch_text.specs.declared.columns.Column.{Column}
use Rattle.sketch_text.specs.declared.columns.Columns.{Columns}
use Rattle.sketch_text.specs.declared.columns.Split.{Split}

-- a record has all of these columns, and a text is the item that they make
pub record HasMade (split : Split) (row : List ℕ) (columns : List Column) (text : List ℕ) : Type 0 where
  pub all : list_all (has_column split row) columns ≡ true
  pub some : 0 < length (added_in split row columns)
  pub is : text ≡ join_with_byte (between split) (added_in split row columns)

join_more : (c : ℕ) (ys : List (List ℕ)) (x : List ℕ) → 0 < length ys → join_with_byte c (ys ++ x ∷ []) ≡ join_with_byte c ys ++ c ∷ x
join_more c [] x l = absurd (omega (arith, l))
join_more c (y ∷ []) x l = refl
join_more c (y ∷ z ∷ ys) x l = ap (λ v. y ++ c ∷ v) (join_more c (z ∷ ys) x (omega arith)) ∙ sym (append_assoc y (c ∷ join_with_byte c (z ∷ ys)) (c ∷ x))

and-false : (b : Bool) → (b && false) ≡ false
and-false true = refl
and-false false = refl

module _ (split : Split) (row : List ℕ) where
  -- what one column adds
  added_one : (column : Column) (found : List ℕ) → column_in split row column ≡ found ∷ [] → added_in split row (column ∷ []) ≡ added_by split found ∷ []
  added_one column found is = ap (λ l. map (added_by split) l ++ []) is

  has_one : (column : Column) (found : List ℕ) → column_in split row column ≡ found ∷ [] → has_column split row column ≡ true
  has_one column found is = ap (λ l. ltb 0 (length l)) is

  has_none : (column : Column) → column_in split row column ≡ [] → has_column split row column ≡ false
  has_none column is = ap (λ l. ltb 0 (length l)) is

  -- the first column
  pub made_first : (column : Column) (found text : List ℕ) → column_in split row column ≡ found ∷ [] → text ≡ added_by split found → HasMade split row (column ∷ []) text
  made_first column found text is e =
      let one = added_one column found is in record {
        all = ap (λ b. b && true) (has_one column found is);
        some = omega (arith, ap length one);
        is = e ∙ sym (ap (join_with_byte (between split)) one);
      }

  -- one column more
  pub made_more : (columns : List Column) (column : Column) (found text longer : List ℕ) → HasMade split row columns text → column_in split row column ≡ found ∷ [] →
      longer ≡ (text ++ between split ∷ []) ++ added_by split found → HasMade split row (columns ++ column ∷ []) longer
  made_more columns column found text longer made is e =
      let one = added_one column found is in
      let added : added_in split row (columns ++ column ∷ []) ≡ added_in split row columns ++ added_by split found ∷ [] =
      flat_map-append (λ c. map (added_by split) (column_in split row c)) columns (column ∷ []) ∙ ap (λ l. added_in split row columns ++ l) one in record {
        all =
            list_all-append (has_column split row) columns (column ∷ [])
            ∙ (ap (λ b. b && (has_column split row column && true)) made.all ∙ ap (λ b. b && true) (has_one column found is));
        some = omega (arith, ap length added, length-append (added_in split row columns) (added_by split found ∷ []), made.some);
        is =
            e ∙ (append_assoc text (between split ∷ []) (added_by split found)
            ∙ (ap (λ l. l ++ between split ∷ added_by split found) made.is
            ∙ sym (ap (join_with_byte (between split)) added ∙ join_more (between split) (added_in split row columns) (added_by split found) made.some)));
      }

-- all columns
pub made_all : (chosen : Columns) (row columns text : List ℕ) (done : List Column) → done ≡ chosen_by chosen → HasMade chosen.split row done text → joined_of chosen row ≡ text ∷ []
made_all chosen row columns text done is made =
    let all : list_all (has_column chosen.split row) (chosen_by chosen) ≡ true = ap (list_all (has_column chosen.split row)) (sym is) ∙ made.all in
    let item = join_with_byte (between chosen.split) (added_in chosen.split row (chosen_by chosen)) in
    ap (λ b. cond b (item ∷ []) []) all
    ∙ ap (λ l. l ∷ []) (ap (λ l. join_with_byte (between chosen.split) (added_in chosen.split row l)) (sym is) ∙ sym made.is)

-- ---- a column is missing

none_at : {X : Type 0} (p : X → Bool) (xs : List X) (k : ℕ) (d : X) → k < length xs → p (get_or xs k d) ≡ false → list_all p xs ≡ false
none_at p [] k d less e = absurd (omega (arith, less))
none_at p (x ∷ xs) zero d less e = ap (λ b. b && list_all p xs) e
none_at p (x ∷ xs) (suc k) d less e = ap (λ b. p x && b) (none_at p xs k d (omega (arith, less)) e) ∙ and-false (p x)

module _ (chosen : Columns) (row : List ℕ) where
  none_made : list_all (has_column chosen.split row) (chosen_by chosen) ≡ false → joined_of chosen row ≡ []
  none_made none = ap (λ b. cond b (join_with_byte (between chosen.split) (added_in chosen.split row (chosen_by chosen)) ∷ []) []) none

  pub first_missing : column_in chosen.split row chosen.first ≡ [] → joined_of chosen row ≡ []
  first_missing is = none_made (ap (λ b. b && list_all (has_column chosen.split row) (take chosen.num_more chosen.more)) (has_none chosen.split row chosen.first is))

  pub other_missing : (k : ℕ) (d : Column) → k < length (take chosen.num_more chosen.more) → column_in chosen.split row (get_or (take chosen.num_more chosen.more) k d) ≡ [] → joined_of chosen row ≡ []
  other_missing k d less is =
      none_made (none_at (has_column chosen.split row) (chosen_by chosen) (suc k) d (omega (arith, less)) (has_none chosen.split row (get_or (take chosen.num_more chosen.more) k d) is))
