-- Records whose items are inserted in one call.
use Rattle.std.proofs.Common.{◌≡◌, ℕ, ◌+◌, ◌<◌, Bool, true, false, not, ◌||◌, List, [], ◌∷◌, ◌++◌, length, get_or, map, take, drop, set, append_assoc, append-nil, Some, refl, sym, ◌∙◌, ap, subst, arith}
use Rattle.std.proofs.lemmas.List.{drop_more, map-append, take_more_set}
use Rattle.std.specs.Borrow.{Bor}
use Rattle.std.specs.List.{flat_map}
use Rattle.sketch_base.specs.Strings.{strings_at}
use Rattle.sketch_bloom.specs.State.{FilterState, all_inserted, answers_in_turn, contains_item, inserted}
use Rattle.sketches.specs.EndedText.{Prints, form_after_all, form_both, prints_none, text_both, text_of}
use Rattle.sketches.specs.Joined.{joined_lines}
use Rattle.sketches.specs.RecordParts.{raws_by}
use Rattle.sketch_text.specs.Records.{part_in, records_by}
use Rattle.sketches.specs.Unseen.{AreNextLines, hashed, is_seen, item_of, unseen_lines, with_items, with_lines, written_by, written_of}
use Rattle.sketches.specs.UnseenLaws.{items_both}
use Rattle.sketches.specs.declared.print.ended_text.RecordForm.{RecordForm}
use Rattle.sketch_text.specs.declared.record_part.RecordPart.{RecordPart}

-- the item of a record with its end is that of the record without it
pub item_is : (part : RecordPart) (raw line : List ℕ) → records_by part raw ≡ line ∷ [] → item_of part raw ≡ part_in part line
item_is part raw line one = ap (flat_map (part_in part)) one ∙ append-nil (part_in part line)

strings_push : (words : List (Bor (List ℕ))) (word : Bor (List ℕ)) → strings_at (words ++ word ∷ []) ≡ strings_at words ++ word.now ∷ []
strings_push [] word = refl
strings_push (x ∷ xs) word = ap (λ (l : List (List ℕ)). x.now ∷ l) (strings_push xs word)

-- one more element
pushed_at : (xs : List (Bor (List ℕ))) (count : ℕ) (x : Bor (List ℕ)) → count < length xs → strings_at (take (count + 1) (set xs count x)) ≡ strings_at (take count xs) ++ x.now ∷ []
pushed_at xs count x less = ap strings_at (take_more_set xs count x less) ∙ strings_push (take count xs) x

-- ---- the next records

pub next_none : (part : RecordPart) (bytes : List ℕ) → AreNextLines part bytes bytes [] []
next_none part bytes = record { parts = refl; items_are = refl }

pub next_more : (part : RecordPart) (bytes rest later raw line item : List ℕ) (raws items : List (List ℕ)) → AreNextLines part bytes rest raws items → raws_by part rest ≡ raw ∷ raws_by part later → records_by part raw ≡ line ∷ [] → part_in part line ≡ item ∷ [] → AreNextLines part bytes later (raws ++ raw ∷ []) (items ++ item ∷ [])
next_more part bytes rest later raw line item raws items so next one is = record {
  parts = so.parts ∙ (ap (λ l. raws ++ l) next ∙ sym (append_assoc raws (raw ∷ []) (raws_by part later)));
  items_are =
      map-append (item_of part) raws (raw ∷ [])
      ∙ (ap (λ l. l ++ item_of part raw ∷ []) so.items_are
      ∙ (ap (λ (l : List (List ℕ)). map (λ (x : List ℕ). x ∷ []) items ++ l ∷ []) (item_is part raw line one ∙ is) ∙ sym (map-append (λ (x : List ℕ). x ∷ []) items (item ∷ []))));
}

-- ---- what is written of a batch

or_false : (b : Bool) → (b || false) ≡ b
or_false true = refl
or_false false = refl

pub record IsBatch (repeated : Bool) (part : RecordPart) (filter : FilterState) (raws items : List (List ℕ)) : Type 0 where
  pub written : unseen_lines repeated part filter raws ≡ written_by repeated (answers_in_turn filter (map hashed items)) raws
  pub filter_is : with_lines part filter raws ≡ all_inserted filter (map hashed items)

same_head : (x y : List (List ℕ)) (xs ys : List (List (List ℕ))) → x ∷ xs ≡ y ∷ ys → x ≡ y
same_head x y xs ys e = cc

same_tail : (x y : List (List ℕ)) (xs ys : List (List (List ℕ))) → x ∷ xs ≡ y ∷ ys → xs ≡ ys
same_tail x y xs ys e = cc

pub batch : (repeated : Bool) (part : RecordPart) (filter : FilterState) (raws items : List (List ℕ)) → map (item_of part) raws ≡ map (λ (x : List ℕ). x ∷ []) items → IsBatch repeated part filter raws items
batch repeated part filter [] [] e = record { written = refl; filter_is = refl }
batch repeated part filter [] (y ∷ items) e = cc
batch repeated part filter (raw ∷ raws) [] e = cc
batch repeated part filter (raw ∷ raws) (item ∷ items) e =
    let one : item_of part raw ≡ item ∷ [] = same_head _ _ _ _ e in
    let mid : FilterState = inserted filter (hashed item) in
    let b = batch repeated part mid raws items (same_tail _ _ _ _ e) in
    let seen : is_seen filter (item_of part raw) ≡ contains_item filter (hashed item) = ap (is_seen filter) one ∙ or_false (contains_item filter (hashed item)) in
    let next : with_items filter (item_of part raw) ≡ mid = ap (with_items filter) one in
    record {
      written =
          ap (λ (t : Bool). written_of repeated t raw ++ unseen_lines repeated part (with_items filter (item_of part raw)) raws) seen
          ∙ (ap (λ (s : FilterState). written_of repeated (contains_item filter (hashed item)) raw ++ unseen_lines repeated part s raws) next
          ∙ ap (λ l. written_of repeated (contains_item filter (hashed item)) raw ++ l) b.written);
      filter_is =
          items_both filter (item_of part raw) (flat_map (item_of part) raws) ∙ (ap (λ (s : FilterState). with_lines part s raws) next ∙ b.filter_is);
    }

-- what is written of a batch if its items are only looked up
pub joined_batch : (wanted : Bool) (part : RecordPart) (filter : FilterState) (raws items : List (List ℕ)) → map (item_of part) raws ≡ map (λ (x : List ℕ). x ∷ []) items
    → joined_lines wanted part filter raws ≡ written_by wanted (map (contains_item filter) (map hashed items)) raws
joined_batch wanted part filter [] [] e = refl
joined_batch wanted part filter [] (y ∷ items) e = cc
joined_batch wanted part filter (raw ∷ raws) [] e = cc
joined_batch wanted part filter (raw ∷ raws) (item ∷ items) e =
    let one : item_of part raw ≡ item ∷ [] = same_head _ _ _ _ e in
    let seen : is_seen filter (item_of part raw) ≡ contains_item filter (hashed item) = ap (is_seen filter) one ∙ or_false (contains_item filter (hashed item)) in
    ap (λ (t : Bool). written_of wanted t raw ++ joined_lines wanted part filter raws) seen
    ∙ ap (λ l. written_of wanted (contains_item filter (hashed item)) raw ++ l) (joined_batch wanted part filter raws items (same_tail _ _ _ _ e))

-- ---- one record after another

pub one_written : (repeated : Bool) (seens : List Bool) (raws : List (Bor (List ℕ))) (i : ℕ) (d : Bool) (r : Bor (List ℕ)) → i < length seens → i < length raws
    → written_by repeated (drop i seens) (strings_at (drop i raws)) ≡ written_of repeated (get_or seens i d) (get_or raws i r).now ++ written_by repeated (drop (i + 1) seens) (strings_at (drop (i + 1) raws))
one_written repeated seens raws i d r less less' =
    ap (λ (l : List Bool). written_by repeated l (strings_at (drop i raws))) (drop_more seens i d less)
    ∙ ap (λ (l : List (Bor (List ℕ))). written_by repeated (get_or seens i d ∷ drop (i + 1) seens) (strings_at l)) (drop_more raws i r less')

-- what is left to print after records: all bytes are those that were printed and those that are left
abbrev pub Leaves : (all : List ℕ) (last : RecordForm) (now : List ℕ) (form : RecordForm) → List (List ℕ) → Type 0
Leaves all last now form raws = (all ≡ now ++ text_of form raws) × (last ≡ form_after_all form raws)

leaves_more : (all held now : List ℕ) (last form form' : RecordForm) (xs ys : List (List ℕ)) → Leaves all last held form (xs ++ ys) → Prints (Some held) (Some now) form form' xs → Leaves all last now form' ys
leaves_more all held now last form form' xs ys (text, ends) (printed, then) = (
  text ∙ (ap (λ l. held ++ l) (text_both form xs ys)
      ∙ (sym (append_assoc held (text_of form xs) (text_of (form_after_all form xs) ys))
      ∙ (ap (λ l. l ++ text_of (form_after_all form xs) ys) (sym printed) ∙ ap (λ (b : RecordForm). now ++ text_of b ys) (sym then)))),
  ends ∙ (form_both form xs ys ∙ ap (λ (b : RecordForm). form_after_all b ys) (sym then)),
)

-- nothing is left
pub leaves_none : (all now : List ℕ) (last form : RecordForm) → Leaves all last now form [] → (now ≡ all) × (form ≡ last)
leaves_none all now last form (text, ends) = (sym (text ∙ append-nil now), sym ends)

pub write_step : (repeated : Bool) (seens : List Bool) (raws : List (Bor (List ℕ))) (i : ℕ) (d : Bool) (r : Bor (List ℕ)) (all held now : List ℕ) (last form form' : RecordForm) → i < length seens → i < length raws
    → Leaves all last held form (written_by repeated (drop i seens) (strings_at (drop i raws))) → Prints (Some held) (Some now) form form' (written_of repeated (get_or seens i d) (get_or raws i r).now)
    → Leaves all last now form' (written_by repeated (drop (i + 1) seens) (strings_at (drop (i + 1) raws)))
write_step repeated seens raws i d r all held now last form form' less less' so printed =
    leaves_more all held now last form form' _ _ (subst (Leaves all last held form) (one_written repeated seens raws i d r less less') so) printed

pub taken_more : (part : RecordPart) (bytes rest later line item : List ℕ) (raws items : List (Bor (List ℕ))) (count : ℕ) (r t : Bor (List ℕ)) → count < length raws → count < length items
    → AreNextLines part bytes rest (strings_at (take count raws)) (strings_at (take count items)) → raws_by part rest ≡ r.now ∷ raws_by part later → records_by part r.now ≡ line ∷ [] → part_in part line ≡ item ∷ [] → t.now ≡ item
    → AreNextLines part bytes later (strings_at (take (count + 1) (set raws count r))) (strings_at (take (count + 1) (set items count t)))
taken_more part bytes rest later line item raws items count r t less less' so next one is same =
    rw (pushed_at raws count r less, pushed_at items count t less')
    (next_more part bytes rest later r.now line t.now (strings_at (take count raws)) (strings_at (take count items)) so next one (is ∙ ap (λ (x : List ℕ). x ∷ []) (sym same)))

pub not_true : (b : Bool) → not b ≡ true → b ≡ false
not_true true e = cc
not_true false e = refl

pub not_false : (b : Bool) → not b ≡ false → b ≡ true
not_false true e = refl
not_false false e = cc

-- a record that is not written
pub write_skip : (repeated : Bool) (seens : List Bool) (raws : List (Bor (List ℕ))) (i : ℕ) (d : Bool) (all held : List ℕ) (last form : RecordForm) → i < length seens → i < length raws
    → Leaves all last held form (written_by repeated (drop i seens) (strings_at (drop i raws))) → ((raw : List ℕ) → written_of repeated (get_or seens i d) raw ≡ [])
    → Leaves all last held form (written_by repeated (drop (i + 1) seens) (strings_at (drop (i + 1) raws)))
write_skip repeated seens [] i d all held last form less less' so none = absurd (omega (arith, less'))
write_skip repeated seens (r ∷ raws) i d all held last form less less' so none =
    write_step repeated seens (r ∷ raws) i d r all held held last form form less less' so
    (subst (Prints (Some held) (Some held) form form) (sym (none (get_or (r ∷ raws) i r).now)) (prints_none (Some held) form))
