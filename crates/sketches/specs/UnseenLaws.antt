-- The laws of records with their ends, and of the records that are written.
use Rattle.std.proofs.Common.{◌≡◌, ℕ, ◌+◌, ◌-◌, ◌<◌, Bool, true, false, cond, eqb, List, [], ◌∷◌, ◌++◌, length, get_or, map, take, drop, Option, Some, append_assoc, append-nil, refl, sym, ◌∙◌, ap, subst, arith, length-append}
use Rattle.std.proofs.lemmas.List.{drop_more, drop_all, take-append-drop, map-append}
use Rattle.std.proofs.lemmas.List.Concat.{flat_map-append}
use Rattle.std.proofs.lemmas.List.Splits.{length-slice_split}
use Rattle.std.specs.List.{flat_map, onto_first, slice_split}
use Rattle.std.specs.Prelude.{if◌then◌else◌}
use Rattle.sketch_text.proofs.CsvBoth.{raw_csv_both}
use Rattle.sketch_bloom.specs.State.{FilterState, all_inserted, inserted}
use Rattle.sketches.specs.Appending.{front_after, front_more, front_same}
use Rattle.sketches.specs.EndedText.{Prints, form_after_all, prints_none, prints_both, text_both, text_of}
use Rattle.sketches.specs.Outputs.{WritesFront}
use Rattle.sketches.specs.RawLines.{raw_lines, raw_lines_of_parts}
use Rattle.sketches.specs.Reading.{AreWholeLines, AreWholeRecords}
use Rattle.sketches.specs.RecordParts.{raw_records_in, raws_by}
use Rattle.sketch_text.specs.Records.{splits_by}
use Rattle.sketches.specs.Unseen.{hashed, is_seen, is_written, item_of, unseen_lines, with_items, with_lines}
use Rattle.sketches.specs.declared.print.ended_text.RecordForm.{RecordForm}
use Rattle.sketch_text.specs.declared.record_part.RecordPart.{RecordPart}
use Rattle.sketch_text.specs.declared.records.Records.{Records}
use Rattle.sketch_text.specs.declared.records.Records.TheVariants as records

abbrev is_feed : ℕ → Bool
is_feed byte = eqb byte 10

onto_joined : (x : ℕ) (us vs : List (List ℕ)) → 0 < length us → onto_first x (us ++ vs) ≡ onto_first x us ++ vs
onto_joined x [] vs some = absurd (omega arith)
onto_joined x (u ∷ us) vs some = refl

-- the parts before a line feed, and those after it
pub split_joined : (xs ys : List ℕ) → slice_split is_feed (xs ++ 10 ∷ ys) ≡ slice_split is_feed xs ++ slice_split is_feed ys
split_joined [] ys = refl
split_joined (x ∷ xs) ys =
    elim (is_feed x) as (λ b. cond b ([] ∷ slice_split is_feed (xs ++ 10 ∷ ys)) (onto_first x (slice_split is_feed (xs ++ 10 ∷ ys))) ≡ cond b ([] ∷ slice_split is_feed xs) (onto_first x (slice_split is_feed xs)) ++ slice_split is_feed ys) [
      | true ↦ ap (λ l. [] ∷ l) (split_joined xs ys)
      | false ↦ ap (onto_first x) (split_joined xs ys) ∙ onto_joined x (slice_split is_feed xs) (slice_split is_feed ys) (omega (arith, length-slice_split is_feed xs))
    ]

abbrev with_feed : List ℕ → List ℕ
with_feed x = x ++ 10 ∷ []

raw_cons : (part : List ℕ) (parts : List (List ℕ)) → 0 < length parts → raw_lines_of_parts (part ∷ parts) ≡ with_feed part ∷ raw_lines_of_parts parts
raw_cons part [] some = absurd (omega arith)
raw_cons part (next ∷ parts) some = refl

pub raw_joined : (us vs : List (List ℕ)) → 0 < length vs → raw_lines_of_parts (us ++ vs) ≡ map with_feed us ++ raw_lines_of_parts vs
raw_joined [] vs some = refl
raw_joined (u ∷ us) vs some = raw_cons u (us ++ vs) (omega (arith, length-append us vs)) ∙ ap (λ l. with_feed u ∷ l) (raw_joined us vs some)

-- the lines before a line feed, and those after it
pub raw_after_feed : (xs ys : List ℕ) → raw_lines (xs ++ 10 ∷ ys) ≡ map with_feed (slice_split is_feed xs) ++ raw_lines ys
raw_after_feed xs ys = ap raw_lines_of_parts (split_joined xs ys) ∙ raw_joined (slice_split is_feed xs) (slice_split is_feed ys) (omega (arith, length-slice_split is_feed ys))

-- bytes that end in a line feed
ends : (x : ℕ) (xs : List ℕ) → get_or (x ∷ xs) (length (x ∷ xs) - 1) 0 ≡ 10 → x ∷ xs ≡ take (length (x ∷ xs) - 1) (x ∷ xs) ++ 10 ∷ []
ends x xs last =
    let all : List ℕ = x ∷ xs in
    let n : ℕ = length all - 1 in
    sym (take-append-drop n all)
    ∙ ap (λ l. take n all ++ l) (drop_more all n 0 (omega arith) ∙ (ap (λ (y : ℕ). y ∷ drop (n + 1) all) last ∙ ap (λ (l : List ℕ). 10 ∷ l) (drop_all (n + 1) all (omega arith))))

pub raw_both : (xs ys : List ℕ) → AreWholeLines xs → raw_lines (xs ++ ys) ≡ raw_lines xs ++ raw_lines ys
raw_both [] ys whole = refl
raw_both (x ∷ xs) ys whole =
    let front : List ℕ = take (length (x ∷ xs) - 1) (x ∷ xs) in
    let e : x ∷ xs ≡ front ++ 10 ∷ [] = ends x xs (whole (omega arith)) in
    ap (λ l. raw_lines (l ++ ys)) e
    ∙ (ap raw_lines (append_assoc front (10 ∷ []) ys)
    ∙ (raw_after_feed front ys
    ∙ ap (λ l. l ++ raw_lines ys) (sym (ap raw_lines e ∙ (raw_after_feed front [] ∙ append-nil (map with_feed (slice_split is_feed front)))))))

-- the records of whole records and of the bytes after them
pub raw_records_both : (split : Records) (xs ys : List ℕ) → AreWholeRecords split xs → raw_records_in split (xs ++ ys) ≡ raw_records_in split xs ++ raw_records_in split ys
raw_records_both records.Lines xs ys whole = raw_both xs ys whole
raw_records_both (records.Csv delimiter) [] ys whole = refl
raw_records_both (records.Csv delimiter) (x ∷ xs) ys whole = raw_csv_both delimiter (x ∷ xs) ys (whole (omega arith))

no_raws : (split : Records) → raw_records_in split [] ≡ []
no_raws records.Lines = refl
no_raws (records.Csv delimiter) = refl

pub raws_none : (chosen : RecordPart) → raws_by chosen [] ≡ []
raws_none chosen = no_raws (splits_by chosen)

-- ---- the filter, and what is written

inserted_both : (filter : FilterState) (xs ys : List (List ℕ)) → all_inserted filter (xs ++ ys) ≡ all_inserted (all_inserted filter xs) ys
inserted_both filter [] ys = refl
inserted_both filter (x ∷ xs) ys = inserted_both (inserted filter x) xs ys

pub items_both : (filter : FilterState) (xs ys : List (List ℕ)) → with_items filter (xs ++ ys) ≡ with_items (with_items filter xs) ys
items_both filter xs ys = ap (all_inserted filter) (map-append hashed xs ys) ∙ inserted_both filter (map hashed xs) (map hashed ys)

pub with_both : (part : RecordPart) (filter : FilterState) (xs ys : List (List ℕ)) → with_lines part filter (xs ++ ys) ≡ with_lines part (with_lines part filter xs) ys
with_both part filter xs ys = ap (with_items filter) (flat_map-append (item_of part) xs ys) ∙ items_both filter (flat_map (item_of part) xs) (flat_map (item_of part) ys)

pub unseen_both : (repeated : Bool) (part : RecordPart) (filter : FilterState) (xs ys : List (List ℕ)) → unseen_lines repeated part filter (xs ++ ys) ≡ unseen_lines repeated part filter xs ++ unseen_lines repeated part (with_lines part filter xs) ys
unseen_both repeated part filter [] ys = refl
unseen_both repeated part filter (raw ∷ xs) ys =
    let mid : FilterState = with_items filter (item_of part raw) in
    let first : List (List ℕ) = if is_written repeated (is_seen filter (item_of part raw)) then raw ∷ [] else [] in
    ap (λ l. first ++ l) (unseen_both repeated part mid xs ys ∙ ap (λ (s : FilterState). unseen_lines repeated part mid xs ++ unseen_lines repeated part s ys) (sym (items_both filter (item_of part raw) (flat_map (item_of part) xs))))
    ∙ sym (append_assoc first (unseen_lines repeated part mid xs) (unseen_lines repeated part (with_lines part filter (raw ∷ xs)) ys))

-- ---- the laws of a sink that writes unseen records

-- what the sink does with records
abbrev TakesUnseen : (repeated : Bool) (part : RecordPart) (filter filter' : FilterState) (held holds : Option (List ℕ)) (form form' : RecordForm) → List ℕ → (part' : RecordPart) (repeated' : Bool) → Type 0
TakesUnseen repeated part filter filter' held holds form form' bytes part' repeated' =
    (filter' ≡ with_lines part filter (raws_by part bytes)) × Prints held holds form form' (unseen_lines repeated part filter (raws_by part bytes)) × (part' ≡ part) × (repeated' ≡ repeated)

pub takes_nothing : (filter : FilterState) (part : RecordPart) (repeated : Bool) (held : Option (List ℕ)) (form : RecordForm)
    → TakesUnseen repeated part filter filter held held form form [] part repeated
takes_nothing filter part repeated held form = rw (raws_none part) (refl, prints_none held form, refl, refl)

pub takes_lines : (xs ys : List ℕ) (r : Bool) (p : RecordPart) → AreWholeRecords (splits_by p) xs → (r' : Bool) (p' : RecordPart) (r'' : Bool) (p'' : RecordPart) (a b c : FilterState) (held mid holds : Option (List ℕ)) (o o' o'' : RecordForm)
    → TakesUnseen r p a b held mid o o' xs p' r' → TakesUnseen r' p' b c mid holds o' o'' ys p'' r'' → TakesUnseen r p a c held holds o o'' (xs ++ ys) p'' r''
takes_lines xs ys r p whole r' p' r'' p'' a b c held mid holds o o' o'' (filter, text, same_part, same_repeated) (filter', text', same_part', same_repeated') =
    let here : List (List ℕ) = raws_by p xs in
    let there : List (List ℕ) = raws_by p ys in
    let both : raws_by p (xs ++ ys) ≡ here ++ there = raw_records_both (splits_by p) xs ys whole in
    let later : c ≡ with_lines p (with_lines p a here) there = filter' ∙ (ap (λ (q : RecordPart). with_lines q b (raws_by q ys)) same_part ∙ ap (λ (s : FilterState). with_lines p s there) filter) in
    let more : unseen_lines r' p' b (raws_by p' ys) ≡ unseen_lines r p (with_lines p a here) there =
    ap (λ (q : Bool). unseen_lines q p' b (raws_by p' ys)) same_repeated ∙ (ap (λ (q : RecordPart). unseen_lines r q b (raws_by q ys)) same_part ∙ ap (λ (s : FilterState). unseen_lines r p s there) filter) in (
      later ∙ sym (ap (with_lines p a) both ∙ with_both p a here there),
      subst (Prints held holds o o'') (ap (λ l. unseen_lines r p a here ++ l) more ∙ sym (ap (unseen_lines r p a) both ∙ unseen_both r p a here there))
          (prints_both held mid holds o o' o'' _ _ text text'),
      same_part' ∙ same_part,
      same_repeated' ∙ same_repeated,
    )

-- the front of what is written of whole records is that of what is written if records follow
pub front_sooner : (xs ys : List ℕ) (r : Bool) (p : RecordPart) → AreWholeRecords (splits_by p) xs → (a : FilterState) (held holds : Option (List ℕ)) (o : RecordForm)
    → WritesFront held holds (text_of o (unseen_lines r p a (raws_by p xs))) → WritesFront held holds (text_of o (unseen_lines r p a (raws_by p (xs ++ ys))))
front_sooner xs ys r p whole a held holds o front =
    let here : List (List ℕ) = raws_by p xs in
    let there : List (List ℕ) = raws_by p ys in
    let both : unseen_lines r p a (raws_by p (xs ++ ys)) ≡ unseen_lines r p a here ++ unseen_lines r p (with_lines p a here) there =
    ap (unseen_lines r p a) (raw_records_both (splits_by p) xs ys whole) ∙ unseen_both r p a here there in
    front_same held holds _ _ (sym (ap (text_of o) both ∙ text_both o (unseen_lines r p a here) (unseen_lines r p (with_lines p a here) there))) (front_more held holds _ _ front)

-- after whole records, the front of what is written of the records after them
pub front_later : (xs ys : List ℕ) (r : Bool) (p : RecordPart) → AreWholeRecords (splits_by p) xs → (r' : Bool) (p' : RecordPart) (a b : FilterState) (held mid holds : Option (List ℕ)) (o o' : RecordForm)
    → TakesUnseen r p a b held mid o o' xs p' r' → WritesFront mid holds (text_of o' (unseen_lines r' p' b (raws_by p' ys))) → WritesFront held holds (text_of o (unseen_lines r p a (raws_by p (xs ++ ys))))
front_later xs ys r p whole r' p' a b held mid holds o o' (filter, (text, form), same_part, same_repeated) front =
    let here : List (List ℕ) = raws_by p xs in
    let there : List (List ℕ) = raws_by p ys in
    let both : unseen_lines r p a (raws_by p (xs ++ ys)) ≡ unseen_lines r p a here ++ unseen_lines r p (with_lines p a here) there =
    ap (unseen_lines r p a) (raw_records_both (splits_by p) xs ys whole) ∙ unseen_both r p a here there in
    let more : unseen_lines r' p' b (raws_by p' ys) ≡ unseen_lines r p (with_lines p a here) there =
    ap (λ (q : Bool). unseen_lines q p' b (raws_by p' ys)) same_repeated ∙ (ap (λ (q : RecordPart). unseen_lines r q b (raws_by q ys)) same_part ∙ ap (λ (s : FilterState). unseen_lines r p s there) filter) in
    let later : text_of o' (unseen_lines r' p' b (raws_by p' ys)) ≡ text_of (form_after_all o (unseen_lines r p a here)) (unseen_lines r p (with_lines p a here) there) =
    ap (λ (u : RecordForm). text_of u (unseen_lines r' p' b (raws_by p' ys))) form ∙ ap (text_of (form_after_all o (unseen_lines r p a here))) more in
    front_same held holds _ _ (sym (ap (text_of o) both ∙ text_both o (unseen_lines r p a here) (unseen_lines r p (with_lines p a here) there)))
    (front_after held mid holds _ _ text (front_same mid holds _ _ later front))

-- ---- the same of records that are taken apart

pub takes_no_lines : (filter : FilterState) (part : RecordPart) (repeated : Bool) (own : RecordPart) (held : List ℕ) (form : RecordForm)
    → (filter ≡ with_lines part filter []) × Prints (Some held) (Some held) form form (unseen_lines repeated part filter []) × (own ≡ own) × (repeated ≡ repeated)
takes_no_lines filter part repeated own held form = (refl, prints_none (Some held) form, refl, refl)

abbrev TakesParted : (part : RecordPart) (repeated : Bool) (own : RecordPart) (filter filter' : FilterState) (held holds : List ℕ) (form form' : RecordForm) → List (List ℕ) → (own' : RecordPart) (repeated' : Bool) → Type 0
TakesParted part repeated own filter filter' held holds form form' raws own' repeated' =
    (filter' ≡ with_lines part filter raws) × Prints (Some held) (Some holds) form form' (unseen_lines repeated part filter raws) × (own' ≡ own) × (repeated' ≡ repeated)

pub takes_more_lines : (xs ys : List (List ℕ)) (part : RecordPart) (r : Bool) (p : RecordPart) (r' : Bool) (p' : RecordPart) (r'' : Bool) (p'' : RecordPart) (a b c : FilterState) (held mid holds : List ℕ) (o o' o'' : RecordForm)
    → TakesParted part r p a b held mid o o' xs p' r' → TakesParted part r' p' b c mid holds o' o'' ys p'' r'' → TakesParted part r p a c held holds o o'' (xs ++ ys) p'' r''
takes_more_lines xs ys part r p r' p' r'' p'' a b c held mid holds o o' o'' (filter, text, same_part, same_repeated) (filter', text', same_part', same_repeated') =
    let more : unseen_lines r' part b ys ≡ unseen_lines r part (with_lines part a xs) ys =
    ap (λ (q : Bool). unseen_lines q part b ys) same_repeated ∙ ap (λ (s : FilterState). unseen_lines r part s ys) filter in (
      filter' ∙ (ap (λ (s : FilterState). with_lines part s ys) filter ∙ sym (with_both part a xs ys)),
      subst (Prints (Some held) (Some holds) o o'') (ap (λ l. unseen_lines r part a xs ++ l) more ∙ sym (unseen_both r part a xs ys))
          (prints_both (Some held) (Some mid) (Some holds) o o' o'' _ _ text text'),
      same_part' ∙ same_part,
      same_repeated' ∙ same_repeated,
    )
