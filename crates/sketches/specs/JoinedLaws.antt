-- The laws of keys that are inserted, and of records that are joined with them.
use Rattle.std.proofs.Common.{◌≡◌, ℕ, Bool, List, [], ◌++◌, Option, Some, refl, sym, ◌∙◌, ap, subst}
use Rattle.std.proofs.lemmas.List.Concat.{flat_map-append}
use Rattle.sketch_bloom.specs.State.{FilterState}
use Rattle.sketches.specs.Appending.{front_after, front_more, front_same}
use Rattle.sketches.specs.EndedText.{Prints, form_after_all, prints_none, prints_both, text_both, text_of}
use Rattle.sketches.specs.Outputs.{WritesFront}
use Rattle.sketches.specs.Joined.{joined_lines}
use Rattle.sketches.specs.Reading.{AreWholeRecords}
use Rattle.sketches.specs.RecordParts.{raws_by}
use Rattle.sketch_text.specs.Records.{splits_by}
use Rattle.sketches.specs.Unseen.{is_seen, item_of, with_lines, written_of}
use Rattle.sketches.specs.UnseenLaws.{raw_records_both, raws_none, with_both}
use Rattle.sketches.specs.declared.print.ended_text.RecordForm.{RecordForm}
use Rattle.sketch_text.specs.declared.record_part.RecordPart.{RecordPart}

-- ---- keys

abbrev TakesKeys : (part own : RecordPart) (filter filter' : FilterState) → List (List ℕ) → (own' : RecordPart) → Type 0
TakesKeys part own filter filter' raws own' = (filter' ≡ with_lines part filter raws) × (own' ≡ own)

pub keys_none : (part own : RecordPart) (filter : FilterState) → TakesKeys part own filter filter [] own
keys_none part own filter = (refl, refl)

pub keys_both : (xs ys : List (List ℕ)) (part p p' p'' : RecordPart) (a b c : FilterState) → TakesKeys part p a b xs p' → TakesKeys part p' b c ys p'' → TakesKeys part p a c (xs ++ ys) p''
keys_both xs ys part p p' p'' a b c (filter, same) (filter', same') =
    (filter' ∙ (ap (λ (s : FilterState). with_lines part s ys) filter ∙ sym (with_both part a xs ys)), same' ∙ same)

pub key_lines_none : (p : RecordPart) (filter : FilterState) → TakesKeys p p filter filter (raws_by p []) p
key_lines_none p filter = rw (raws_none p) (keys_none p p filter)

pub key_lines_both : (xs ys : List ℕ) (p p' p'' : RecordPart) → AreWholeRecords (splits_by p) xs → (a b c : FilterState) → TakesKeys p p a b (raws_by p xs) p' → TakesKeys p' p' b c (raws_by p' ys) p'' → TakesKeys p p a c (raws_by p (xs ++ ys)) p''
key_lines_both xs ys p p' p'' whole a b c (filter, same) (filter', same') =
    rw (raw_records_both (splits_by p) xs ys whole)
    (keys_both (raws_by p xs) (raws_by p ys) p p p' p'' a b c (filter, same) (filter' ∙ ap (λ (q : RecordPart). with_lines q b (raws_by q ys)) same, same'))

-- ---- records

pub joined_both : (wanted : Bool) (part : RecordPart) (filter : FilterState) (xs ys : List (List ℕ)) → joined_lines wanted part filter (xs ++ ys) ≡ joined_lines wanted part filter xs ++ joined_lines wanted part filter ys
joined_both wanted part filter xs ys = flat_map-append (λ (raw : List ℕ). written_of wanted (is_seen filter (item_of part raw)) raw) xs ys

abbrev TakesJoined : (part own : RecordPart) (wanted : Bool) (filter filter' : FilterState) (held holds : List ℕ) (form form' : RecordForm) → List (List ℕ) → (own' : RecordPart) (wanted' : Bool) → Type 0
TakesJoined part own wanted filter filter' held holds form form' raws own' wanted' =
    Prints (Some held) (Some holds) form form' (joined_lines wanted part filter raws) × (filter' ≡ filter) × (own' ≡ own) × (wanted' ≡ wanted)

pub joined_none : (part own : RecordPart) (wanted : Bool) (filter : FilterState) (held : List ℕ) (form : RecordForm) → TakesJoined part own wanted filter filter held held form form [] own wanted
joined_none part own wanted filter held form = (prints_none (Some held) form, refl, refl, refl)

pub joined_more : (xs ys : List (List ℕ)) (part p : RecordPart) (w : Bool) (p' : RecordPart) (w' : Bool) (p'' : RecordPart) (w'' : Bool) (a b c : FilterState) (held mid holds : List ℕ) (o o' o'' : RecordForm)
    → TakesJoined part p w a b held mid o o' xs p' w' → TakesJoined part p' w' b c mid holds o' o'' ys p'' w'' → TakesJoined part p w a c held holds o o'' (xs ++ ys) p'' w''
joined_more xs ys part p w p' w' p'' w'' a b c held mid holds o o' o'' (text, same, same_part, same_wanted) (text', same', same_part', same_wanted') =
    let more : joined_lines w' part b ys ≡ joined_lines w part a ys =
    ap (λ (q : Bool). joined_lines q part b ys) same_wanted ∙ ap (λ (s : FilterState). joined_lines w part s ys) same in (
      subst (Prints (Some held) (Some holds) o o'') (ap (λ l. joined_lines w part a xs ++ l) more ∙ sym (joined_both w part a xs ys))
          (prints_both (Some held) (Some mid) (Some holds) o o' o'' _ _ text text'),
      same' ∙ same,
      same_part' ∙ same_part,
      same_wanted' ∙ same_wanted,
    )

abbrev WritesLines : (wanted : Bool) (part : RecordPart) (filter filter' : FilterState) (held holds : Option (List ℕ)) (form form' : RecordForm) → List ℕ → (part' : RecordPart) (wanted' : Bool) → Type 0
WritesLines wanted part filter filter' held holds form form' bytes part' wanted' =
    Prints held holds form form' (joined_lines wanted part filter (raws_by part bytes)) × (filter' ≡ filter) × (part' ≡ part) × (wanted' ≡ wanted)

pub lines_none : (wanted : Bool) (part : RecordPart) (filter : FilterState) (held : Option (List ℕ)) (form : RecordForm) → WritesLines wanted part filter filter held held form form [] part wanted
lines_none wanted part filter held form = rw (raws_none part) (prints_none held form, refl, refl, refl)

pub lines_both : (xs ys : List ℕ) (w : Bool) (p : RecordPart) → AreWholeRecords (splits_by p) xs → (w' : Bool) (p' : RecordPart) (w'' : Bool) (p'' : RecordPart) (a b c : FilterState) (held mid holds : Option (List ℕ)) (o o' o'' : RecordForm)
    → WritesLines w p a b held mid o o' xs p' w' → WritesLines w' p' b c mid holds o' o'' ys p'' w'' → WritesLines w p a c held holds o o'' (xs ++ ys) p'' w''
lines_both xs ys w p whole w' p' w'' p'' a b c held mid holds o o' o'' (text, same, same_part, same_wanted) (text', same', same_part', same_wanted') =
    let more : joined_lines w' p' b (raws_by p' ys) ≡ joined_lines w p a (raws_by p ys) =
    ap (λ (q : Bool). joined_lines q p' b (raws_by p' ys)) same_wanted
    ∙ (ap (λ (q : RecordPart). joined_lines w q b (raws_by q ys)) same_part ∙ ap (λ (s : FilterState). joined_lines w p s (raws_by p ys)) same) in (
      subst (Prints held holds o o'') (ap (λ l. joined_lines w p a (raws_by p xs) ++ l) more ∙ sym (ap (joined_lines w p a) (raw_records_both (splits_by p) xs ys whole) ∙ joined_both w p a (raws_by p xs) (raws_by p ys)))
          (prints_both held mid holds o o' o'' _ _ text text'),
      same' ∙ same,
      same_part' ∙ same_part,
      same_wanted' ∙ same_wanted,
    )

-- the front of what is written of whole records is that of what is written if records follow
pub front_sooner : (xs ys : List ℕ) (w : Bool) (p : RecordPart) → AreWholeRecords (splits_by p) xs → (a : FilterState) (held holds : Option (List ℕ)) (o : RecordForm)
    → WritesFront held holds (text_of o (joined_lines w p a (raws_by p xs))) → WritesFront held holds (text_of o (joined_lines w p a (raws_by p (xs ++ ys))))
front_sooner xs ys w p whole a held holds o front =
    let here : List (List ℕ) = joined_lines w p a (raws_by p xs) in
    let there : List (List ℕ) = joined_lines w p a (raws_by p ys) in
    let both : joined_lines w p a (raws_by p (xs ++ ys)) ≡ here ++ there = ap (joined_lines w p a) (raw_records_both (splits_by p) xs ys whole) ∙ joined_both w p a (raws_by p xs) (raws_by p ys) in
    front_same held holds _ _ (sym (ap (text_of o) both ∙ text_both o here there)) (front_more held holds _ _ front)

-- after whole records, the front of what is written of the records after them
pub front_later : (xs ys : List ℕ) (w : Bool) (p : RecordPart) → AreWholeRecords (splits_by p) xs → (w' : Bool) (p' : RecordPart) (a b : FilterState) (held mid holds : Option (List ℕ)) (o o' : RecordForm)
    → WritesLines w p a b held mid o o' xs p' w' → WritesFront mid holds (text_of o' (joined_lines w' p' b (raws_by p' ys))) → WritesFront held holds (text_of o (joined_lines w p a (raws_by p (xs ++ ys))))
front_later xs ys w p whole w' p' a b held mid holds o o' ((text, form), same, same_part, same_wanted) front =
    let here : List (List ℕ) = joined_lines w p a (raws_by p xs) in
    let there : List (List ℕ) = joined_lines w p a (raws_by p ys) in
    let both : joined_lines w p a (raws_by p (xs ++ ys)) ≡ here ++ there = ap (joined_lines w p a) (raw_records_both (splits_by p) xs ys whole) ∙ joined_both w p a (raws_by p xs) (raws_by p ys) in
    let more : joined_lines w' p' b (raws_by p' ys) ≡ there =
    ap (λ (q : Bool). joined_lines q p' b (raws_by p' ys)) same_wanted
    ∙ (ap (λ (q : RecordPart). joined_lines w q b (raws_by q ys)) same_part ∙ ap (λ (s : FilterState). joined_lines w p s (raws_by p ys)) same) in
    let later : text_of o' (joined_lines w' p' b (raws_by p' ys)) ≡ text_of (form_after_all o here) there = ap (λ (u : RecordForm). text_of u (joined_lines w' p' b (raws_by p' ys))) form ∙ ap (text_of (form_after_all o here)) more in
    front_same held holds _ _ (sym (ap (text_of o) both ∙ text_both o here there)) (front_after held mid holds _ _ text (front_same mid holds _ _ later front))
