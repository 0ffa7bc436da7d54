-- What was taken of an input that is read block by block.
use Rattle.std.proofs.Common.{◌≡◌, ℕ, ◌+◌, ◌-◌, ◌<◌, ◌≤◌, Bool, true, false, List, [], ◌∷◌, ◌++◌, length, get_or, take, drop, Option, None, Some, IfSome, append_assoc, append-nil, refl, sym, ◌∙◌, ap, subst, arith, length-append, length-drop, length-take-le}
use Rattle.std.specs.Io.KnownBytes.{Consumes, Keeps}
use Rattle.std.specs.List.{copy_within}
use Rattle.std.proofs.lemmas.Bool.{eqb-true}
use Rattle.std.proofs.lemmas.List.{drop-drop, drop-take, length-take, take-append-drop, take-take, get_or-take, get_or-append_right}
use Rattle.std.proofs.lemmas.List.Edits.{take-paste}
use Rattle.std.proofs.lemmas.List.Elements.{All-append}
use Rattle.std.proofs.Math.Seq.{take-add}
use Rattle.sketch_base.specs.Split.{IsBehindLast, separates}
use Rattle.sketch_base.specs.declared.separator.Separator.TheVariants.{LineFeed}
use Rattle.sketches.specs.Reading.{AreFirstRecords, AreWholeLines, AreWholeRecords, FailsTaking, FailsWithin, HasLongRecord, IsBehindEnd, IsInOne, IsInOneLine, IsReadOf, StopsAfter, TakesInput, TakesRecords, place_of}
use Rattle.sketches.specs.declared.failure.Failure.{Failure}
use Rattle.sketch_text.specs.declared.records.Records.{Records}
use Rattle.sketch_text.specs.declared.records.Records.TheVariants.{Lines, Csv}
use Rattle.sketch_text.specs.Csv.{EndsRecord, ends_field, is_feed, place_after}
use Rattle.sketch_text.specs.declared.place.Place.{Place}
use Rattle.sketch_text.specs.declared.place.Place.TheVariants.{Start}
use Rattle.sketch_text.proofs.CsvRuns.{after_append, one_append}
use Rattle.sketch_text.proofs.CsvRecords.{ends_later, place_at_end}
use Rattle.sketches.proofs.LongRecords.{Fits, fits_append, fits_short, fits_whole, place_both, place_whole}

-- whole lines, and whole lines after them
whole_lines : (xs ys : List ℕ) → AreWholeLines xs → AreWholeLines ys → AreWholeLines (xs ++ ys)
whole_lines xs [] first second = subst AreWholeLines (sym (append-nil xs)) first
whole_lines xs (y ∷ ys) first second =
    let len : length (xs ++ y ∷ ys) ≡ length xs + length (y ∷ ys) = length-append xs (y ∷ ys) in
    let last : length (xs ++ y ∷ ys) - 1 - length xs ≡ length (y ∷ ys) - 1 = omega (arith, len) in
    λ _. get_or-append_right xs (y ∷ ys) (length xs) (length (xs ++ y ∷ ys) - 1) 0 refl (omega (arith, len)) ∙ ap (λ (n : ℕ). get_or (y ∷ ys) n 0) last ∙ second (omega arith)

-- the bytes through the last line feed
whole_through_last : (bytes : List ℕ) (at : ℕ) → at ≤ length bytes → IsBehindLast (separates LineFeed) bytes at → AreWholeLines (take at bytes)
whole_through_last bytes at le last some =
    let len : length (take at bytes) ≡ at = length-take-le at bytes le in
    get_or-take at bytes (length (take at bytes) - 1) 0 (omega (arith, some, len)) ∙ ap (λ (n : ℕ). get_or bytes (n - 1) 0) len ∙ eqb-true _ 10 (last.0 (omega (arith, some, len)))

-- ---- records

-- no records
pub whole_none : (records : Records) → AreWholeRecords records []
whole_none Lines = λ some. absurd (omega (arith, some))
whole_none (Csv delimiter) = λ some. absurd (omega (arith, some))

-- the last of the bytes after others ends a record
ends_after : (delimiter : ℕ) (xs ys : List ℕ) → EndsRecord delimiter (place_after delimiter Start xs) ys → AreWholeRecords (Csv delimiter) (xs ++ ys)
ends_after delimiter xs ys ends = λ some. ends_later delimiter Start xs ys ends

-- whole records, and whole records after them
whole_both : (records : Records) (xs ys : List ℕ) → AreWholeRecords records xs → AreWholeRecords records ys → AreWholeRecords records (xs ++ ys)
whole_both Lines xs ys first second = whole_lines xs ys first second
whole_both (Csv delimiter) xs [] first second = subst (AreWholeRecords (Csv delimiter)) (sym (append-nil xs)) first
whole_both (Csv delimiter) xs (y ∷ ys) first second =
    ends_after delimiter xs (y ∷ ys)
    (subst (λ (p : Place). EndsRecord delimiter p (y ∷ ys)) (sym (place_whole (Csv delimiter) xs first)) (second (omega arith)))

-- bytes in one record, and those after them
one_both : (records : Records) (xs ys : List ℕ) → IsInOne records Start xs → IsInOne records (place_of records Start xs) ys → IsInOne records Start (xs ++ ys)
one_both Lines xs ys first second = All-append (λ byte. separates LineFeed byte ≡ false) xs ys first second
one_both (Csv delimiter) xs ys first second = one_append (ends_field delimiter) is_feed Start xs ys first second

-- the bytes through the last end of a record
through_lines : (xs bytes : List ℕ) (at : ℕ) → 0 < at → at ≤ length bytes → IsBehindLast (separates LineFeed) bytes at → AreWholeLines (xs ++ take at bytes)
through_lines xs bytes at some le last =
    let len : length (take at bytes) ≡ at = length-take-le at bytes le in
    let all : length (xs ++ take at bytes) ≡ length xs + length (take at bytes) = length-append xs (take at bytes) in
    let index : length (xs ++ take at bytes) - 1 - length xs ≡ length (take at bytes) - 1 = omega (arith, all, len, some) in
    λ _. get_or-append_right xs (take at bytes) (length xs) (length (xs ++ take at bytes) - 1) 0 refl (omega (arith, all, len, some))
    ∙ ap (λ (n : ℕ). get_or (take at bytes) n 0) index
    ∙ whole_through_last bytes at le last (omega (arith, len, some))

pub whole_through : (records : Records) (place : Place) (xs bytes : List ℕ) (at : ℕ) → place ≡ place_of records Start xs → 0 < at → at ≤ length bytes → IsBehindEnd records place bytes at → AreWholeRecords records (xs ++ take at bytes)
whole_through Lines place xs bytes at same some le last = through_lines xs bytes at some le last
whole_through (Csv delimiter) place xs bytes at same some le last =
    ends_after delimiter xs (take at bytes) (subst (λ (p : Place). EndsRecord delimiter p (take at bytes)) same (last.0 some))

-- the bytes after it
pub one_behind : (records : Records) (place : Place) (bytes : List ℕ) (at : ℕ) → 0 < at → IsBehindEnd records place bytes at → IsInOne records Start (drop at bytes)
one_behind Lines place bytes at some last = last.1
one_behind (Csv delimiter) place bytes at some last =
    subst (λ (p : Place). IsInOne (Csv delimiter) p (drop at bytes)) (place_at_end delimiter place (take at bytes) (last.0 some)) last.1

pub place_behind : (records : Records) (place : Place) (bytes : List ℕ) (at : ℕ) → 0 < at → IsBehindEnd records place bytes at → place_of records place bytes ≡ place_of records Start (drop at bytes)
place_behind Lines place bytes at some last = refl
place_behind (Csv delimiter) place bytes at some last =
    ap (place_after delimiter place) (sym (take-append-drop at bytes))
    ∙ (after_append (ends_field delimiter) is_feed place (take at bytes) (drop at bytes)
    ∙ ap (λ (p : Place). place_after delimiter p (drop at bytes)) (place_at_end delimiter place (take at bytes) (last.0 some)))

-- no record ends among the bytes, if none ends before the index 0
pub one_none : (records : Records) (place : Place) (bytes : List ℕ) (at : ℕ) → at ≡ 0 → IsBehindEnd records place bytes at → IsInOne records place bytes
one_none Lines place bytes at start last = subst (λ (n : ℕ). IsInOneLine (drop n bytes)) start last.1
one_none (Csv delimiter) place bytes at start last =
    subst (λ (n : ℕ). IsInOne (Csv delimiter) (place_after delimiter place (take n bytes)) (drop n bytes)) start last.1

-- ---- an input block by block

module _ (records : Records) (limit : ℕ) {S : Type 0} (takes : S → List ℕ → S → Type 0) where
  -- if the input's bytes are known, they are those that were taken, the held ones and those that are left
  pub record HasTakenKnown (bytes left : List ℕ) (old new : S) (held : List ℕ) : Type 0 where
    pub read : List ℕ
    pub parts : bytes ≡ read ++ (held ++ left)
    pub whole : AreWholeRecords records read
    pub fits : 0 < limit → Fits records limit read
    pub taken : takes old read new

  abbrev pub HasTaken : Option (List ℕ) → Option (List ℕ) → (old new : S) → List ℕ → Type 0
  HasTaken None is old new held = Unit {0}
  HasTaken (Some bytes) None old new held = ⊥
  HasTaken (Some bytes) (Some left) old new held = HasTakenKnown bytes left old new held

  pub taken_none : ((s : S) → takes s [] s) → (was : Option (List ℕ)) (old : S) → HasTaken was was old old []
  taken_none none None old = tt
  taken_none none (Some bytes) old = record { read = []; parts = refl; whole = whole_none records; fits = λ some. fits_short records limit [] some; taken = none old }

  -- the bytes stay as they are
  pub taken_kept : (was is is' : Option (List ℕ)) (old new : S) (held : List ℕ) → HasTaken was is old new held → Keeps is is' → HasTaken was is' old new held
  taken_kept None is is' old new held h k = tt
  taken_kept (Some bytes) None is' old new held h k = absurd h
  taken_kept (Some bytes) (Some left) None old new held h k = k
  taken_kept (Some bytes) (Some left) (Some left') old new held h k = subst (λ l. HasTakenKnown bytes l old new held) (sym k) h

  -- more was read
  pub taken_more : (was is is' : Option (List ℕ)) (old new : S) (held got all : List ℕ) → HasTaken was is old new held → Consumes is is' got → all ≡ held ++ got → HasTaken was is' old new all
  taken_more None is is' old new held got all h k e = tt
  taken_more (Some bytes) None is' old new held got all h k e = absurd h
  taken_more (Some bytes) (Some left) None old new held got all h k e = k
  taken_more (Some bytes) (Some left) (Some left') old new held got all h k e = record {
    read = h.read;
    parts = h.parts ∙ ap (λ l. h.read ++ l) (ap (λ l. held ++ l) k ∙ (sym (append_assoc held got left') ∙ ap (λ l. l ++ left') (sym e)));
    whole = h.whole;
    fits = h.fits;
    taken = h.taken;
  }

  -- nothing is left
  parts_at_end : (bytes left held read : List ℕ) → bytes ≡ read ++ (held ++ left) → left ≡ [] → bytes ≡ read ++ held
  parts_at_end bytes left held read parts end = parts ∙ ap (λ l. read ++ l) (ap (λ l. held ++ l) end ∙ append-nil held)

  -- a read failed
  pub taken_failed : {E : Type 0} (was is is' : Option (List ℕ)) (fails next : Bool) (old new : S) (held : List ℕ) (error : E) → HasTaken was is old new held → IsInOne records Start held → Keeps is is' → next ≡ fails → StopsAfter is' next true → TakesInput records takes was fails (Some error) old new
  taken_failed None is is' fails next old new held error h one k same stops = tt
  taken_failed (Some bytes) None is' fails next old new held error h one k same stops = absurd h
  taken_failed (Some bytes) (Some left) None fails next old new held error h one k same stops = absurd k
  taken_failed (Some bytes) (Some left) (Some left') fails next old new held error h one k same stops =
      let yes : fails ≡ true = sym same ∙ stops.1 in (
        sym yes,
        (h.read, subst (λ (b : Bool). IsReadOf records b bytes h.read) (sym yes) (held, parts_at_end bytes left held h.read h.parts (sym k ∙ stops.0), h.whole, one), h.taken),
      )

  -- no record was too long
  pub all_fit : (was is : Option (List ℕ)) (fails b : Bool) (old new : S) (held : List ℕ) → HasTaken was is old new held → StopsAfter is fails b → length held < limit → IfSome was (λ bytes. HasLongRecord records limit bytes → ⊥)
  all_fit None is fails b old new held h stops less = tt
  all_fit (Some bytes) None fails b old new held h stops less = absurd h
  all_fit (Some bytes) (Some left) fails b old new held h stops less =
      subst (λ (l : List ℕ). HasLongRecord records limit l → ⊥) (sym (parts_at_end bytes left held h.read h.parts stops.0))
      (fits_append records limit h.read held h.whole (h.fits (omega (arith, less))) (fits_short records limit held less))

  module _ (splits : S → Records) (both : (r s t : S) (xs ys : List ℕ) → AreWholeRecords (splits r) xs → takes r xs s → takes s ys t → takes r (xs ++ ys) t) where
    joined : (r s t : S) (xs ys : List ℕ) → splits r ≡ records → AreWholeRecords records xs → takes r xs s → takes s ys t → takes r (xs ++ ys) t
    joined r s t xs ys same whole = both r s t xs ys (subst (λ (f : Records). AreWholeRecords f xs) (sym same) whole)

    few_taken : (all taken kept : List ℕ) → all ≡ taken ++ kept → length all ≤ limit → length taken ≤ limit
    few_taken all taken kept parts le = let len = ap (λ (l : List ℕ). length l) parts in omega (arith, le, len, length-append taken kept)

    -- whole lines were taken
    pub taken_lines : (was is : Option (List ℕ)) (old mid new : S) (all buffer : List ℕ) (kept : ℕ) (place : Place) → splits old ≡ records → length all ≤ limit → HasTaken was is old mid all → TakesRecords records takes mid new all buffer kept place → HasTaken was is old new (take kept buffer)
    taken_lines None is old mid new all buffer kept place same le h t = tt
    taken_lines (Some bytes) None old mid new all buffer kept place same le h t = h
    taken_lines (Some bytes) (Some left) old mid new all buffer kept place same le h t = record {
      read = h.read ++ t.taken;
      parts =
          h.parts
          ∙ (ap (λ l. h.read ++ (l ++ left)) t.parts
          ∙ (ap (λ l. h.read ++ l) (append_assoc t.taken (take kept buffer) left) ∙ sym (append_assoc h.read t.taken (take kept buffer ++ left))));
      whole = whole_both records h.read t.taken h.whole t.whole;
      fits = λ some. fits_append records limit h.read t.taken h.whole (h.fits some) (fits_whole records limit t.taken some (few_taken all t.taken (take kept buffer) t.parts le) t.whole);
      taken = joined old mid new h.read t.taken same h.whole h.taken t.change;
    }

    -- the last line was taken
    taken_all : (bytes left held : List ℕ) (old mid new : S) → splits old ≡ records → HasTakenKnown bytes left old mid held → left ≡ [] → takes mid held new → takes old bytes new
    taken_all bytes left held old mid new same h end more =
        let all : bytes ≡ h.read ++ held = parts_at_end bytes left held h.read h.parts end in
        subst (λ l. takes old l new) (sym all) (joined old mid new h.read held same h.whole h.taken more)

    pub taken_last : (E : Type 0) (was is : Option (List ℕ)) (fails next : Bool) (old mid new : S) (all held : List ℕ) → splits old ≡ records → HasTaken was is old mid all → all ≡ held → next ≡ fails → StopsAfter is next false → takes mid held new → TakesInput records takes {E = E} was fails None old new
    taken_last E None is fails next old mid new all held same h e kept end more = tt
    taken_last E (Some bytes) None fails next old mid new all held same h e kept end more = absurd h
    taken_last E (Some bytes) (Some left) fails next old mid new all held same h e kept end more =
        let none : fails ≡ false = sym kept ∙ end.1 in (
          sym none,
          (bytes, subst (λ (b : Bool). IsReadOf records b bytes bytes) (sym none) refl, taken_all bytes left held old mid new same (subst (λ l. HasTakenKnown bytes left old mid l) e h) end.0 more),
        )

  -- reading stops
  pub taken_stopped : (was is : Option (List ℕ)) (old new : S) (held : List ℕ) → HasTaken was is old new held → IfSome was (λ bytes. (read : List ℕ) × AreFirstRecords records bytes read × takes old read new)
  taken_stopped None is old new held h = tt
  taken_stopped (Some bytes) None old new held h = absurd h
  taken_stopped (Some bytes) (Some left) old new held h = (h.read, (held ++ left, h.parts, λ some. h.whole), h.taken)

  -- a line is too long
  pub too_long : (was is : Option (List ℕ)) (old new : S) (held : List ℕ) → HasTaken was is old new held → limit ≤ length held → IsInOne records Start held → IfSome was (HasLongRecord records limit)
  too_long None is old new held h le line = tt
  too_long (Some bytes) None old new held h le line = absurd h
  too_long (Some bytes) (Some left) old new held h le line = (h.read, held, left, h.parts, h.whole, le, line)

  -- ---- a failure while lines are taken

  module _ (splits : S → Records) (fails : S → List ℕ → S → Failure → Type 0) (later : (r s t : S) (xs ys : List ℕ) (e : Failure) → AreWholeRecords (splits r) xs → takes r xs s → fails s ys t e → fails r (xs ++ ys) t e) where
    after : (r s t : S) (xs ys : List ℕ) (e : Failure) → splits r ≡ records → AreWholeRecords records xs → takes r xs s → fails s ys t e → fails r (xs ++ ys) t e
    after r s t xs ys e same whole = later r s t xs ys e (subst (λ (f : Records). AreWholeRecords f xs) (sym same) whole)

    -- of the last line
    pub fails_last : (was is : Option (List ℕ)) (flag b : Bool) (old mid new : S) (all held : List ℕ) (e : Failure) → splits old ≡ records → HasTaken was is old mid all → all ≡ held → StopsAfter is flag b → fails mid held new e → FailsTaking fails fails was old new e
    fails_last None is flag b old mid new all held e kind h same end f = record { some = (mid, held, f); known = tt }
    fails_last (Some bytes) None flag b old mid new all held e kind h same end f = absurd h
    fails_last (Some bytes) (Some left) flag b old mid new all held e kind h same end f = record {
      some = (mid, held, f);
      known =
          subst (λ l. fails old l new e) (sym (parts_at_end bytes left all h.read h.parts end.0 ∙ ap (λ l. h.read ++ l) same))
          (after old mid new h.read held e kind h.whole h.taken f);
    }

    module _ (sooner : (r t : S) (xs ys : List ℕ) (e : Failure) → AreWholeRecords (splits r) xs → fails r xs t e → fails r (xs ++ ys) t e) where
      -- of whole lines
      pub fails_lines : (was is : Option (List ℕ)) (old mid new : S) (all : List ℕ) (e : Failure) → splits old ≡ records → splits mid ≡ records → HasTaken was is old mid all → FailsWithin records fails mid all new e → FailsTaking fails fails was old new e
      fails_lines None is old mid new all e kind same h f = record { some = (mid, f.taken, f.reason); known = tt }
      fails_lines (Some bytes) None old mid new all e kind same h f = absurd h
      fails_lines (Some bytes) (Some left) old mid new all e kind same h f = record {
        some = (mid, f.taken, f.reason);
        known =
            subst (λ l. fails old l new e) (sym (h.parts ∙ ap (λ l. h.read ++ l) (ap (λ l. l ++ left) f.parts ∙ append_assoc f.taken f.rest left)))
            (after old mid new h.read (f.taken ++ (f.rest ++ left)) e kind h.whole h.taken
            (sooner mid new f.taken (f.rest ++ left) e (subst (λ (g : Records). AreWholeRecords g f.taken) (sym same) f.whole) f.reason));
      }

-- ---- records of the buffer

module _ (records : Records) {S : Type 0} (takes : S → List ℕ → S → Type 0) where
  -- no record is whole
  pub lines_nothing : ((s : S) → takes s [] s) → (old : S) (items : List ℕ) (end : ℕ) (place : Place) → end ≤ length items → IsInOne records Start (take end items) → place ≡ place_of records Start (take end items) → TakesRecords records takes old old (take end items) items end place
  lines_nothing none old items end place within one is =
      record { within = within; taken = []; parts = refl; whole = whole_none records; change = none old; rest = one; place_is = is }

-- the bytes after the whole lines moved to the front
moved : (items : List ℕ) (at end : ℕ) → at ≤ end → end ≤ length items → take (end - at) (copy_within items at end 0) ≡ drop at (take end items)
moved items at end le within =
    let count : at + (end - at) ≡ end = omega arith in
    let room : end - at ≤ length (drop at items) = omega (arith, length-drop at items) in
    let none : end - at ≡ 0 + (end - at) = omega arith in
    ap (λ (n : ℕ). take n (copy_within items at end 0)) none ∙ (take-paste items 0 (drop at items) (end - at) (omega arith) room) ∙ (sym (drop-take at (end - at) items) ∙ ap (λ (n : ℕ). drop at (take n items)) count)

-- the bytes through the last end of a record
front_is : (items : List ℕ) (held at end : ℕ) → held + at ≤ end → end ≤ length items → take (held + at) (take end items) ≡ take held items ++ take at (take (end - held) (drop held items))
front_is items held at end le within =
    take-take (held + at) end items le
    ∙ (take-add held at items ∙ ap (λ l. take held items ++ l) (sym (take-take at (end - held) (drop held items) (omega (arith, le)))))

back_is : (items : List ℕ) (held at end : ℕ) → held + at ≤ end → drop (held + at) (take end items) ≡ drop at (take (end - held) (drop held items))
back_is items held at end le =
    let first : held + (end - held) ≡ end = omega (arith, le) in
    sym (drop-drop at held (take end items)) ∙ ap (drop at) (ap (λ (n : ℕ). drop held (take n items)) (sym first) ∙ drop-take held (end - held) items)

pub lines_some : (records : Records) {S : Type 0} (takes : S → List ℕ → S → Type 0) (old new : S) (items buffer : List ℕ) (held at end : ℕ) (place next : Place) → held ≤ end → 0 < at → at ≤ end - held → end ≤ length items
    → place ≡ place_of records Start (take held items) → IsBehindEnd records place (take (end - held) (drop held items)) at → next ≡ place_of records place (take (end - held) (drop held items))
    → takes old (take (held + at) (take end items)) new → buffer ≡ copy_within items (held + at) end 0 → length buffer ≡ length items → TakesRecords records takes old new (take end items) buffer (end - (held + at)) next
lines_some records takes old new items buffer held at end place next first some le within is last next_is taken e len =
    let whole : ℕ = held + at in
    let reach : held + at ≤ end = omega (arith, first, le) in
    let bytes : List ℕ = take (end - held) (drop held items) in
    let bound : at ≤ length bytes = omega (arith, le, length-take (end - held) (drop held items), length-drop held items, within, first) in
    let kept : take (end - whole) buffer ≡ drop whole (take end items) = ap (take (end - whole)) e ∙ moved items whole end reach within in
    let behind : take (end - whole) buffer ≡ drop at bytes = kept ∙ back_is items held at end reach in
    record {
      within = omega (arith, len, within);
      taken = take whole (take end items);
      parts = sym (take-append-drop whole (take end items)) ∙ ap (λ l. take whole (take end items) ++ l) (sym kept);
      whole = subst (AreWholeRecords records) (sym (front_is items held at end reach within)) (whole_through records place (take held items) bytes at is some bound last);
      change = taken;
      rest = subst (IsInOne records Start) (sym behind) (one_behind records place bytes at some last);
      place_is = next_is ∙ (place_behind records place bytes at some last ∙ ap (place_of records Start) (sym behind));
    }

pub fails_some : (records : Records) {S : Type 0} (fails : S → List ℕ → S → Failure → Type 0) (old new : S) (items : List ℕ) (held at end : ℕ) (place : Place) (e : Failure) → held ≤ end → 0 < at → at ≤ end - held → end ≤ length items
    → place ≡ place_of records Start (take held items) → IsBehindEnd records place (take (end - held) (drop held items)) at → fails old (take (held + at) (take end items)) new e → FailsWithin records fails old (take end items) new e
fails_some records fails old new items held at end place e first some le within is last f =
    let reach : held + at ≤ end = omega (arith, first, le) in
    let bytes : List ℕ = take (end - held) (drop held items) in
    let bound : at ≤ length bytes = omega (arith, le, length-take (end - held) (drop held items), length-drop held items, within, first) in
    record {
      taken = take (held + at) (take end items);
      rest = drop (held + at) (take end items);
      parts = sym (take-append-drop (held + at) (take end items));
      whole = subst (AreWholeRecords records) (sym (front_is items held at end reach within)) (whole_through records place (take held items) bytes at is some bound last);
      reason = f;
    }

-- the held bytes and those after them are in one record
held_parts : (items : List ℕ) (held end : ℕ) → held ≤ end → take end items ≡ take held items ++ take (end - held) (drop held items)
held_parts items held end le =
    let sum : held + (end - held) ≡ end = omega arith in
    ap (λ (n : ℕ). take n items) (sym sum) ∙ take-add held (end - held) items

pub one_record : (records : Records) (items : List ℕ) (held at end : ℕ) (place : Place) → held ≤ end → IsInOne records Start (take held items) → place ≡ place_of records Start (take held items) → at ≡ 0 → IsBehindEnd records place (take (end - held) (drop held items)) at → IsInOne records Start (take end items)
one_record records items held at end place le first is start last =
    let more : IsInOne records place (take (end - held) (drop held items)) = one_none records place (take (end - held) (drop held items)) at start last in
    subst (IsInOne records Start) (sym (held_parts items held end le))
    (one_both records (take held items) (take (end - held) (drop held items)) first (subst (λ (p : Place). IsInOne records p (take (end - held) (drop held items))) is more))

pub held_place : (records : Records) (items : List ℕ) (held end : ℕ) (place next : Place) → held ≤ end → place ≡ place_of records Start (take held items) → next ≡ place_of records place (take (end - held) (drop held items)) → next ≡ place_of records Start (take end items)
held_place records items held end place next le is next_is =
    next_is ∙ (ap (λ (p : Place). place_of records p (take (end - held) (drop held items))) is
    ∙ (sym (place_both records (take held items) (take (end - held) (drop held items))) ∙ ap (place_of records Start) (sym (held_parts items held end le))))

-- a read put bytes after the held ones
pub filled : (held count : ℕ) (now was : List ℕ) → held ≤ length was → take held now ≡ take held was → take (held + count) now ≡ take held was ++ take count (drop held now)
filled held count now was le same = take-add held count now ∙ ap (λ l. l ++ take count (drop held now)) same

-- it put none
pub none_more : (held count : ℕ) (xs : List ℕ) → count ≡ 0 → take (held + count) xs ≡ take held xs
none_more held count xs none = let same : held + count ≡ held = omega arith in ap (λ (n : ℕ). take n xs) same

-- no bytes
pub one_start : (records : Records) → IsInOne records Start []
one_start Lines = λ k d less. absurd (omega (arith, less))
one_start (Csv delimiter) = tt

pub place_start : (records : Records) → Start ≡ place_of records Start []
place_start Lines = refl
place_start (Csv delimiter) = refl
