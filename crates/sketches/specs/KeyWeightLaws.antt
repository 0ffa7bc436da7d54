-- The laws of items with weights that are added one after another, and of estimates that are written.
use Rattle.std.proofs.Common.{◌≡◌, ℕ, ◌+◌, ◌-◌, ◌^◌, List, [], ◌∷◌, ◌++◌, map, min, Option, Some, ℤ, append_assoc, append-nil, refl, sym, ◌∙◌, ap, subst, arith}
use Rattle.std.proofs.lemmas.List.{map-append}
use Rattle.std.proofs.lemmas.List.Concat.{flat_map-append}
use Rattle.std.proofs.lemmas.List.Elements.{All-append, All-nil}
use Rattle.std.specs.Io.KnownBytes.{Appends}
use Rattle.std.specs.List.{flat_map}
use Rattle.std.specs.Prelude.{pos}
use Rattle.sketch_countmin.specs.History.{CountHistory, each_updated}
use Rattle.sketch_countmin.specs.History.CountHistory.{Update}
use Rattle.sketch_countmin.specs.Stands.{StandsFor}
use Rattle.sketch_countmin.specs.State.{CountState, IsMinCell}
use Rattle.sketches.specs.AddingLaws.{no_records, records_both}
use Rattle.sketches.specs.KeyWeights.{CountsLines, CountsWeighed, Row, WritesEstimates, WritesSomeEstimates, counted, parts_in, row_line, unweighed_line, unweighed_lines, weighed_line, weighed_lines}
use Rattle.sketches.specs.LineNumberLaws.{first_here, first_later, first_sooner, lines_append}
use Rattle.sketches.specs.LineNumbers.{IsFirstUnweighed, IsUnweighedAt, lines_of}
use Rattle.sketches.specs.Outputs.{WritesFront}
use Rattle.sketches.specs.Reading.{AreWholeRecords}
use Rattle.sketch_text.specs.Records.{part_in, records_by, splits_by}
use Rattle.sketches.specs.Unseen.{hashed}
use Rattle.sketches.specs.Appending.{appends_none, appends_both, front_after, front_all, front_none}
use Rattle.sketches.specs.Utf8Lines.{GrowsBy}
use Rattle.sketches.specs.WeighFailures.{FailsCounting, FailsLines, FailsRecord}
use Rattle.sketches.specs.Weighed.{Weighed, total_of}
use Rattle.sketches.specs.WeighingLaws.{total_both}
use Rattle.sketches.specs.declared.failure.Failure.{Failure}
use Rattle.sketches.specs.declared.failure.Failure.TheVariants.{Memory, LineTooLong, TooManyItems, BadSize, BadWeight, Write}
use Rattle.sketches.specs.declared.item.weighing.WeighedRecord.{WeighedRecord}
use Rattle.sketches.specs.declared.print.layout.Style.{Style}
use Rattle.sketch_text.specs.declared.record_part.RecordPart.{RecordPart}

updated_both : (h : CountHistory) (xs ys : List (List ℕ × ℤ)) → each_updated h (xs ++ ys) ≡ each_updated (each_updated h xs) ys
updated_both h [] ys = refl
updated_both h (x ∷ xs) ys = updated_both (Update h x.0 x.1) xs ys

pub weighed_none : (a : CountState) → CountsWeighed a [] a
weighed_none a = record { total = let none : total_of [] ≡ 0 = refl in omega (arith, none); stands = λ h s. s }

pub weighed_both : (a b c : CountState) (xs ys : Weighed) → CountsWeighed a xs b → CountsWeighed b ys c → CountsWeighed a (xs ++ ys) c
weighed_both a b c xs ys s t = record {
  total = omega (arith, s.total, t.total, total_both xs ys);
  stands = λ h k.
      subst (λ (g : CountHistory). StandsFor c g) (sym (ap (each_updated h) (map-append counted xs ys) ∙ updated_both h (map counted xs) (map counted ys)))
      (t.stands (each_updated h (map counted xs)) (s.stands h k));
}

-- a failure may come if more items follow
fails_more : (a : ℕ) (xs ys : Weighed) (bad worse : ℕ → Type 0) → ((line : ℕ) → bad line → worse line) → (e : Failure) → FailsCounting a xs bad e → FailsCounting a (xs ++ ys) worse e
fails_more a xs ys bad worse more Memory f = tt
fails_more a xs ys bad worse more LineTooLong f = f
fails_more a xs ys bad worse more TooManyItems f = omega (arith, f, total_both xs ys)
fails_more a xs ys bad worse more BadSize f = f
fails_more a xs ys bad worse more (BadWeight found) f = more found.line f
fails_more a xs ys bad worse more (Write error) f = f

-- a failure may come if more items are added before
fails_after : (a b : ℕ) (xs ys : Weighed) (bad worse : ℕ → Type 0) → ((line : ℕ) → bad line → worse line) → (e : Failure) → b ≡ a + total_of xs → FailsCounting b ys bad e → FailsCounting a (xs ++ ys) worse e
fails_after a b xs ys bad worse more Memory s f = tt
fails_after a b xs ys bad worse more LineTooLong s f = f
fails_after a b xs ys bad worse more TooManyItems s f = omega (arith, f, s, total_both xs ys)
fails_after a b xs ys bad worse more BadSize s f = f
fails_after a b xs ys bad worse more (BadWeight found) s f = more found.line f
fails_after a b xs ys bad worse more (Write error) s f = f

-- ---- the items of records

pub records_none : (chosen : RecordPart) → records_by chosen [] ≡ []
records_none chosen = no_records (splits_by chosen)

module _ (p : WeighedRecord) where
  pub weighed_append : (xs ys : List (List ℕ)) → weighed_lines p (xs ++ ys) ≡ weighed_lines p xs ++ weighed_lines p ys
  weighed_append xs ys = flat_map-append (weighed_line p) xs ys

  pub unweighed_append : (xs ys : List (List ℕ)) → unweighed_lines p (xs ++ ys) ≡ unweighed_lines p xs ++ unweighed_lines p ys
  unweighed_append xs ys = flat_map-append (unweighed_line p) xs ys

  pub no_lines : (a : CountState) → CountsLines p a [] a
  no_lines a = (weighed_none a, refl)

  pub one_line : (a b : CountState) (line : List ℕ) → CountsWeighed a (weighed_line p line) b × (unweighed_line p line ≡ []) → CountsLines p a (line ∷ []) b
  one_line a b line (adds, each) = (subst (λ l. CountsWeighed a l b) (sym (append-nil (weighed_line p line))) adds, append-nil (unweighed_line p line) ∙ each)

  pub all_lines : (a b c : CountState) (xs ys : List (List ℕ)) → CountsLines p a xs b → CountsLines p b ys c → CountsLines p a (xs ++ ys) c
  all_lines a b c xs ys (adds, each) (adds', each') = (
    subst (λ l. CountsWeighed a l c) (sym (weighed_append xs ys)) (weighed_both a b c (weighed_lines p xs) (weighed_lines p ys) adds adds'),
    unweighed_append xs ys ∙ (ap (λ l. l ++ unweighed_lines p ys) each ∙ each'),
  )

  -- the first record without a weight
  abbrev IsFirst : (count : ℕ) → List (List ℕ) → (line : ℕ) → Type 0
  IsFirst count rows line = IsFirstUnweighed (lines_of (splits_by p.item)) (unweighed_line p) count rows line

  -- a failure at the first of records
  pub one_fails : (a n number : ℕ) (row : List ℕ) (later : List (List ℕ)) (e : Failure) → number ≡ min (n + 1) (2 ^ 64 - 1) → FailsRecord p a number row e → FailsLines p a n (row ∷ later) e
  one_fails a n number row later e is f =
      fails_more a (weighed_line p row) (weighed_lines p later) (IsUnweighedAt (unweighed_line p) row number) (IsFirst n (row ∷ later))
      (λ line. first_here (lines_of (splits_by p.item)) (unweighed_line p) refl n number line row later is) e f

  pub lines_sooner : (a n : ℕ) (xs ys : List (List ℕ)) (e : Failure) → FailsLines p a n xs e → FailsLines p a n (xs ++ ys) e
  lines_sooner a n xs ys e f = rw (weighed_append xs ys)
      (fails_more a (weighed_lines p xs) (weighed_lines p ys) (IsFirst n xs) (IsFirst n (xs ++ ys)) (λ line. first_sooner (lines_of (splits_by p.item)) (unweighed_line p) n line xs ys) e f)

  pub lines_later : (a b n m : ℕ) (xs ys : List (List ℕ)) (e : Failure) → b ≡ a + total_of (weighed_lines p xs) → unweighed_lines p xs ≡ [] → GrowsBy n (lines_of (splits_by p.item) xs) m → FailsLines p b m ys e → FailsLines p a n (xs ++ ys) e
  lines_later a b n m xs ys e adds weighed grows f = rw (weighed_append xs ys)
      (fails_after a b (weighed_lines p xs) (weighed_lines p ys) (IsFirst m ys) (IsFirst n (xs ++ ys))
      (λ line. first_later (lines_of (splits_by p.item)) (unweighed_line p) (lines_append (splits_by p.item)) n m line xs ys grows weighed) e adds f)

-- ---- the records of bytes

-- what a sink does with records
abbrev Weighs : (p : WeighedRecord) (a b : CountState) → List ℕ → WeighedRecord → Type 0
Weighs p a b bytes q = CountsLines p a (records_by p.item bytes) b × (q ≡ p)

pub counts_none : (p : WeighedRecord) (a : CountState) → Weighs p a a [] p
counts_none p a = rw (records_none p.item) (no_lines p a, refl)

module _ (p : WeighedRecord) (xs ys : List ℕ) (whole : AreWholeRecords (splits_by p.item) xs) where
  both_records : records_by p.item (xs ++ ys) ≡ records_by p.item xs ++ records_by p.item ys
  both_records = records_both (splits_by p.item) xs ys whole

  pub counts_both : (a b c : CountState) (q r : WeighedRecord) → Weighs p a b xs q → Weighs q b c ys r → Weighs p a c (xs ++ ys) r
  counts_both a b c q r (first, same) (second, same') = (
    subst (λ l. CountsLines p a l c) (sym both_records) (all_lines p a b c (records_by p.item xs) (records_by p.item ys) first (subst (λ (s : WeighedRecord). CountsLines s b (records_by s.item ys) c) same second)),
    same' ∙ same,
  )

  pub counts_sooner : (a n : ℕ) (e : Failure) → FailsLines p a n (records_by p.item xs) e → FailsLines p a n (records_by p.item (xs ++ ys)) e
  counts_sooner a n e f = subst (λ l. FailsLines p a n l e) (sym both_records) (lines_sooner p a n (records_by p.item xs) (records_by p.item ys) e f)

  pub counts_later : (a b n m : ℕ) (q : WeighedRecord) (e : Failure) → b ≡ a + total_of (weighed_lines p (records_by p.item xs)) → unweighed_lines p (records_by p.item xs) ≡ [] → q ≡ p → GrowsBy n (lines_of (splits_by p.item) (records_by p.item xs)) m → FailsLines q b m (records_by q.item ys) e → FailsLines p a n (records_by p.item (xs ++ ys)) e
  counts_later a b n m q e first weighed same grows f =
      subst (λ l. FailsLines p a n l e) (sym both_records)
      (lines_later p a b n m (records_by p.item xs) (records_by p.item ys) e first weighed grows (subst (λ (s : WeighedRecord). FailsLines s b m (records_by s.item ys) e) same f))

-- the parts of whole records and of the bytes after them
pub parts_append : (part : RecordPart) (read more : List ℕ) → AreWholeRecords (splits_by part) read → parts_in part (read ++ more) ≡ parts_in part read ++ parts_in part more
parts_append part read more whole = ap (flat_map (part_in part)) (records_both (splits_by part) read more whole) ∙ flat_map-append (part_in part) (records_by part read) (records_by part more)

-- ---- estimates that are written

pub estimates_none : (style : Style) (s : CountState) (held : Option (List ℕ)) → WritesEstimates style s [] held held
estimates_none style s held = record { rows = []; keys_are = refl; estimates = All-nil (λ (row : Row). IsMinCell s (hashed row.1) (pos row.0)); wrote = appends_none held }

pub estimates_both : (style : Style) (s : CountState) (xs ys : List (List ℕ)) (a b c : Option (List ℕ)) → WritesEstimates style s xs a b → WritesEstimates style s ys b c → WritesEstimates style s (xs ++ ys) a c
estimates_both style s xs ys a b c first second = record {
  rows = first.rows ++ second.rows;
  keys_are =
      map-append (λ (row : Row). row.1) first.rows second.rows
      ∙ (ap (λ l. l ++ map (λ (row : Row). row.1) second.rows) first.keys_are ∙ ap (λ l. xs ++ l) second.keys_are);
  estimates = All-append (λ (row : Row). IsMinCell s (hashed row.1) (pos row.0)) first.rows second.rows first.estimates second.estimates;
  wrote = subst (Appends a c) (sym (flat_map-append (row_line style) first.rows second.rows)) (appends_both a b c _ _ first.wrote second.wrote);
}

-- what a sink that writes estimates does with records
abbrev TakesKeys : (style style' : Style) (s s' : CountState) (part part' : RecordPart) (held holds : Option (List ℕ)) → List ℕ → Type 0
TakesKeys style style' s s' part part' held holds bytes =
    WritesEstimates style s (parts_in part bytes) held holds × (s' ≡ s) × (part' ≡ part) × (style' ≡ style)

pub keys_none : (style : Style) (s : CountState) (part : RecordPart) (held : Option (List ℕ)) → TakesKeys style style s s part part held held []
keys_none style s part held = rw (records_none part) (estimates_none style s held, refl, refl, refl)

pub keys_both : (xs ys : List ℕ) (d e f : Style) (a b c : CountState) (p q r : RecordPart) → AreWholeRecords (splits_by p) xs → (held mid holds : Option (List ℕ)) → TakesKeys d e a b p q held mid xs → TakesKeys e f b c q r mid holds ys → TakesKeys d f a c p r held holds (xs ++ ys)
keys_both xs ys d e f a b c p q r whole held mid holds (first, same, same_part, same_style) (second, same', same_part', same_style') = (
  subst (λ l. WritesEstimates d a l held holds) (sym (parts_append p xs ys whole))
      (estimates_both d a (parts_in p xs) (parts_in p ys) held mid holds first
      (subst (λ (t : RecordPart). WritesEstimates d a (parts_in t ys) mid holds) same_part
      (subst (λ (t : CountState). WritesEstimates d t (parts_in q ys) mid holds) same
      (subst (λ (t : Style). WritesEstimates t b (parts_in q ys) mid holds) same_style second)))),
  same' ∙ same,
  same_part' ∙ same_part,
  same_style' ∙ same_style,
)

-- ---- the front of estimates

-- nothing was written
pub some_none : (style : Style) (s : CountState) (keys : List (List ℕ)) (held : Option (List ℕ)) → WritesSomeEstimates style s keys held held
some_none style s keys held = record {
  first = [];
  later = keys;
  parts = refl;
  rows = [];
  keys_are = refl;
  estimates = All-nil (λ (row : Row). IsMinCell s (hashed row.1) (pos row.0));
  wrote = front_none held [];
}

-- the front of the lines of these keys was written
pub some_front : (style : Style) (s : CountState) (keys : List (List ℕ)) (a b : Option (List ℕ)) (text : List ℕ) → WritesEstimates style s keys (Some []) (Some text) → WritesFront a b text → WritesSomeEstimates style s keys a b
some_front style s keys a b text all front = record {
  first = keys;
  later = [];
  parts = sym (append-nil keys);
  rows = all.rows;
  keys_are = all.keys_are;
  estimates = all.estimates;
  wrote = subst (WritesFront a b) all.wrote front;
}

-- all of the lines of these keys were written
pub some_whole : (style : Style) (s : CountState) (keys : List (List ℕ)) (a b : Option (List ℕ)) → WritesEstimates style s keys a b → WritesSomeEstimates style s keys a b
some_whole style s keys a b all = record {
  first = keys;
  later = [];
  parts = sym (append-nil keys);
  rows = all.rows;
  keys_are = all.keys_are;
  estimates = all.estimates;
  wrote = front_all a b _ all.wrote;
}

some_more : (style : Style) (s : CountState) (keys more : List (List ℕ)) (a b : Option (List ℕ)) → WritesSomeEstimates style s keys a b → WritesSomeEstimates style s (keys ++ more) a b
some_more style s keys more a b so = record {
  first = so.first;
  later = so.later ++ more;
  parts = ap (λ l. l ++ more) so.parts ∙ append_assoc so.first so.later more;
  rows = so.rows;
  keys_are = so.keys_are;
  estimates = so.estimates;
  wrote = so.wrote;
}

pub some_after : (style : Style) (s : CountState) (xs ys : List (List ℕ)) (a b c : Option (List ℕ)) → WritesEstimates style s xs a b → WritesSomeEstimates style s ys b c → WritesSomeEstimates style s (xs ++ ys) a c
some_after style s xs ys a b c all so = record {
  first = xs ++ so.first;
  later = so.later;
  parts = ap (λ l. xs ++ l) so.parts ∙ sym (append_assoc xs so.first so.later);
  rows = all.rows ++ so.rows;
  keys_are =
      map-append (λ (row : Row). row.1) all.rows so.rows
      ∙ (ap (λ l. l ++ map (λ (row : Row). row.1) so.rows) all.keys_are ∙ ap (λ l. xs ++ l) so.keys_are);
  estimates = All-append (λ (row : Row). IsMinCell s (hashed row.1) (pos row.0)) all.rows so.rows all.estimates so.estimates;
  wrote = subst (WritesFront a c) (sym (flat_map-append (row_line style) all.rows so.rows)) (front_after a b c _ _ all.wrote so.wrote);
}

pub some_sooner : (xs ys : List ℕ) (d : Style) (a : CountState) (p : RecordPart) → AreWholeRecords (splits_by p) xs → (held holds : Option (List ℕ)) → WritesSomeEstimates d a (parts_in p xs) held holds → WritesSomeEstimates d a (parts_in p (xs ++ ys)) held holds
some_sooner xs ys d a p whole held holds so =
    subst (λ l. WritesSomeEstimates d a l held holds) (sym (parts_append p xs ys whole)) (some_more d a (parts_in p xs) (parts_in p ys) held holds so)

pub some_later : (xs ys : List ℕ) (d e : Style) (a b : CountState) (p q : RecordPart) → AreWholeRecords (splits_by p) xs → (held mid holds : Option (List ℕ)) → TakesKeys d e a b p q held mid xs → WritesSomeEstimates e b (parts_in q ys) mid holds → WritesSomeEstimates d a (parts_in p (xs ++ ys)) held holds
some_later xs ys d e a b p q whole held mid holds (first, same, same_part, same_style) so =
    subst (λ l. WritesSomeEstimates d a l held holds) (sym (parts_append p xs ys whole))
    (some_after d a (parts_in p xs) (parts_in p ys) held mid holds first
    (subst (λ (t : RecordPart). WritesSomeEstimates d a (parts_in t ys) mid holds) same_part
    (subst (λ (t : CountState). WritesSomeEstimates d t (parts_in q ys) mid holds) same
    (subst (λ (t : Style). WritesSomeEstimates t b (parts_in q ys) mid holds) same_style so))))
