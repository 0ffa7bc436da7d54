-- The records of inputs that are written.
use Rattle.std.proofs.Common.{◌≡◌, ◌⊎◌, ⊎_elim, ℕ, zero, suc, ◌<◌, Bool, true, List, [], ◌∷◌, ◌++◌, length, get_or, map, Option, None, Some, IfSome, append_assoc, append-nil, refl, sym, ◌∙◌, ap, subst, arith}
use Rattle.std.proofs.lemmas.Bool.{false≢true}
use Rattle.std.proofs.lemmas.List.Concat.{flat_map-append}
use Rattle.std.proofs.lemmas.List.Folds.{list_any_at}
use Rattle.std.specs.Io.KnownBytes.{Appends}
use Rattle.std.specs.List.{flat_map}
use Rattle.std.specs.declared.io.Error.{Error}
use Rattle.sketch_bloom.specs.State.{FilterState, all_inserted, contains_item, inserted, item_positions}
use Rattle.sketch_bloom.proofs.SetAlgebra.{inserted_is_contained, union_keeps}
use Rattle.sketch_frequencies.proofs.KeyedBatches.{all_zip_push}
use Rattle.sketches.specs.Failures.{FailsWriting, FailsWrittenLines}
use Rattle.sketches.specs.Inputs.{FailsAmong, FailsBegun, FailsInputs, HaveLongRecord, TakesBegun, TakesEach, TakesFirst, TakesInputs}
use Rattle.sketches.proofs.Begun.{Unchanged, unchanged_failed, unchanged_taken}
use Rattle.sketches.specs.Outputs.{WritesFront}
use Rattle.sketches.specs.Reading.{AreFirstRecords}
use Rattle.sketches.specs.RecordParts.{raws_by}
use Rattle.sketch_text.specs.Records.{splits_by}
use Rattle.sketches.specs.Unseen.{AreFirst, WritesSomeUnseen, WritesUnseen, hashed, is_seen, item_of, unseen_lines, with_items, with_lines}
use Rattle.sketches.specs.Appending.{appends_both, front_after, front_all, front_more, front_same}
use Rattle.sketches.specs.EndedText.{Prints, form_after_all, prints_none, prints_both, text_both, text_of}
use Rattle.sketches.specs.UnseenLaws.{unseen_both, with_both}
use Rattle.sketches.specs.declared.print.ended_text.RecordForm.{RecordForm}
use Rattle.sketch_text.specs.declared.record_part.RecordPart.{RecordPart}
use Rattle.sketches.specs.declared.failure.Failure.{Failure}
use Rattle.sketches.specs.declared.failure.Failure.TheVariants.{Memory, LineTooLong, TooManyItems, BadSize, BadWeight, Write}
use Rattle.sketches.specs.declared.filter.unseen.UnseenLines.{UnseenLines}

-- ---- a record whose item is not seen is the first with its item

-- an item that is contained stays contained
kept_one : (filter : FilterState) (item other : List ℕ) → contains_item filter item ≡ true → contains_item (inserted filter other) item ≡ true
kept_one filter item other has = union_keeps filter (record filter { set = item_positions filter other }) item has

kept_all : (filter : FilterState) (item : List ℕ) (others : List (List ℕ)) → contains_item filter item ≡ true → contains_item (all_inserted filter others) item ≡ true
kept_all filter item [] has = has
kept_all filter item (other ∷ others) has = kept_all (inserted filter other) item others (kept_one filter item other has)

-- an item that was inserted is contained
pub inserted_is_seen : (filter : FilterState) (items : List (List ℕ)) (k : ℕ) (item : List ℕ) → k < length items → get_or items k item ≡ item → contains_item (with_items filter items) (hashed item) ≡ true
inserted_is_seen filter [] k item less here = absurd (omega arith)
inserted_is_seen filter (first ∷ items) zero item less here =
    kept_all (inserted filter (hashed first)) (hashed item) (map hashed items)
    (subst (λ (x : List ℕ). contains_item (inserted filter (hashed first)) (hashed x) ≡ true) here (inserted_is_contained filter (hashed first)))
inserted_is_seen filter (first ∷ items) (suc k) item less here = inserted_is_seen (inserted filter (hashed first)) items k item (omega (arith, less)) here

-- a list that has an element that passes the test
pub seen_at : (filter : FilterState) (items : List (List ℕ)) (k : ℕ) (item : List ℕ) → k < length items → get_or items k item ≡ item → contains_item filter (hashed item) ≡ true → is_seen filter items ≡ true
seen_at filter items k item less here has = list_any_at (λ (x : List ℕ). contains_item filter (hashed x)) items k item less (ap (λ (x : List ℕ). contains_item filter (hashed x)) here ∙ has)

are_first : (part : RecordPart) (filter : FilterState) (raws : List (List ℕ)) → AreFirst part filter raws
are_first part filter raws before after raw item parts unseen here earlier =
    absurd (false≢true (sym unseen ∙ seen_at (with_lines part filter before) (item_of part raw) here.0 item here.1 here.2 (inserted_is_seen filter (flat_map (item_of part) before) earlier.0 item earlier.1 earlier.2)))

-- one more input
pub raws_more : (part : RecordPart) (read : List (List ℕ)) (input : List ℕ) → flat_map (raws_by part) (read ++ input ∷ []) ≡ flat_map (raws_by part) read ++ raws_by part input
raws_more part read input = flat_map-append (raws_by part) read (input ∷ []) ∙ ap (λ l. flat_map (raws_by part) read ++ l) (append-nil (raws_by part input))

module _ {W : Type 0} (contents : W → Option (List ℕ)) where
  -- what the sink does with bytes of records
  abbrev pub Chooses : UnseenLines × W → List ℕ → UnseenLines × W → Type 0
  Chooses old bytes new =
      (new.0.filter ≡ with_lines old.0.part old.0.filter (raws_by old.0.part bytes))
      × Prints (contents old.1) (contents new.1) old.0.written.form new.0.written.form (unseen_lines old.0.repeated old.0.part old.0.filter (raws_by old.0.part bytes))
      × (new.0.part ≡ old.0.part) × (new.0.repeated ≡ old.0.repeated)

  -- the unseen records of all lists were written
  each_written : (old new : UnseenLines × W) (read : List (List ℕ)) → TakesEach Chooses old read new
      → Prints (contents old.1) (contents new.1) old.0.written.form new.0.written.form (unseen_lines old.0.repeated old.0.part old.0.filter (flat_map (raws_by old.0.part) read))
  each_written old new [] same = subst (λ (s : UnseenLines × W). Prints (contents old.1) (contents s.1) old.0.written.form s.0.written.form []) (sym same) (prints_none (contents old.1) old.0.written.form)
  each_written old new (bytes ∷ read) (mid, (filter, text, same_part, same_repeated), rest) =
      let later = each_written mid new read rest in
      let r = old.0.repeated in
      let p = old.0.part in
      let more : unseen_lines mid.0.repeated mid.0.part mid.0.filter (flat_map (raws_by mid.0.part) read) ≡ unseen_lines r p (with_lines p old.0.filter (raws_by p bytes)) (flat_map (raws_by p) read) =
      ap (λ (q : Bool). unseen_lines q mid.0.part mid.0.filter (flat_map (raws_by mid.0.part) read)) same_repeated
      ∙ (ap (λ (q : RecordPart). unseen_lines r q mid.0.filter (flat_map (raws_by q) read)) same_part ∙ ap (λ (s : FilterState). unseen_lines r p s (flat_map (raws_by p) read)) filter) in
      subst (Prints (contents old.1) (contents new.1) old.0.written.form new.0.written.form)
      (ap (λ l. unseen_lines r p old.0.filter (raws_by p bytes) ++ l) more ∙ sym (unseen_both r p old.0.filter (raws_by p bytes) (flat_map (raws_by p) read)))
      (prints_both (contents old.1) (contents mid.1) (contents new.1) old.0.written.form mid.0.written.form new.0.written.form _ _ text later)

  -- and their items inserted
  each_inserted : (old new : UnseenLines × W) (read : List (List ℕ)) → TakesEach Chooses old read new → new.0.filter ≡ with_lines old.0.part old.0.filter (flat_map (raws_by old.0.part) read)
  each_inserted old new [] same = ap (λ (s : UnseenLines × W). s.0.filter) same
  each_inserted old new (bytes ∷ read) (mid, (filter, text, same_part, same_repeated), rest) =
      each_inserted mid new read rest
      ∙ (ap (λ (q : RecordPart). with_lines q mid.0.filter (flat_map (raws_by q) read)) same_part
      ∙ (ap (λ (s : FilterState). with_lines old.0.part s (flat_map (raws_by old.0.part) read)) filter ∙ sym (with_both old.0.part old.0.filter (raws_by old.0.part bytes) (flat_map (raws_by old.0.part) read))))

  -- what is chosen stays
  each_kept : (old new : UnseenLines × W) (read : List (List ℕ)) → TakesEach Chooses old read new → (new.0.part ≡ old.0.part) × (new.0.repeated ≡ old.0.repeated)
  each_kept old new [] same = (ap (λ (s : UnseenLines × W). s.0.part) same, ap (λ (s : UnseenLines × W). s.0.repeated) same)
  each_kept old new (bytes ∷ read) (mid, (filter, text, same_part, same_repeated), rest) =
      let (part, repeated) = each_kept mid new read rest in
      (part ∙ same_part, repeated ∙ same_repeated)

  pub written : (header : List ℕ) (held : Option (List ℕ)) (was : Option (List (List ℕ))) (fails : List Bool) (complete : Bool) (old new : UnseenLines × W)
      → Appends held (contents old.1) header → TakesInputs (splits_by old.0.part) (TakesBegun Unchanged Chooses) was fails complete old new
      → IfSome was (λ inputs. WritesUnseen old.0.written.form old.0.repeated old.0.part header old.0.filter new.0.filter inputs fails held (contents new.1))
  written header held None fails complete old new begins taken = tt
  written header held (Some inputs) fails complete old new begins taken = let (is, (read, are, each)) = unchanged_taken Chooses (splits_by old.0.part) (Some inputs) fails complete old new taken in record {
    read = read;
    are = are;
    written =
        appends_both held (contents old.1) (contents new.1) header _ begins
        (each_written old new read each).0;
    first = are_first old.0.part old.0.filter (flat_map (raws_by old.0.part) read);
    kept = each_inserted old new read each;
  }

  -- ---- a failure

  -- the front of the unseen records of what was read of the first inputs
  abbrev SomeUnseen : (header : List ℕ) (held : Option (List ℕ)) (old new : UnseenLines × W) (inputs : List (List ℕ)) → Type 0
  SomeUnseen header held old new inputs = WritesSomeUnseen old.0.written.form old.0.repeated old.0.part header old.0.filter inputs held (contents new.1)

  abbrev pub FailsChoosing : (write_error : W → Option Error) → UnseenLines × W → List ℕ → UnseenLines × W → Failure → Type 0
  FailsChoosing write_error old bytes new failure =
      FailsWriting (write_error new.1) failure
      × WritesFront (contents old.1) (contents new.1) (text_of old.0.written.form (unseen_lines old.0.repeated old.0.part old.0.filter (raws_by old.0.part bytes)))

  stopped : (header : List ℕ) (held : Option (List ℕ)) (old new : UnseenLines × W) (inputs : List (List ℕ)) → Appends held (contents old.1) header → TakesFirst (splits_by old.0.part) Chooses inputs old new → SomeUnseen header held old new inputs
  stopped header held old new inputs begins t = record {
    first = t.first;
    later = t.later;
    parts = t.parts;
    read = t.read;
    fronts = t.fronts;
    written =
        front_all held (contents new.1) _
        (appends_both held (contents old.1) (contents new.1) header _ begins
        (each_written old new t.read t.taken).0);
  }

  failed_among : (write_error : W → Option Error) (header : List ℕ) (held : Option (List ℕ)) (old new : UnseenLines × W) (inputs : List (List ℕ)) (e : Failure) → Appends held (contents old.1) header
      → FailsAmong (splits_by old.0.part) Chooses (FailsChoosing write_error) inputs old new e → SomeUnseen header held old new inputs
  failed_among write_error header held old new inputs e begins f =
      let p = old.0.part in
      let r = old.0.repeated in
      let earlier : List (List ℕ) = flat_map (raws_by p) f.read in
      let here : List (List ℕ) = raws_by p f.input in
      let filter : FilterState = with_lines p old.0.filter earlier in
      let (text, form) = each_written old f.mid f.read f.taken in
      let (same_part, same_repeated) = each_kept old f.mid f.read f.taken in
      let before : List (List ℕ) = unseen_lines r p old.0.filter earlier in
      let more : unseen_lines f.mid.0.repeated f.mid.0.part f.mid.0.filter (raws_by f.mid.0.part f.input) ≡ unseen_lines r p filter here =
      ap (λ (q : Bool). unseen_lines q f.mid.0.part f.mid.0.filter (raws_by f.mid.0.part f.input)) same_repeated
      ∙ (ap (λ (q : RecordPart). unseen_lines r q f.mid.0.filter (raws_by q f.input)) same_part ∙ ap (λ (s : FilterState). unseen_lines r p s here) (each_inserted old f.mid f.read f.taken)) in
      let later : text_of f.mid.0.written.form (unseen_lines f.mid.0.repeated f.mid.0.part f.mid.0.filter (raws_by f.mid.0.part f.input)) ≡ text_of (form_after_all old.0.written.form before) (unseen_lines r p filter here) =
      ap (λ (u : RecordForm). text_of u (unseen_lines f.mid.0.repeated f.mid.0.part f.mid.0.filter (raws_by f.mid.0.part f.input))) form ∙ ap (text_of (form_after_all old.0.written.form before)) more in
      let all : unseen_lines r p old.0.filter (flat_map (raws_by p) (f.read ++ f.input ∷ [])) ≡ before ++ unseen_lines r p filter here = ap (unseen_lines r p old.0.filter) (raws_more p f.read f.input) ∙ unseen_both r p old.0.filter earlier here in
      let front : WritesFront (contents old.1) (contents new.1) (text_of old.0.written.form (unseen_lines r p old.0.filter (flat_map (raws_by p) (f.read ++ f.input ∷ [])))) =
      front_same (contents old.1) (contents new.1) _ _ (sym (ap (text_of old.0.written.form) all ∙ text_both old.0.written.form before (unseen_lines r p filter here)))
      (front_after (contents old.1) (contents f.mid.1) (contents new.1) _ _ text (front_same (contents f.mid.1) (contents new.1) _ _ later f.reason.1)) in
      record {
        first = f.earlier ++ f.input ∷ [];
        later = f.later;
        parts = f.parts ∙ sym (append_assoc f.earlier (f.input ∷ []) f.later);
        read = f.read ++ f.input ∷ [];
        fronts = all_zip_push (AreFirstRecords (splits_by p)) f.earlier f.read f.input f.input f.fronts ([], sym (append-nil f.input), λ some. absurd (omega arith));
        written =
            front_after held (contents old.1) (contents new.1) header _ begins
            front;
      }

  pub some_written : (write_error : W → Option Error) (limit : ℕ) (header : List ℕ) (held : Option (List ℕ)) (was : Option (List (List ℕ))) (old new : UnseenLines × W) (e : Failure) → Appends held (contents old.1) header
      → FailsInputs (splits_by old.0.part) (TakesBegun Unchanged Chooses) (FailsChoosing write_error) (FailsBegun Unchanged (FailsChoosing write_error)) limit was old new e → IfSome was (SomeUnseen header held old new)
  some_written write_error limit header held None old new e begins failed = tt
  some_written write_error limit header held (Some inputs) old new e begins failed = ⊎_elim
      (λ stops. stopped header held old new inputs begins stops.1)
      (λ taking. failed_among write_error header held old new inputs e begins taking.known)
      (unchanged_failed Chooses (FailsChoosing write_error) (splits_by old.0.part) limit (Some inputs) old new e failed)

-- the header alone, or nothing
pub header_written : (form : RecordForm) (repeated : Bool) (part : RecordPart) (header : List ℕ) (filter : FilterState) (was : Option (List (List ℕ))) (held holds : Option (List ℕ)) → WritesFront held holds header → IfSome was (λ inputs. WritesSomeUnseen form repeated part header filter inputs held holds)
header_written form repeated part header filter None held holds front = tt
header_written form repeated part header filter (Some inputs) held holds front =
    record { first = []; later = inputs; parts = refl; read = []; fronts = tt; written = front_more held holds header [] front }

-- why a run that writes records failed
pub writing_failed : (part : RecordPart) (limit : ℕ) (was : Option (List (List ℕ))) (write_error : Option Error) (e : Failure) → FailsWriting write_error e → FailsWrittenLines part limit was write_error e
writing_failed part limit was write_error Memory f = tt
writing_failed part limit was write_error LineTooLong f = absurd f
writing_failed part limit was write_error TooManyItems f = absurd f
writing_failed part limit was write_error BadSize f = absurd f
writing_failed part limit was write_error (BadWeight found) f = absurd f
writing_failed part limit was write_error (Write error) f = f

pub lines_failed : (part : RecordPart) (limit : ℕ) (was : Option (List (List ℕ))) (write_error : Option Error) (e : Failure) → (e ≡ Memory) ⊎ ((e ≡ LineTooLong) × IfSome was (HaveLongRecord (splits_by part) limit)) → FailsWrittenLines part limit was write_error e
lines_failed part limit was write_error e stops = ⊎_elim (λ memory. rw memory tt) (λ long. rw long.0 long.1) stops

module _ {W : Type 0} (contents : W → Option (List ℕ)) (write_error : W → Option Error) where
  pub unseen_failed : (limit : ℕ) (was : Option (List (List ℕ))) (old new : UnseenLines × W) (e : Failure) → FailsInputs (splits_by old.0.part) (TakesBegun Unchanged (Chooses contents)) (FailsChoosing contents write_error) (FailsBegun Unchanged (FailsChoosing contents write_error)) limit was old new e → FailsWrittenLines old.0.part limit was (write_error new.1) e
  unseen_failed limit was old new e failed = ⊎_elim
      (λ stops. lines_failed old.0.part limit was (write_error new.1) e stops.0)
      (λ taking. writing_failed old.0.part limit was (write_error new.1) e taking.some.2.0)
      failed
