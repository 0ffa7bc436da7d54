-- The records of inputs that are joined with keys.
use Rattle.std.proofs.Common.{◌≡◌, ⊎_elim, ℕ, Bool, true, false, List, [], ◌∷◌, ◌++◌, Option, None, Some, IfSome, append_assoc, append-nil, refl, sym, ◌∙◌, ap, subst, arith}
use Rattle.std.specs.Io.KnownBytes.{Appends}
use Rattle.std.specs.List.{flat_map}
use Rattle.std.specs.Prelude.{if◌then◌else◌}
use Rattle.std.specs.declared.io.Error.{Error}
use Rattle.sketch_bloom.specs.State.{FilterState}
use Rattle.sketch_frequencies.proofs.KeyedBatches.{all_zip_push}
use Rattle.sketches.specs.Failures.{FailsWriting, FailsWrittenLines}
use Rattle.sketches.specs.Inputs.{FailsAmong, FailsBegun, FailsInputs, TakesBegun, TakesEach, TakesFirst, TakesInputs}
use Rattle.sketches.proofs.Begun.{Unchanged, unchanged_failed, unchanged_taken}
use Rattle.sketches.specs.Outputs.{WritesFront}
use Rattle.sketches.specs.Reading.{AreFirstRecords}
use Rattle.sketches.specs.Joined.{FindsKeys, WritesJoined, WritesSomeJoined, joined_lines, keys_of}
use Rattle.sketches.specs.JoinedLaws.{joined_both}
use Rattle.sketches.specs.RecordParts.{raws_by}
use Rattle.sketch_text.specs.Records.{splits_by}
use Rattle.sketches.specs.Unseen.{item_of, with_items, written_of}
use Rattle.sketches.specs.Appending.{appends_both, front_after, front_all, front_more, front_same}
use Rattle.sketches.specs.EndedText.{Prints, form_after_all, prints_none, prints_both, text_both, text_of}
use Rattle.sketches.specs.declared.failure.Failure.{Failure}
use Rattle.sketches.specs.declared.filter.joined.JoinedLines.{JoinedLines}
use Rattle.sketches.specs.declared.print.ended_text.RecordForm.{RecordForm}
use Rattle.sketch_text.specs.declared.record_part.RecordPart.{RecordPart}
use Rattle.sketches.proofs.Written.{inserted_is_seen, lines_failed, raws_more, seen_at, writing_failed}

by_wanted : (wanted : Bool) (raw : List ℕ) → written_of wanted true raw ≡ (if wanted then raw ∷ [] else [])
by_wanted true raw = refl
by_wanted false raw = refl

-- a record with a key is found
pub finds_keys : (wanted : Bool) (part : RecordPart) (filter : FilterState) (keys : List (List ℕ)) → FindsKeys wanted part (with_items filter keys) keys
finds_keys wanted part filter keys raw key known here =
    ap (λ (seen : Bool). written_of wanted seen raw)
    (seen_at (with_items filter keys) (item_of part raw) here.0 key here.1 here.2 (inserted_is_seen filter keys known.0 key known.1 known.2))
    ∙ by_wanted wanted raw

-- ---- the records

module _ {W : Type 0} (contents : W → Option (List ℕ)) where
  -- what the sink does with bytes of records
  abbrev pub Joins : JoinedLines × W → List ℕ → JoinedLines × W → Type 0
  Joins old bytes new =
      Prints (contents old.1) (contents new.1) old.0.written.form new.0.written.form (joined_lines old.0.wanted old.0.part old.0.filter (raws_by old.0.part bytes))
      × (new.0.filter ≡ old.0.filter) × (new.0.part ≡ old.0.part) × (new.0.wanted ≡ old.0.wanted)

  each_joined : (old new : JoinedLines × W) (read : List (List ℕ)) → TakesEach Joins old read new
      → Prints (contents old.1) (contents new.1) old.0.written.form new.0.written.form (joined_lines old.0.wanted old.0.part old.0.filter (flat_map (raws_by old.0.part) read))
  each_joined old new [] same = subst (λ (s : JoinedLines × W). Prints (contents old.1) (contents s.1) old.0.written.form s.0.written.form []) (sym same) (prints_none (contents old.1) old.0.written.form)
  each_joined old new (bytes ∷ read) (mid, (text, same, same_part, same_wanted), rest) =
      let later = each_joined mid new read rest in
      let w = old.0.wanted in
      let p = old.0.part in
      let more : joined_lines mid.0.wanted mid.0.part mid.0.filter (flat_map (raws_by mid.0.part) read) ≡ joined_lines w p old.0.filter (flat_map (raws_by p) read) =
      ap (λ (q : Bool). joined_lines q mid.0.part mid.0.filter (flat_map (raws_by mid.0.part) read)) same_wanted
      ∙ (ap (λ (q : RecordPart). joined_lines w q mid.0.filter (flat_map (raws_by q) read)) same_part ∙ ap (λ (s : FilterState). joined_lines w p s (flat_map (raws_by p) read)) same) in
      subst (Prints (contents old.1) (contents new.1) old.0.written.form new.0.written.form)
      (ap (λ l. joined_lines w p old.0.filter (raws_by p bytes) ++ l) more ∙ sym (joined_both w p old.0.filter (raws_by p bytes) (flat_map (raws_by p) read)))
      (prints_both (contents old.1) (contents mid.1) (contents new.1) old.0.written.form mid.0.written.form new.0.written.form _ _ text later)

  each_kept : (old new : JoinedLines × W) (read : List (List ℕ)) → TakesEach Joins old read new → (new.0.filter ≡ old.0.filter) × (new.0.part ≡ old.0.part) × (new.0.wanted ≡ old.0.wanted)
  each_kept old new [] same = (ap (λ (s : JoinedLines × W). s.0.filter) same, ap (λ (s : JoinedLines × W). s.0.part) same, ap (λ (s : JoinedLines × W). s.0.wanted) same)
  each_kept old new (bytes ∷ read) (mid, (text, same, same_part, same_wanted), rest) =
      let (filter, part, wanted) = each_kept mid new read rest in
      (filter ∙ same, part ∙ same_part, wanted ∙ same_wanted)

  -- all records were joined with all keys
  pub joined : (header : List ℕ) (held : Option (List ℕ)) (empty : FilterState) (keys_part : RecordPart) (keys : Option (List ℕ)) (was : Option (List (List ℕ))) (fails : List Bool) (complete : Bool) (old new : JoinedLines × W)
      → IfSome keys (λ bytes. old.0.filter ≡ with_items empty (keys_of keys_part bytes)) → Appends held (contents old.1) header → TakesInputs (splits_by old.0.part) (TakesBegun Unchanged Joins) was fails complete old new
      → IfSome keys (λ bytes. IfSome was (λ inputs. WritesJoined old.0.written.form old.0.wanted old.0.part header empty new.0.filter (keys_of keys_part bytes) inputs fails held (contents new.1)))
  joined header held empty keys_part None was fails complete old new inserted begins taken = tt
  joined header held empty keys_part (Some bytes) None fails complete old new inserted begins taken = tt
  joined header held empty keys_part (Some bytes) (Some inputs) fails complete old new inserted begins taken = let (is, (read, are, each)) = unchanged_taken Joins (splits_by old.0.part) (Some inputs) fails complete old new taken in record {
    read = read;
    are = are;
    written =
        appends_both held (contents old.1) (contents new.1) header _ begins
        (subst (λ (s : FilterState). Appends (contents old.1) (contents new.1) (text_of old.0.written.form (joined_lines old.0.wanted old.0.part s (flat_map (raws_by old.0.part) read)))) inserted
        (each_joined old new read each).0);
    finds = finds_keys old.0.wanted old.0.part empty (keys_of keys_part bytes);
    returned = (each_kept old new read each).0 ∙ inserted;
  }

  -- ---- a failure

  abbrev pub FailsJoining : (write_error : W → Option Error) → JoinedLines × W → List ℕ → JoinedLines × W → Failure → Type 0
  FailsJoining write_error old bytes new failure =
      FailsWriting (write_error new.1) failure
      × WritesFront (contents old.1) (contents new.1) (text_of old.0.written.form (joined_lines old.0.wanted old.0.part old.0.filter (raws_by old.0.part bytes)))

  -- the front of the joined records of what was read of the first inputs
  abbrev pub SomeJoined : (header : List ℕ) (held : Option (List ℕ)) (old new : JoinedLines × W) (filter : FilterState) (keys : List (List ℕ)) (inputs : List (List ℕ)) → Type 0
  SomeJoined header held old new filter keys inputs = WritesSomeJoined old.0.written.form old.0.wanted old.0.part header filter keys inputs held (contents new.1)

  stopped : (header : List ℕ) (held : Option (List ℕ)) (empty : FilterState) (keys : List (List ℕ)) (old new : JoinedLines × W) (inputs : List (List ℕ)) → old.0.filter ≡ with_items empty keys → Appends held (contents old.1) header
      → TakesFirst (splits_by old.0.part) Joins inputs old new → SomeJoined header held old new empty keys inputs
  stopped header held empty keys old new inputs inserted begins t = record {
    first = t.first;
    later = t.later;
    parts = t.parts;
    read = t.read;
    fronts = t.fronts;
    written =
        front_all held (contents new.1) _
        (appends_both held (contents old.1) (contents new.1) header _ begins
        (subst (λ (s : FilterState). Appends (contents old.1) (contents new.1) (text_of old.0.written.form (joined_lines old.0.wanted old.0.part s (flat_map (raws_by old.0.part) t.read)))) inserted
        (each_joined old new t.read t.taken).0));
  }

  failed_among : (write_error : W → Option Error) (header : List ℕ) (held : Option (List ℕ)) (empty : FilterState) (keys : List (List ℕ)) (old new : JoinedLines × W) (inputs : List (List ℕ)) (e : Failure) → old.0.filter ≡ with_items empty keys → Appends held (contents old.1) header
      → FailsAmong (splits_by old.0.part) Joins (FailsJoining write_error) inputs old new e → SomeJoined header held old new empty keys inputs
  failed_among write_error header held empty keys old new inputs e inserted begins f =
      let p = old.0.part in
      let w = old.0.wanted in
      let (text, form) = each_joined old f.mid f.read f.taken in
      let (same, same_part, same_wanted) = each_kept old f.mid f.read f.taken in
      let before : List (List ℕ) = joined_lines w p old.0.filter (flat_map (raws_by p) f.read) in
      let here : List (List ℕ) = joined_lines w p old.0.filter (raws_by p f.input) in
      let more : joined_lines f.mid.0.wanted f.mid.0.part f.mid.0.filter (raws_by f.mid.0.part f.input) ≡ here =
      ap (λ (q : Bool). joined_lines q f.mid.0.part f.mid.0.filter (raws_by f.mid.0.part f.input)) same_wanted
      ∙ (ap (λ (q : RecordPart). joined_lines w q f.mid.0.filter (raws_by q f.input)) same_part ∙ ap (λ (s : FilterState). joined_lines w p s (raws_by p f.input)) same) in
      let later : text_of f.mid.0.written.form (joined_lines f.mid.0.wanted f.mid.0.part f.mid.0.filter (raws_by f.mid.0.part f.input)) ≡ text_of (form_after_all old.0.written.form before) here =
      ap (λ (u : RecordForm). text_of u (joined_lines f.mid.0.wanted f.mid.0.part f.mid.0.filter (raws_by f.mid.0.part f.input))) form ∙ ap (text_of (form_after_all old.0.written.form before)) more in
      let raws : flat_map (raws_by p) (f.read ++ f.input ∷ []) ≡ flat_map (raws_by p) f.read ++ raws_by p f.input = raws_more p f.read f.input in
      let all : joined_lines w p old.0.filter (flat_map (raws_by p) (f.read ++ f.input ∷ [])) ≡ before ++ here = ap (joined_lines w p old.0.filter) raws ∙ joined_both w p old.0.filter (flat_map (raws_by p) f.read) (raws_by p f.input) in
      let front : WritesFront (contents old.1) (contents new.1) (text_of old.0.written.form (joined_lines w p old.0.filter (flat_map (raws_by p) (f.read ++ f.input ∷ [])))) =
      front_same (contents old.1) (contents new.1) _ _ (sym (ap (text_of old.0.written.form) all ∙ text_both old.0.written.form before here))
      (front_after (contents old.1) (contents f.mid.1) (contents new.1) _ _ text (front_same (contents f.mid.1) (contents new.1) _ _ later f.reason.1)) in
      record {
        first = f.earlier ++ f.input ∷ [];
        later = f.later;
        parts = f.parts ∙ sym (append_assoc f.earlier (f.input ∷ []) f.later);
        read = f.read ++ f.input ∷ [];
        fronts = all_zip_push (AreFirstRecords (splits_by p)) f.earlier f.read f.input f.input f.fronts ([], sym (append-nil f.input), λ some. absurd (omega arith));
        written =
            front_after held (contents old.1) (contents new.1) header _ begins
            (subst (λ (s : FilterState). WritesFront (contents old.1) (contents new.1) (text_of old.0.written.form (joined_lines w p s (flat_map (raws_by p) (f.read ++ f.input ∷ []))))) inserted
            front);
      }

  pub some_joined : (write_error : W → Option Error) (limit : ℕ) (header : List ℕ) (held : Option (List ℕ)) (empty : FilterState) (keys_part : RecordPart) (keys : Option (List ℕ)) (was : Option (List (List ℕ))) (old new : JoinedLines × W) (e : Failure)
      → IfSome keys (λ bytes. old.0.filter ≡ with_items empty (keys_of keys_part bytes)) → Appends held (contents old.1) header → FailsInputs (splits_by old.0.part) (TakesBegun Unchanged Joins) (FailsJoining write_error) (FailsBegun Unchanged (FailsJoining write_error)) limit was old new e
      → IfSome keys (λ bytes. IfSome was (SomeJoined header held old new empty (keys_of keys_part bytes)))
  some_joined write_error limit header held empty keys_part None was old new e inserted begins failed = tt
  some_joined write_error limit header held empty keys_part (Some bytes) None old new e inserted begins failed = tt
  some_joined write_error limit header held empty keys_part (Some bytes) (Some inputs) old new e inserted begins failed = ⊎_elim
      (λ stops. stopped header held empty (keys_of keys_part bytes) old new inputs inserted begins stops.1)
      (λ taking. failed_among write_error header held empty (keys_of keys_part bytes) old new inputs e inserted begins taking.known)
      (unchanged_failed Joins (FailsJoining write_error) (splits_by old.0.part) limit (Some inputs) old new e failed)

  pub joined_failed : (write_error : W → Option Error) (limit : ℕ) (was : Option (List (List ℕ))) (old new : JoinedLines × W) (e : Failure) → FailsInputs (splits_by old.0.part) (TakesBegun Unchanged Joins) (FailsJoining write_error) (FailsBegun Unchanged (FailsJoining write_error)) limit was old new e → FailsWrittenLines old.0.part limit was (write_error new.1) e
  joined_failed write_error limit was old new e failed = ⊎_elim
      (λ stops. lines_failed old.0.part limit was (write_error new.1) e stops.0)
      (λ taking. writing_failed old.0.part limit was (write_error new.1) e taking.some.2.0)
      failed

-- the header alone, or nothing
pub header_joined : (form : RecordForm) (wanted : Bool) (part : RecordPart) (header : List ℕ) (filter : FilterState) (keys_part : RecordPart) (keys : Option (List ℕ)) (was : Option (List (List ℕ))) (held holds : Option (List ℕ)) → WritesFront held holds header
    → IfSome keys (λ bytes. IfSome was (λ inputs. WritesSomeJoined form wanted part header filter (keys_of keys_part bytes) inputs held holds))
header_joined form wanted part header filter keys_part None was held holds front = tt
header_joined form wanted part header filter keys_part (Some bytes) None held holds front = tt
header_joined form wanted part header filter keys_part (Some bytes) (Some inputs) held holds front =
    record { first = []; later = inputs; parts = refl; read = []; fronts = tt; written = front_more held holds header [] front }
