-- The sums of keys that are read of inputs and written, and why a run ended without.
use Rattle.std.proofs.Common.{◌≡◌, ⊎_elim, ℕ, zero, suc, ◌+◌, ◌-◌, ◌^◌, ◌≤◌, Bool, false, List, [], ◌∷◌, ◌++◌, length, slice_get, Option, None, Some, IfSome, Contains, is_some, append_assoc, append-nil, refl, sym, ◌∙◌, ap, subst, arith}
use Rattle.std.proofs.lemmas.Bool.{false≢true}
use Rattle.std.proofs.lemmas.List.Concat.{flat_map-append}
use Rattle.std.proofs.lemmas.List.Elements.{Contains-append_cases, Contains-push_cases}
use Rattle.std.proofs.lemmas.Map.Made.{length-le_from_is_member}
use Rattle.std.proofs.lemmas.Map.Views.{Contains-from_any, list_any-from_Contains}
use Rattle.std.proofs.lemmas.Option.{get_or_from_slice_get, slice_get_within}
use Rattle.std.specs.Cmp.Lexicographic.{nat_list_eq_equiv}
use Rattle.std.specs.Io.KnownBytes.{Appends}
use Rattle.std.specs.List.{AllZip, flat_map}
use Rattle.std.specs.Option.{unwrap_or}
use Rattle.std.specs.declared.io.Error.{Error}
use Rattle.sketch_text.specs.Records.{records_by, splits_by}
use Rattle.sketch_text.specs.declared.record_part.RecordPart.{RecordPart}
use Rattle.sketches.proofs.TakenKeys.{length_names, same_bytes}
use Rattle.sketches.proofs.KeyWeights.{few_of_each, weighed_among}
use Rattle.sketches.specs.Appending.{appends_both, appends_none, front_after, front_all, front_more, front_same}
use Rattle.sketches.specs.Failures.{FailsWriting}
use Rattle.sketches.specs.Inputs.{FailsAmong, FailsBegun, FailsInputs, FailsTakingInputs, TakesBegun, TakesEach, TakesInputs}
use Rattle.sketches.specs.LineNumbers.{HaveUnweighed, IsFirstUnweighed, lines_of}
use Rattle.sketches.specs.KeySumLaws.{all_sums, no_sums}
use Rattle.sketches.specs.KeySums.{AddsItems, AddsLines, ComesWhileWriting, FailsKeys, FailsSums, FailsTakingKeys, HaveFewKeys, HoldsKeys, HoldsSums, Sends, StaysWithin, Sums, SumsInputs, TakesKeys, WritesSomeSums, WritesSums, names, row_of, rows_at, rows_text, sum_lines}
use Rattle.sketches.specs.KeyWeights.{Row, parts_in, row_line, total_line, unweighed_line, weighed_in, weighed_lines}
use Rattle.sketches.specs.Outputs.{WritesFront}
use Rattle.sketches.specs.Reading.{FailsInput, HasLongRecord, IsReadOf, TakesInput}
use Rattle.sketches.specs.Skipped.{skipped_rows}
use Rattle.sketches.specs.SkippedLaws.{rows_append, skips_none}
use Rattle.sketches.specs.Utf8Lines.{GrowsBy}
use Rattle.sketches.specs.WeighFailures.{FailsLines}
use Rattle.sketches.specs.Weighed.{Weighed, total_of, weight_of}
use Rattle.sketches.specs.WeighingLaws.{total_both}
use Rattle.sketches.specs.declared.weight.exact_weights.ExactFailure.TheVariants.{Weights}
use Rattle.sketches.specs.declared.weight.exact_weights.ExactOptions.{ExactOptions}
use Rattle.sketches.specs.declared.failure.BadWeight.{BadWeight as BadWeightValue}
use Rattle.sketches.specs.declared.failure.Failure.{Failure}
use Rattle.sketches.specs.declared.failure.Failure.TheVariants.{Memory, LineTooLong, TooManyItems, BadSize, BadWeight, Write}
use Rattle.sketches.specs.declared.weight.file_keys.FileKeys.{FileKeys}
use Rattle.sketches.specs.declared.item.weighing.WeighedRecord.{WeighedRecord}
use Rattle.sketches.specs.declared.item.weighing.Weighing.TheVariants.{Record}
use Rattle.sketches.specs.declared.weight.key_sums.KeySums.{KeySums}
use Rattle.sketches.specs.declared.print.layout.Style.{Style}

-- ---- rows that are written

pub no_items : (xs : List ℕ) → length xs ≡ 0 → xs ≡ []
no_items [] e = refl
no_items (x ∷ xs) e = absurd (omega (arith, e))

module _ (style : Style) (sums : Sums) (order : List ℕ) where
  abbrev lines_at : List ℕ → List ℕ
  lines_at indices = flat_map (row_line style) (rows_at sums indices)

  -- the lines of the indices before those that are left were written, but for the last of their bytes
  pub record HasSentRows (left : List ℕ) (held holds : Option (List ℕ)) (written : List ℕ) : Type 0 where
    pub done : List ℕ
    pub parts : order ≡ done ++ left
    pub sent : List ℕ
    pub sends : Appends held holds sent
    pub text : lines_at done ≡ sent ++ written

  pub rows_begun : (held : Option (List ℕ)) (written : List ℕ) → written ≡ [] → HasSentRows order held held written
  rows_begun held written none = record { done = []; parts = refl; sent = []; sends = appends_none held; text = sym none }

  lines_both : (xs ys : List ℕ) → lines_at (xs ++ ys) ≡ lines_at xs ++ lines_at ys
  lines_both xs ys =
      ap (flat_map (row_line style)) (flat_map-append (λ (index : ℕ). row_of (slice_get sums index)) xs ys)
      ∙ flat_map-append (row_line style) (rows_at sums xs) (rows_at sums ys)

  line_is : (i : ℕ) → lines_at (i ∷ []) ≡ flat_map (row_line style) (row_of (slice_get sums i))
  line_is i = ap (flat_map (row_line style)) (append-nil (row_of (slice_get sums i)))

  module _ (left : List ℕ) (held holds : Option (List ℕ)) (written : List ℕ) (so : HasSentRows left held holds written) where
    -- one more row is appended
    with_row : (i : ℕ) (more : List ℕ) → more ≡ written ++ flat_map (row_line style) (row_of (slice_get sums i)) → lines_at (so.done ++ i ∷ []) ≡ so.sent ++ more
    with_row i more is =
        lines_both so.done (i ∷ [])
        ∙ (ap (λ l. lines_at so.done ++ l) (line_is i)
        ∙ (ap (λ l. l ++ flat_map (row_line style) (row_of (slice_get sums i))) so.text
        ∙ (append_assoc so.sent written (flat_map (row_line style) (row_of (slice_get sums i))) ∙ ap (λ l. so.sent ++ l) (sym is))))

    all_with : (i : ℕ) (later : List ℕ) → left ≡ i ∷ later → order ≡ (so.done ++ i ∷ []) ++ later
    all_with i later next = so.parts ∙ (ap (λ l. so.done ++ l) next ∙ sym (append_assoc so.done (i ∷ []) later))

    pub rows_more : (i : ℕ) (later more : List ℕ) (least : ℕ) (now : Option (List ℕ)) (rest : List ℕ) → left ≡ i ∷ later → more ≡ written ++ flat_map (row_line style) (row_of (slice_get sums i)) → Sends least holds more now rest → HasSentRows later held now rest
    rows_more i later more least now rest next is s = record {
      done = so.done ++ i ∷ [];
      parts = all_with i later next;
      sent = so.sent ++ s.sent;
      sends = appends_both held holds now so.sent s.sent so.sends s.wrote;
      text = with_row i more is ∙ (ap (λ l. so.sent ++ l) s.parts ∙ sym (append_assoc so.sent s.sent rest));
    }

    whole : left ≡ [] → lines_at order ≡ so.sent ++ written
    whole none = ap lines_at (so.parts ∙ (ap (λ l. so.done ++ l) none ∙ append-nil so.done)) ∙ so.text

    -- the last bytes are written
    pub rows_all : (now : Option (List ℕ)) (rest : List ℕ) → left ≡ [] → Sends 0 holds written now rest → Appends held now (lines_at order)
    rows_all now rest none s =
        subst (Appends held now) (sym (whole none ∙ ap (λ l. so.sent ++ l) (s.parts ∙ (ap (λ l. s.sent ++ l) (s.all refl) ∙ append-nil s.sent))))
        (appends_both held holds now so.sent s.sent so.sends s.wrote)

    -- they are not
    pub rows_cut : (now : Option (List ℕ)) → left ≡ [] → WritesFront holds now written → WritesFront held now (lines_at order)
    rows_cut now none front = front_same held now _ _ (sym (whole none)) (front_after held holds now so.sent written so.sends front)

    -- a row is appended, and bytes are not written
    pub rows_cut_at : (i : ℕ) (later more : List ℕ) (now : Option (List ℕ)) → left ≡ i ∷ later → more ≡ written ++ flat_map (row_line style) (row_of (slice_get sums i)) → WritesFront holds now more → WritesFront held now (lines_at order)
    rows_cut_at i later more now next is front =
        front_same held now _ _ (sym (ap lines_at (all_with i later next) ∙ (lines_both (so.done ++ i ∷ []) later ∙ ap (λ l. l ++ lines_at later) (with_row i more is))))
        (front_more held now (so.sent ++ more) (lines_at later) (front_after held holds now so.sent more so.sends front))

    -- a row is not appended
    pub rows_stop : WritesFront held holds (lines_at order)
    rows_stop =
        front_same held holds _ _ (sym (ap lines_at so.parts ∙ (lines_both so.done left ∙ (ap (λ l. l ++ lines_at left) so.text ∙ append_assoc so.sent written (lines_at left)))))
        (front_more held holds so.sent (written ++ lines_at left) (front_all held holds so.sent so.sends))

-- ---- the sums of keys

row_named : (sums : Sums) (items : Weighed) (i : ℕ) (k : List ℕ) → HoldsSums items sums → slice_get (names sums) i ≡ Some k → row_of (slice_get sums i) ≡ (weight_of items k, k) ∷ []
row_named [] items i k holds e = absurd (false≢true (ap is_some e))
row_named (x ∷ sums) items zero k holds e =
    ap (λ (n : ℕ). (n, x.0.items) ∷ []) holds.0 ∙ ap (λ (o : Option (List ℕ)). (weight_of items (unwrap_or o k), unwrap_or o k) ∷ []) e
row_named (x ∷ sums) items (suc i) k holds e = row_named sums items i k holds.1 e

rows_named : (style : Style) (sums : Sums) (items : Weighed) (order : List ℕ) (keys : List (List ℕ)) → HoldsSums items sums → AllZip (λ i k. slice_get (names sums) i ≡ Some k) order keys → flat_map (row_line style) (rows_at sums order) ≡ sum_lines style items keys
rows_named style sums items [] [] holds all = refl
rows_named style sums items [] (k ∷ keys) holds all = absurd all
rows_named style sums items (i ∷ order) [] holds all = absurd all
rows_named style sums items (i ∷ order) (k ∷ keys) holds all =
    flat_map-append (row_line style) (row_of (slice_get sums i)) (rows_at sums order)
    ∙ (ap (λ (rows : List Row). flat_map (row_line style) rows ++ flat_map (row_line style) (rows_at sums order)) (row_named sums items i k holds all.0)
    ∙ (ap (λ l. l ++ flat_map (row_line style) (rows_at sums order)) (append-nil (row_line style (weight_of items k, k)))
    ∙ ap (λ l. row_line style (weight_of items k, k) ++ l) (rows_named style sums items order keys holds all.1)))

sums_printed : (options : ExactOptions) (sums sums' : Sums) (order : List ℕ) (keys : List (List ℕ)) (items : Weighed) (total : ℕ) → HoldsKeys sums order keys → AddsItems sums 0 items sums' total
    → rows_text options total sums' order ≡ total_line options.style options.header (total_of items) ++ sum_lines options.style items keys
sums_printed options sums sums' order keys items total held adds =
    let is : total ≡ total_of items = omega (arith, adds.total_is) in
    let all : AllZip (λ i k. slice_get (names sums') i ≡ Some k) order keys = subst (λ l. AllZip (λ i k. slice_get l i ≡ Some k) order keys) (sym adds.names_are) held.named in
    ap (λ n. total_line options.style options.header n ++ flat_map (row_line options.style) (rows_at sums' order)) is
    ∙ ap (λ l. total_line options.style options.header (total_of items) ++ l) (rows_named options.style sums' items order keys (adds.adds [] refl held.empty) all)

pub exact_written : (options : ExactOptions) (keys : Option (List ℕ)) (was : Option (List (List ℕ))) (fails : List Bool) (sums sums' : Sums) (order : List ℕ) (total counter unweighed : ℕ) (held holds : Option (List ℕ))
    → IfSome keys (λ bytes. HoldsKeys sums order (parts_in options.keys_part bytes)) → IfSome was (λ inputs. SumsInputs options.chosen sums inputs fails sums' total counter) → unweighed ≡ counter → unweighed ≤ 2 ^ 64 - 1 → Appends held holds (rows_text options total sums' order)
    → IfSome keys (λ bytes. IfSome was (λ inputs. WritesSums options inputs fails bytes unweighed held holds))
exact_written options None was fails sums sums' order total counter unweighed held holds named summed same fits wrote = tt
exact_written options (Some bytes) None fails sums sums' order total counter unweighed held holds named summed same fits wrote = tt
exact_written options (Some bytes) (Some inputs) fails sums sums' order total counter unweighed held holds named summed same fits wrote = record {
  read = summed.read;
  are = summed.are;
  each = summed.each;
  skipped = let grown = summed.skipped in omega (arith, grown, same, fits);
  wrote = subst (Appends held holds) (sums_printed options sums sums' order (parts_in options.keys_part bytes) (weighed_in options.chosen summed.read) total named summed.adds) wrote;
}

pub exact_cut : (options : ExactOptions) (keys : Option (List ℕ)) (was : Option (List (List ℕ))) (fails : List Bool) (sums sums' : Sums) (order : List ℕ) (total unweighed : ℕ) (held holds : Option (List ℕ))
    → IfSome keys (λ bytes. HoldsKeys sums order (parts_in options.keys_part bytes)) → IfSome was (λ inputs. SumsInputs options.chosen sums inputs fails sums' total unweighed) → WritesFront held holds (rows_text options total sums' order)
    → IfSome keys (λ bytes. IfSome was (λ inputs. WritesSomeSums options inputs fails bytes held holds))
exact_cut options None was fails sums sums' order total unweighed held holds named summed wrote = tt
exact_cut options (Some bytes) None fails sums sums' order total unweighed held holds named summed wrote = tt
exact_cut options (Some bytes) (Some inputs) fails sums sums' order total unweighed held holds named summed wrote = record {
  read = summed.read;
  are = summed.are;
  each = summed.each;
  wrote = subst (WritesFront held holds) (sums_printed options sums sums' order (parts_in options.keys_part bytes) (weighed_in options.chosen summed.read) total named summed.adds) wrote;
}

-- a failure while lines are written may come after some
pub comes_late : (write_error : Option Error) (e : Failure) → FailsWriting write_error e → ComesWhileWriting (Weights e)
comes_late write_error Memory f = tt
comes_late write_error LineTooLong f = absurd f
comes_late write_error TooManyItems f = absurd f
comes_late write_error BadSize f = absurd f
comes_late write_error (BadWeight found) f = absurd f
comes_late write_error (Write error) f = tt

-- ---- the number of keys

-- a key of the file is one of the map
named_among : (sums : Sums) (order : List ℕ) (keys : List (List ℕ)) (k : List ℕ) → AllZip (λ i k. slice_get (names sums) i ≡ Some k) order keys → Contains keys k → Contains (names sums) k
named_among sums [] [] k all here = absurd (omega (arith, here.1))
named_among sums [] (x ∷ keys) k all here = absurd all
named_among sums (i ∷ order) [] k all here = absurd all
named_among sums (i ∷ order) (x ∷ keys) k all here = ⊎_elim
    (λ first. ⊎_elim
    (λ no. absurd (omega (arith, no.1)))
    (λ same. subst (Contains (names sums)) same (i, slice_get_within (names sums) i x all.0, get_or_from_slice_get (names sums) i x x all.0))
    (Contains-push_cases [] x k first))
    (λ later. named_among sums order keys k all.1 later)
    (Contains-append_cases (x ∷ []) keys k here)

few_keys : (max : ℕ) (sums : Sums) (order : List ℕ) (keys : List (List ℕ)) → HoldsKeys sums order keys → length sums ≤ max → HaveFewKeys max keys
few_keys max sums order keys holds small = λ (some, distinct, among, many).
    omega (
      arith,
      many,
      small,
      length_names sums,
      length-le_from_is_member nat_list_eq_equiv some (names sums) distinct
          (λ q here. list_any-from_Contains nat_list_eq_equiv q (names sums) (named_among sums order keys q holds.named (among q (Contains-from_any same_bytes q some here)))),
    )

-- ---- the file of keys

abbrev Keyed : Type 0
Keyed = FileKeys × Unit {0}

abbrev pub TakesFile : Keyed → List ℕ → Keyed → Type 0
TakesFile old bytes new = TakesKeys old.0.sums.entries old.0.order.items (parts_in old.0.part bytes) new.0.sums.entries new.0.order.items × (new.0.part ≡ old.0.part) × (new.0.max_keys ≡ old.0.max_keys) × StaysWithin old.0.max_keys old.0.sums.entries new.0.sums.entries

abbrev pub FailsFile : Keyed → List ℕ → Keyed → Failure → Type 0
FailsFile old bytes new failure = FailsTakingKeys old.0.max_keys old.0.sums.entries old.0.order.items (parts_in old.0.part bytes) failure

no_keys : (sums : Sums) (order : List ℕ) → sums ≡ [] → order ≡ [] → HoldsKeys sums order []
no_keys sums order none empty =
    subst (λ (s : Sums). HoldsKeys s order []) (sym none) (subst (λ (o : List ℕ). HoldsKeys [] o []) (sym empty) (record { named = tt; among = λ key here. here; empty = tt }))

pub file_taken : {E : Type 0} (keys : Option (List ℕ)) (fails : Bool) (failure : Option E) (old new : Keyed) → is_some failure ≡ false → TakesInput (splits_by old.0.part) TakesFile keys fails failure old new → IfSome keys (λ bytes. TakesFile old bytes new)
file_taken None fails failure old new whole taken = tt
file_taken (Some bytes) fails failure old new whole (is, (read, of, taken)) =
    let all : read ≡ bytes = subst (λ (b : Bool). IsReadOf (splits_by old.0.part) b bytes read) (sym is ∙ whole) of in
    subst (λ (l : List ℕ). TakesFile old l new) all taken

pub keys_held : (options : ExactOptions) (keys : Option (List ℕ)) (old new : Keyed) → old.0.part ≡ options.keys_part → old.0.sums.entries ≡ [] → old.0.order.items ≡ [] → IfSome keys (λ bytes. TakesFile old bytes new)
    → IfSome keys (λ bytes. HoldsKeys new.0.sums.entries new.0.order.items (parts_in options.keys_part bytes))
keys_held options None old new part none empty taken = tt
keys_held options (Some bytes) old new part none empty taken =
    subst (λ (p : RecordPart). HoldsKeys new.0.sums.entries new.0.order.items (parts_in p bytes)) part (taken.0 [] (no_keys old.0.sums.entries old.0.order.items none empty))

pub keys_few : (options : ExactOptions) (keys : Option (List ℕ)) (old new : Keyed) → old.0.part ≡ options.keys_part → old.0.max_keys ≡ options.max_keys → old.0.sums.entries ≡ [] → old.0.order.items ≡ [] → IfSome keys (λ bytes. TakesFile old bytes new)
    → IfSome keys (λ bytes. HaveFewKeys options.max_keys (parts_in options.keys_part bytes))
keys_few options None old new part max none empty taken = tt
keys_few options (Some bytes) old new part max none empty taken =
    few_keys options.max_keys new.0.sums.entries new.0.order.items (parts_in options.keys_part bytes) (keys_held options (Some bytes) old new part none empty taken)
    (subst (λ (m : ℕ). length new.0.sums.entries ≤ m) max (taken.3 (omega (arith, ap (λ (s : Sums). length s) none))))

file_failed : (options : ExactOptions) (limit : ℕ) (keys : Option (List ℕ)) (old : Keyed) (e : Failure) → old.0.part ≡ options.keys_part → old.0.max_keys ≡ options.max_keys → old.0.sums.entries ≡ [] → old.0.order.items ≡ []
    → (s : Keyed) × (bytes : List ℕ) × FailsTakingKeys s.0.max_keys s.0.sums.entries s.0.order.items (parts_in s.0.part bytes) e → IfSome keys (λ bytes. FailsTakingKeys old.0.max_keys old.0.sums.entries old.0.order.items (parts_in old.0.part bytes) e) → FailsKeys options limit keys e
file_failed options limit keys old Memory part max none empty some known = tt
file_failed options limit keys old LineTooLong part max none empty some known = absurd some.2
file_failed options limit keys old TooManyItems part max none empty some known = absurd some.2
file_failed options limit None old BadSize part max none empty some known = tt
file_failed options limit (Some bytes) old BadSize part max none empty some known =
    subst (λ (m : ℕ). FailsKeys (record { chosen = options.chosen; keys_part = options.keys_part; max_keys = m; style = options.style; max_line = options.max_line; header = options.header }) limit (Some bytes) BadSize) max
    (subst (λ (p : RecordPart). FailsKeys (record { chosen = options.chosen; keys_part = p; max_keys = old.0.max_keys; style = options.style; max_line = options.max_line; header = options.header }) limit (Some bytes) BadSize) part
    (known [] (no_keys old.0.sums.entries old.0.order.items none empty)))
file_failed options limit keys old (BadWeight found) part max none empty some known = absurd some.2
file_failed options limit keys old (Write error) part max none empty some known = absurd some.2

pub keys_not_taken : (options : ExactOptions) (limit : ℕ) (keys : Option (List ℕ)) (old new : Keyed) (e : Failure) → old.0.part ≡ options.keys_part → old.0.max_keys ≡ options.max_keys → old.0.sums.entries ≡ [] → old.0.order.items ≡ []
    → FailsInput (splits_by old.0.part) TakesFile FailsFile FailsFile limit keys old new e → FailsKeys options limit keys e
keys_not_taken options limit keys old new e part max none empty failed = ⊎_elim
    (λ stops. ⊎_elim (λ memory. rw memory tt) (λ long. rw long.0 (subst (λ (p : RecordPart). IfSome keys (HasLongRecord (splits_by p) limit)) part long.1)) stops.0)
    (λ taking. file_failed options limit keys old e part max none empty taking.some taking.known)
    failed

-- ---- the inputs

abbrev Adder : Type 0
Adder = KeySums × Unit {0}

-- what the sink does with an input, and with bytes of its records
abbrev pub Begins : KeySums → KeySums → Type 0
Begins old new = new ≡ record { sums = old.sums; total = old.total; chosen = old.chosen; count = 0; unweighed = old.unweighed }

abbrev pub AddsWithin : Adder → List ℕ → Adder → Type 0
AddsWithin old bytes new =
    (AddsLines old.0.chosen old.0.sums.entries old.0.total (records_by old.0.chosen.item bytes) new.0.sums.entries new.0.total × (new.0.chosen ≡ old.0.chosen))
    × GrowsBy old.0.unweighed (skipped_rows old.0.chosen (records_by old.0.chosen.item bytes)) new.0.unweighed
    × GrowsBy old.0.count (lines_of (splits_by old.0.chosen.item) (records_by old.0.chosen.item bytes)) new.0.count

abbrev pub FailsWithin : Adder → List ℕ → Adder → Failure → Type 0
FailsWithin old bytes new failure = FailsLines old.0.chosen old.0.total old.0.count (records_by old.0.chosen.item bytes) failure

abbrev pub Adds : Adder → List ℕ → Adder → Type 0
Adds old bytes new = TakesBegun Begins AddsWithin old bytes new

abbrev pub FailsAdds : Adder → List ℕ → Adder → Failure → Type 0
FailsAdds old bytes new failure = FailsBegun Begins FailsWithin old bytes new failure

-- without the number of its lines
abbrev AddsSums : Adder → List ℕ → Adder → Type 0
AddsSums old bytes new =
    (AddsLines old.0.chosen old.0.sums.entries old.0.total (records_by old.0.chosen.item bytes) new.0.sums.entries new.0.total × (new.0.chosen ≡ old.0.chosen))
    × GrowsBy old.0.unweighed (skipped_rows old.0.chosen (records_by old.0.chosen.item bytes)) new.0.unweighed

sums_added : (old new : Adder) (bytes : List ℕ) → Adds old bytes new → AddsSums old bytes new
sums_added old new bytes (begun, is, taken) = subst (λ (b : KeySums). AddsSums (b, old.1) bytes new) is (taken.0, taken.1)

adding_failed : (old new : Adder) (bytes : List ℕ) (e : Failure) → FailsAdds old bytes new e → FailsLines old.0.chosen old.0.total 0 (records_by old.0.chosen.item bytes) e
adding_failed old new bytes e (begun, is, f) = subst (λ (b : KeySums). FailsLines b.chosen b.total b.count (records_by b.chosen.item bytes) e) is f

abbrev AddsAll : WeighedRecord → Sums → (total : ℕ) → List (List ℕ) → Adder → Type 0
AddsAll p sums total read new = AddsLines p sums total (flat_map (records_by p.item) read) new.0.sums.entries new.0.total × (new.0.chosen ≡ p)

-- the items of each list were added
each_added : (old new : Adder) (read : List (List ℕ)) → TakesEach Adds old read new → AddsAll old.0.chosen old.0.sums.entries old.0.total read new
each_added old new [] same = subst (λ (s : Adder). AddsAll old.0.chosen old.0.sums.entries old.0.total [] s) (sym same) (no_sums old.0.chosen old.0.sums.entries old.0.total, refl)
each_added old new (bytes ∷ read) (mid, one, rest) =
    let ((first, kept), _) = sums_added old mid bytes one in
    let (later, kept') = each_added mid new read rest in (
      all_sums old.0.chosen old.0.sums.entries mid.0.sums.entries new.0.sums.entries old.0.total mid.0.total new.0.total (records_by old.0.chosen.item bytes) (flat_map (records_by old.0.chosen.item) read) first
          (subst (λ (p : WeighedRecord). AddsLines p mid.0.sums.entries mid.0.total (flat_map (records_by p.item) read) new.0.sums.entries new.0.total) kept later),
      kept' ∙ kept,
    )

-- the number of records without a weight, and whose weight is 0, grew by those of each list
each_skipped : (old new : Adder) (read : List (List ℕ)) → TakesEach Adds old read new → GrowsBy old.0.unweighed (skipped_rows old.0.chosen (flat_map (records_by old.0.chosen.item) read)) new.0.unweighed
each_skipped old new [] same =
    subst (λ (s : Adder). GrowsBy old.0.unweighed (skipped_rows old.0.chosen []) s.0.unweighed) (sym same) (skips_none (Record old.0.chosen) old.0.unweighed)
each_skipped old new (bytes ∷ read) (mid, one, rest) =
    let ((_, kept), first) = sums_added old mid bytes one in
    let p : WeighedRecord = old.0.chosen in
    let later = subst (λ (q : WeighedRecord). GrowsBy mid.0.unweighed (skipped_rows q (flat_map (records_by q.item) read)) new.0.unweighed) kept (each_skipped mid new read rest) in
    omega (arith, first, later, rows_append p (records_by p.item bytes) (flat_map (records_by p.item) read))

pub inputs_summed : (was : Option (List (List ℕ))) (fails : List Bool) (complete : Bool) (old new : Adder) → old.0.total ≡ 0 → old.0.unweighed ≡ 0 → TakesInputs (splits_by old.0.chosen.item) Adds was fails complete old new
    → IfSome was (λ inputs. SumsInputs old.0.chosen old.0.sums.entries inputs fails new.0.sums.entries new.0.total new.0.unweighed)
inputs_summed None fails complete old new begin starts taken = tt
inputs_summed (Some inputs) fails complete old new begin starts (is, (read, are, each)) =
    let (adds, same) = each_added old new read each in
    let grown = each_skipped old new read each in
    record {
      read = read;
      are = are;
      each = adds.1;
      skipped = omega (arith, grown, starts);
      adds = subst (λ (n : ℕ). AddsItems old.0.sums.entries n (weighed_in old.0.chosen read) new.0.sums.entries new.0.total) begin adds.0;
    }

too_many : (old after : Adder) (inputs : List (List ℕ)) → old.0.total ≡ 0 → FailsAmong (splits_by old.0.chosen.item) Adds FailsAdds inputs old after TooManyItems → 2 ^ 64 ≤ total_of (weighed_in old.0.chosen inputs)
too_many old after inputs new f =
    let p : WeighedRecord = old.0.chosen in
    let (added, same) = each_added old f.mid f.read f.taken in
    let here : Weighed = weighed_lines p (records_by p.item f.input) in
    let last : 2 ^ 64 ≤ f.mid.0.total + total_of here = subst (λ (q : WeighedRecord). 2 ^ 64 ≤ f.mid.0.total + total_of (weighed_lines q (records_by q.item f.input))) same (adding_failed f.mid after f.input TooManyItems f.reason) in
    let all = ap (λ (l : Weighed). total_of l) (ap (weighed_in p) f.parts ∙ weighed_among p f.earlier f.later f.input) in
    omega (arith, last, added.0.total_is, new, few_of_each p f.earlier f.read f.fronts, all, total_both (weighed_in p f.earlier) (here ++ weighed_in p f.later), total_both here (weighed_in p f.later))

without_one : (old after : Adder) (inputs : List (List ℕ)) (found : BadWeightValue) → FailsAmong (splits_by old.0.chosen.item) Adds FailsAdds inputs old after (BadWeight found) → HaveUnweighed (splits_by old.0.chosen.item) (unweighed_line old.0.chosen) inputs found.line
without_one old after inputs found f =
    let (added, same) = each_added old f.mid f.read f.taken in
    record {
      earlier = f.earlier;
      input = f.input;
      later = f.later;
      parts = f.parts;
      read = f.read;
      fronts = f.fronts;
      weighed = added.1;
      first = subst (λ (q : WeighedRecord). IsFirstUnweighed (lines_of (splits_by q.item)) (unweighed_line q) 0 (records_by q.item f.input) found.line) same (adding_failed f.mid after f.input (BadWeight found) f.reason);
    }

taking_failed : (limit : ℕ) (was : Option (List (List ℕ))) (write_error : Option Error) (old after : Adder) (e : Failure) → old.0.total ≡ 0 → FailsTakingInputs (splits_by old.0.chosen.item) Adds FailsWithin FailsAdds was old after e → FailsSums old.0.chosen limit was write_error e
taking_failed limit was write_error old after Memory new f = tt
taking_failed limit was write_error old after LineTooLong new f = absurd f.some.2
taking_failed limit None write_error old after TooManyItems new f = tt
taking_failed limit (Some inputs) write_error old after TooManyItems new f = too_many old after inputs new f.known
taking_failed limit None write_error old after (BadWeight found) new f = tt
taking_failed limit (Some inputs) write_error old after (BadWeight found) new f = without_one old after inputs found f.known
taking_failed limit was write_error old after BadSize new f = absurd f.some.2
taking_failed limit was write_error old after (Write error) new f = absurd f.some.2

pub summing_failed : (limit : ℕ) (was : Option (List (List ℕ))) (write_error : Option Error) (old after : Adder) (e : Failure) → old.0.total ≡ 0 → FailsInputs (splits_by old.0.chosen.item) Adds FailsWithin FailsAdds limit was old after e → FailsSums old.0.chosen limit was write_error e
summing_failed limit was write_error old after e new failed = ⊎_elim
    (λ stops. ⊎_elim (λ memory. rw memory tt) (λ long. rw long.0 long.1) stops.0)
    (λ taking. taking_failed limit was write_error old after e new taking)
    failed
