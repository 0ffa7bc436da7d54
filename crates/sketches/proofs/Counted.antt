-- What a counter of items has counted of inputs, and why it failed.
use Rattle.std.proofs.Common.{◌≡◌, ⊎_elim, ℕ, ◌+◌, ◌^◌, ◌≤◌, Bool, List, [], ◌∷◌, ◌++◌, Option, None, Some, IfSome, append-nil, refl, sym, ◌∙◌, ap, subst, arith}
use Rattle.std.proofs.lemmas.List.Concat.{flat_map-append}
use Rattle.std.specs.List.{AllZip, flat_map}
use Rattle.std.specs.declared.io.Error.{Error}
use Rattle.sketches.specs.Added.{Sketch, AddsLines, AddsWeighed}
use Rattle.sketches.specs.Failures.{FailsLines, FailsTop}
use Rattle.sketches.specs.Inputs.{AreRead, FailsAmong, FailsBegun, FailsInputs, HaveLongRecord, FailsTakingInputs, TakesBegun, TakesEach, TakesInputs}
use Rattle.sketches.specs.LineNumbers.{HaveUnweighed, IsFirstUnweighed, lines_counted, lines_of}
use Rattle.sketches.specs.Reading.{AreFirstRecords}
use Rattle.sketches.specs.Skipped.{skipped_in}
use Rattle.sketches.specs.SkippedLaws.{skipped_append, skips_none}
use Rattle.sketches.specs.Utf8LineLaws.{grows_none, not_utf8_append}
use Rattle.sketches.specs.Utf8Lines.{GrowsBy, not_utf8_in}
use Rattle.sketches.specs.Weighed.{records_of, splits_of, total_of, unweighed_of, unweighed_of_line, weighed_of}
use Rattle.sketches.specs.WeighingLaws.{total_both, weighed_none, weighed_both, weighed_append}
use Rattle.sketches.specs.declared.count.counting.ItemCounter.{ItemCounter}
use Rattle.sketches.specs.declared.failure.BadWeight.{BadWeight}
use Rattle.sketches.specs.declared.failure.Failure.{Failure}
use Rattle.sketches.specs.declared.failure.Failure.TheVariants as failures
use Rattle.sketches.specs.declared.failure.Failure.TheVariants.{Memory, LineTooLong, TooManyItems, BadSize, Write}
use Rattle.sketches.specs.declared.count.top.Options.{Options}
use Rattle.sketches.specs.declared.item.weighing.Weighing.{Weighing}
use Rattle.sketches.specs.declared.item.weighing.Weighing.TheVariants as weighing

abbrev Counter : Type 0
Counter = ItemCounter × Unit {0}

-- what the counter does with an input, and with bytes of its lines
abbrev pub Begins : ItemCounter → ItemCounter → Type 0
Begins old new = new ≡ record { sketch = old.sketch; weighing = old.weighing; count = 0; not_utf8 = old.not_utf8; unweighed = old.unweighed }

abbrev pub CountsWithin : Counter → List ℕ → Counter → Type 0
CountsWithin old bytes new =
    (AddsLines old.0.weighing old.0.sketch bytes new.0.sketch × (new.0.weighing ≡ old.0.weighing))
    × GrowsBy old.0.not_utf8 (not_utf8_in old.0.weighing (records_of old.0.weighing bytes)) new.0.not_utf8
    × GrowsBy old.0.unweighed (skipped_in old.0.weighing (records_of old.0.weighing bytes)) new.0.unweighed
    × GrowsBy old.0.count (lines_counted old.0.weighing (records_of old.0.weighing bytes)) new.0.count

abbrev pub FailsWithin : Counter → List ℕ → Counter → Failure → Type 0
FailsWithin old bytes new failure = FailsLines old.0.weighing old.0.sketch old.0.count bytes failure

abbrev pub Counts : Counter → List ℕ → Counter → Type 0
Counts old bytes new = TakesBegun Begins CountsWithin old bytes new

abbrev pub FailsCounting : Counter → List ℕ → Counter → Failure → Type 0
FailsCounting old bytes new failure = FailsBegun Begins FailsWithin old bytes new failure

-- without the number of its lines
abbrev CountsItems : Counter → List ℕ → Counter → Type 0
CountsItems old bytes new =
    (AddsLines old.0.weighing old.0.sketch bytes new.0.sketch × (new.0.weighing ≡ old.0.weighing))
    × GrowsBy old.0.not_utf8 (not_utf8_in old.0.weighing (records_of old.0.weighing bytes)) new.0.not_utf8
    × GrowsBy old.0.unweighed (skipped_in old.0.weighing (records_of old.0.weighing bytes)) new.0.unweighed

items_counted : (old new : Counter) (bytes : List ℕ) → Counts old bytes new → CountsItems old bytes new
items_counted old new bytes (begun, is, taken) = subst (λ (b : ItemCounter). CountsItems (b, old.1) bytes new) is (taken.0, taken.1, taken.2)

counting_failed : (old new : Counter) (bytes : List ℕ) (e : Failure) → FailsCounting old bytes new e → FailsLines old.0.weighing old.0.sketch 0 bytes e
counting_failed old new bytes e (begun, is, f) = subst (λ (b : ItemCounter). FailsLines b.weighing b.sketch b.count bytes e) is f

-- the items of each list were added, and each line with an item has a weight
abbrev pub AddsEach : Weighing → (old : Sketch) → List (List ℕ) → (new : Sketch) → Type 0
AddsEach p old read new = AddsWeighed old (flat_map (weighed_of p) read) new × (flat_map (unweighed_of p) read ≡ [])

each_counted : (old new : Counter) (read : List (List ℕ)) → TakesEach Counts old read new → AddsEach old.0.weighing old.0.sketch read new.0.sketch × (new.0.weighing ≡ old.0.weighing)
each_counted old new [] same =
    subst (λ (s : Counter). AddsEach old.0.weighing old.0.sketch [] s.0.sketch × (s.0.weighing ≡ old.0.weighing)) (sym same) ((weighed_none old.0.sketch, refl), refl)
each_counted old new (bytes ∷ read) (mid, one, rest) =
    let ((first, kept), _, _) = items_counted old mid bytes one in
    let (later, kept') = each_counted mid new read rest in
    let p : Weighing = old.0.weighing in
    let (added, weighed) = subst (λ (q : Weighing). AddsEach q mid.0.sketch read new.0.sketch) kept later in (
      (
        weighed_both old.0.sketch mid.0.sketch new.0.sketch (weighed_of p bytes) (flat_map (weighed_of p) read) first.0 added,
        ap (λ (l : List (List ℕ)). l ++ flat_map (unweighed_of p) read) first.1 ∙ weighed,
      ),
      kept' ∙ kept,
    )

-- the number of records whose items are not UTF-8 grew by those of each list
each_grown : (old new : Counter) (read : List (List ℕ)) → TakesEach Counts old read new → GrowsBy old.0.not_utf8 (not_utf8_in old.0.weighing (flat_map (records_of old.0.weighing) read)) new.0.not_utf8
each_grown old new [] same = subst (λ (s : Counter). GrowsBy old.0.not_utf8 (not_utf8_in old.0.weighing []) s.0.not_utf8) (sym same) (grows_none old.0.weighing old.0.not_utf8)
each_grown old new (bytes ∷ read) (mid, one, rest) =
    let ((_, kept), first, _) = items_counted old mid bytes one in
    let p : Weighing = old.0.weighing in
    let later = subst (λ (q : Weighing). GrowsBy mid.0.not_utf8 (not_utf8_in q (flat_map (records_of q) read)) new.0.not_utf8) kept (each_grown mid new read rest) in
    omega (arith, first, later, not_utf8_append p (records_of p bytes) (flat_map (records_of p) read))

-- the number of records without a weight, and whose weight is 0, grew by those of each list
each_skipped : (old new : Counter) (read : List (List ℕ)) → TakesEach Counts old read new → GrowsBy old.0.unweighed (skipped_in old.0.weighing (flat_map (records_of old.0.weighing) read)) new.0.unweighed
each_skipped old new [] same = subst (λ (s : Counter). GrowsBy old.0.unweighed (skipped_in old.0.weighing []) s.0.unweighed) (sym same) (skips_none old.0.weighing old.0.unweighed)
each_skipped old new (bytes ∷ read) (mid, one, rest) =
    let ((_, kept), _, first) = items_counted old mid bytes one in
    let p : Weighing = old.0.weighing in
    let later = subst (λ (q : Weighing). GrowsBy mid.0.unweighed (skipped_in q (flat_map (records_of q) read)) new.0.unweighed) kept (each_skipped mid new read rest) in
    omega (arith, first, later, skipped_append p (records_of p bytes) (flat_map (records_of p) read))

-- two numbers of a counter: of records whose items are not UTF-8, and of records without a weight, whose weight is 0
abbrev pub Numbers : Type 0
Numbers = ℕ × ℕ

abbrev pub numbers_of : ItemCounter → Numbers
numbers_of counter = (counter.not_utf8, counter.unweighed)

-- the numbers grew by those of these records
abbrev pub GrowBy : Weighing → (before : Numbers) → List (List ℕ) → (after : Numbers) → Type 0
GrowBy p before rows after = GrowsBy before.0 (not_utf8_in p rows) after.0 × GrowsBy before.1 (skipped_in p rows) after.1

-- the items of what was read of each input were added, and the numbers grew by those of its records
abbrev pub CountsInputs : Weighing → Option (List (List ℕ)) → (fails : List Bool) → (old new : Sketch) → (before after : Numbers) → Type 0
CountsInputs p was fails old new before after = IfSome was (λ inputs.
    (read : List (List ℕ)) × AreRead (splits_of p) fails inputs read × AddsEach p old read new × GrowBy p before (flat_map (records_of p) read) after)

pub counted : (was : Option (List (List ℕ))) (fails : List Bool) (complete : Bool) (old new : Counter) → TakesInputs (splits_of old.0.weighing) Counts was fails complete old new → CountsInputs old.0.weighing was fails old.0.sketch new.0.sketch (numbers_of old.0) (numbers_of new.0)
counted None fails complete old new taken = tt
counted (Some inputs) fails complete old new (is, (read, are, each)) = (read, are, (each_counted old new read each).0, (each_grown old new read each, each_skipped old new read each))

-- ---- too many items

-- the first lines have at most the weight of all lines
few_first : (p : Weighing) (bytes read : List ℕ) → AreFirstRecords (splits_of p) bytes read → total_of (weighed_of p read) ≤ total_of (weighed_of p bytes)
few_first p bytes read ([], parts, whole) = let same = ap (λ (l : List ℕ). total_of (weighed_of p l)) (parts ∙ append-nil read) in omega (arith, same)
few_first p bytes read (x ∷ rest, parts, whole) =
    let both = ap total_of (ap (weighed_of p) parts ∙ weighed_append p read (x ∷ rest) (whole (omega arith))) in
    omega (arith, both, total_both (weighed_of p read) (weighed_of p (x ∷ rest)))

few_of_each : (p : Weighing) (inputs read : List (List ℕ)) → AllZip (AreFirstRecords (splits_of p)) inputs read → total_of (flat_map (weighed_of p) read) ≤ total_of (flat_map (weighed_of p) inputs)
few_of_each p [] [] fronts = omega arith
few_of_each p [] (r ∷ read) fronts = absurd fronts
few_of_each p (bytes ∷ inputs) [] fronts = absurd fronts
few_of_each p (bytes ∷ inputs) (r ∷ read) fronts =
    omega (arith, few_first p bytes r fronts.0, few_of_each p inputs read fronts.1, total_both (weighed_of p r) (flat_map (weighed_of p) read), total_both (weighed_of p bytes) (flat_map (weighed_of p) inputs))

too_many : (old after : Counter) (inputs : List (List ℕ)) → old.0.sketch.total ≡ 0 → FailsAmong (splits_of old.0.weighing) Counts FailsCounting inputs old after TooManyItems → 2 ^ 64 ≤ total_of (flat_map (weighed_of old.0.weighing) inputs)
too_many old after inputs new f =
    let p : Weighing = old.0.weighing in
    let (added, same) = each_counted old f.mid f.read f.taken in
    let last : 2 ^ 64 ≤ f.mid.0.sketch.total + total_of (weighed_of p f.input) = subst (λ (q : Weighing). 2 ^ 64 ≤ f.mid.0.sketch.total + total_of (weighed_of q f.input)) same (counting_failed f.mid after f.input TooManyItems f.reason) in
    let all = ap total_of (ap (flat_map (weighed_of p)) f.parts ∙ flat_map-append (weighed_of p) f.earlier (f.input ∷ f.later)) in
    omega (arith, last, added.0.total, new, few_of_each p f.earlier f.read f.fronts, all, total_both (flat_map (weighed_of p) f.earlier) (flat_map (weighed_of p) (f.input ∷ f.later)), total_both (weighed_of p f.input) (flat_map (weighed_of p) f.later))

-- ---- a line without a weight

-- the lines that are counted are those of records
all_lines : (p : Weighing) (rows : List (List ℕ)) (line : ℕ) → IsFirstUnweighed (lines_counted p) (unweighed_of_line p) 0 rows line → IsFirstUnweighed (lines_of (splits_of p)) (unweighed_of_line p) 0 rows line
all_lines (weighing.Once selection) rows line f = absurd (omega (arith, f.without))
all_lines (weighing.Field part) rows line f = f
all_lines (weighing.Record chosen) rows line f = f

unweighed_each : (p : Weighing) (read : List (List ℕ)) → flat_map (unweighed_of_line p) (flat_map (records_of p) read) ≡ flat_map (unweighed_of p) read
unweighed_each p [] = refl
unweighed_each p (bytes ∷ read) =
    flat_map-append (unweighed_of_line p) (records_of p bytes) (flat_map (records_of p) read)
    ∙ ap (λ (l : List (List ℕ)). unweighed_of p bytes ++ l) (unweighed_each p read)

bad_weight : (old after : Counter) (inputs : List (List ℕ)) (found : BadWeight) → FailsAmong (splits_of old.0.weighing) Counts FailsCounting inputs old after (failures.BadWeight found) → HaveUnweighed (splits_of old.0.weighing) (unweighed_of_line old.0.weighing) inputs found.line
bad_weight old after inputs found f =
    let p : Weighing = old.0.weighing in
    let (added, same) = each_counted old f.mid f.read f.taken in
    record {
      earlier = f.earlier;
      input = f.input;
      later = f.later;
      parts = f.parts;
      read = f.read;
      fronts = f.fronts;
      weighed = unweighed_each p f.read ∙ added.1;
      first = all_lines p (records_of p f.input) found.line (subst (λ (q : Weighing). IsFirstUnweighed (lines_counted q) (unweighed_of_line q) 0 (records_of q f.input) found.line) same (counting_failed f.mid after f.input (failures.BadWeight found) f.reason));
    }

-- ---- a failure

taking_failed : (options : Options) (was : Option (List (List ℕ))) (output : Error → Type 0) (old after : Counter) (e : Failure) → old.0.sketch.total ≡ 0 → old.0.weighing ≡ options.weighing → FailsTakingInputs (splits_of old.0.weighing) Counts FailsWithin FailsCounting was old after e → FailsTop options was output e
taking_failed options was output old after Memory new same f = tt
taking_failed options was output old after LineTooLong new same f = absurd f.some.2
taking_failed options None output old after TooManyItems new same f = tt
taking_failed options (Some inputs) output old after TooManyItems new same f = subst (λ (p : Weighing). 2 ^ 64 ≤ total_of (flat_map (weighed_of p) inputs)) same (too_many old after inputs new f.known)
taking_failed options None output old after (failures.BadWeight found) new same f = tt
taking_failed options (Some inputs) output old after (failures.BadWeight found) new same f = subst (λ (p : Weighing). HaveUnweighed (splits_of p) (unweighed_of_line p) inputs found.line) same (bad_weight old after inputs found f.known)
taking_failed options was output old after BadSize new same f = absurd f.some.2
taking_failed options was output old after (Write error) new same f = absurd f.some.2

pub count_failed : (options : Options) (was : Option (List (List ℕ))) (output : Error → Type 0) (old after : Counter) (e : Failure) → old.0.sketch.total ≡ 0 → old.0.weighing ≡ options.weighing → FailsInputs (splits_of old.0.weighing) Counts FailsWithin FailsCounting (options.max_line + 1) was old after e → FailsTop options was output e
count_failed options was output old after e new same failed = ⊎_elim
    (λ stops. ⊎_elim (λ memory. rw memory tt) (λ long. rw long.0 (subst (λ (p : Weighing). IfSome was (HaveLongRecord (splits_of p) (options.max_line + 1))) same long.1)) stops.0)
    (λ taking. taking_failed options was output old after e new same taking)
    failed
