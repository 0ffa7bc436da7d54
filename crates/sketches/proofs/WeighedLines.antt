-- The weighed items of lines, one line after another.
use Rattle.std.proofs.Common.{◌≡◌, ⊎_elim, ℕ, ◌+◌, ◌-◌, ◌^◌, ◌<◌, min, Bool, true, false, cond, List, [], ◌∷◌, ◌++◌, length, map, Option, None, Some, append_assoc, append-nil, refl, sym, ◌∙◌, ap, subst, arith}
use Rattle.std.proofs.lemmas.Bool.{cases_lt, le-ltb, lt-ltb}
use Rattle.std.proofs.lemmas.List.{map-append}
use Rattle.std.proofs.lemmas.List.Concat.{flat_map-append}
use Rattle.std.proofs.lemmas.List.Sums.{sum_by-cons}
use Rattle.std.specs.Cmp.Lexicographic.{bytes_decides}
use Rattle.std.specs.Global.{Global}
use Rattle.std.specs.List.{flat_map}
use Rattle.std.specs.String.{string_bytes, string_eq}
use Rattle.std.specs.Prelude.{IsTrue, nat_lt}
use Rattle.std.specs.Str.Lines.{lines}
use Rattle.std.specs.Str.Lossy.{utf8_lossy}
use Rattle.std.specs.declared.string.String.{String}
use Rattle.counter_table.specs.StringKeys.{names_string}
use Rattle.sketch_base.specs.Errors.{ErrorValue, invalid_argument, no_memory}
use Rattle.sketch_base.specs.declared.fault.Fault.TheVariants.{WeightOverflow}
use Rattle.sketch_frequencies.specs.Batches.{StepsEqualAlong, all_updated}
use Rattle.sketch_frequencies.specs.History.{FrequentHistory}
use Rattle.sketch_frequencies.specs.History.FrequentHistory.{Update}
use Rattle.sketch_frequencies.specs.Stands.{Extends, ExtendsBudget, StandsFor, KeepsTailBudget}
use Rattle.sketch_frequencies.specs.State.{Overflows, TotalHasRoom}
use Rattle.sketch_frequencies.specs.Steps.{StepsByKey}
use Rattle.sketch_frequencies.specs.WeightedBatches.{StepsEqualWeighed, all_weighed}
use Rattle.sketches.specs.Added.{Sketch, AddsLine, AddsLines, AddsStrings, AddsWeighed}
use Rattle.sketches.specs.Failures.{FailsAdding, FailsLine, FailsLines, FailsWeighing, IsBadWeight}
use Rattle.sketches.specs.Faults.{failure_of}
use Rattle.sketches.specs.Items.{items_of, items_of_raw_line}
use Rattle.sketches.specs.LineNumberLaws.{counted_append, first_here, first_later, none_counted}
use Rattle.sketches.specs.LineNumbers.{IsFirstUnweighed, IsUnweighedAt, lines_counted}
use Rattle.sketches.specs.Utf8Lines.{GrowsBy}
use Rattle.sketch_text.specs.Records.{part_in, part_of}
use Rattle.sketches.specs.Weighed.{Weighed, items_of_record, line_weight, once, records_of, total_of, unweighed_of_line, weighed_of, weighed_of_line, with_weight, without_weight}
use Rattle.sketches.specs.Weights.{counted_weight}
use Rattle.sketches.specs.declared.item.weighing.WeighedRecord.{WeighedRecord}
use Rattle.sketches.proofs.AddedItems.{step_equal}
use Rattle.sketches.specs.WeighingLaws.{weighed_none, weighed_both, weighing_fails_more, weighing_fails_after}
use Rattle.sketches.specs.declared.failure.Failure.{Failure}
use Rattle.sketches.specs.declared.failure.Failure.TheVariants.{Memory, LineTooLong, TooManyItems, BadSize, Write}
use Rattle.sketches.specs.declared.failure.Failure.TheVariants as failures
use Rattle.sketches.specs.declared.item.selection.Selection.{Selection}
use Rattle.sketches.specs.declared.item.weighing.WeighedPart.{WeighedPart}
use Rattle.sketches.specs.declared.item.weighing.Weighing.{Weighing}
use Rattle.sketches.specs.declared.item.weighing.Weighing.TheVariants as weighing

-- ---- items of weight 1

abbrev of_one : {T : Type 0} → T → T × ℕ
of_one x = (x, 1)

once_updated : (h : FrequentHistory (String Global)) (items : List (String Global)) → all_weighed h (map of_one items) ≡ all_updated h items
once_updated h [] = refl
once_updated h (x ∷ xs) = once_updated (Update h x 1) xs

once_named : (items : List (String Global)) → map (λ (pair : String Global × ℕ). (string_bytes pair.0, pair.1)) (map of_one items) ≡ once (map string_bytes items)
once_named [] = refl
once_named (x ∷ xs) = ap (λ (l : Weighed). (string_bytes x, 1) ∷ l) (once_named xs)

pub total_once : (strings : List (List ℕ)) → total_of (once strings) ≡ length strings
total_once [] = refl
total_once (x ∷ xs) = omega (arith, total_once xs, sum_by-cons (λ (pair : List ℕ × ℕ). pair.1) (x, 1) (once xs))

once_steps : (old new : Sketch) (items : List (String Global)) → StepsEqualAlong string_eq old items new → StepsEqualWeighed string_eq old (map of_one items) new
once_steps old new [] same = same
once_steps old new (x ∷ xs) (mid, one, rest) = (mid, one, once_steps mid new xs rest)

strings_weighed : (old new : Sketch) (strings : List (List ℕ)) → AddsStrings old strings new → AddsWeighed old (once strings) new
strings_weighed old new strings s = record {
  items = map of_one s.items;
  are = once_named s.items ∙ ap once s.are;
  steps = once_steps old new s.items s.steps;
  total = omega (arith, s.total, total_once strings);
  key = s.key;
  stands = λ h k. subst (λ (g : FrequentHistory (String Global)). StandsFor string_eq new g) (sym (once_updated h s.items)) (s.stands h k);
  budget = λ h k q. subst (λ (g : FrequentHistory (String Global)). KeepsTailBudget string_eq new g) (sym (once_updated h s.items)) (s.budget h k q);
}

once_fails : (old : Sketch) (strings : List (List ℕ)) (bad : ℕ → Type 0) (e : Failure) → FailsAdding old strings e → FailsWeighing old (once strings) bad e
once_fails old strings bad Memory f = tt
once_fails old strings bad LineTooLong f = f
once_fails old strings bad TooManyItems f = omega (arith, f, total_once strings)
once_fails old strings bad BadSize f = f
once_fails old strings bad (failures.BadWeight found) f = absurd f
once_fails old strings bad (Write error) f = f

once_each : (chosen : Selection) (all : List (List ℕ)) → flat_map (weighed_of_line (weighing.Once chosen)) all ≡ once (flat_map (items_of_raw_line chosen) all)
once_each chosen [] = refl
once_each chosen (line ∷ all) =
    ap (λ (l : Weighed). once (items_of_raw_line chosen line) ++ l) (once_each chosen all)
    ∙ sym (map-append (λ (item : List ℕ). (item, 1)) (items_of_raw_line chosen line) (flat_map (items_of_raw_line chosen) all))

none_unweighed : (chosen : Selection) (all : List (List ℕ)) → flat_map (unweighed_of_line (weighing.Once chosen)) all ≡ []
none_unweighed chosen [] = refl
none_unweighed chosen (line ∷ all) = none_unweighed chosen all

pub once_added : (chosen : Selection) (old new : Sketch) (bytes : List ℕ) → AddsStrings old (items_of chosen bytes) new → AddsLines (weighing.Once chosen) old bytes new
once_added chosen old new bytes s = (
  subst (λ (l : Weighed). AddsWeighed old l new) (sym (once_each chosen (lines bytes))) (strings_weighed old new (items_of chosen bytes) s),
  none_unweighed chosen (lines bytes),
)

pub once_failed : (chosen : Selection) (old : Sketch) (bytes : List ℕ) (e : Failure) → FailsAdding old (items_of chosen bytes) e → (count : ℕ) → FailsLines (weighing.Once chosen) old count bytes e
once_failed chosen old bytes e f count =
    let bad : ℕ → Type 0 = IsFirstUnweighed (lines_counted (weighing.Once chosen)) (unweighed_of_line (weighing.Once chosen)) count (lines bytes) in
    subst (λ (l : Weighed). FailsWeighing old l bad e) (sym (once_each chosen (lines bytes))) (once_fails old (items_of chosen bytes) bad e f)

pub counted_once : (p : Weighing) (chosen : Selection) (old : Sketch) (count : ℕ) (bytes : List ℕ) → p ≡ weighing.Once chosen → (e : Failure) → ((n : ℕ) → FailsLines (weighing.Once chosen) old n bytes e) → FailsLines p old count bytes e
counted_once p chosen old count bytes is e f = subst (λ (q : Weighing). FailsLines q old count bytes e) (sym is) (f count)

-- ---- one line after another

-- the items of the lines before those that are left were added, each of these lines with an item has a weight, and they were counted
pub record HasWeighedLines (chosen : Weighing) (old : Sketch) (n : ℕ) (all left : List (List ℕ)) (new : Sketch) (m : ℕ) : Type 0 where
  pub done : List (List ℕ)
  pub parts : all ≡ done ++ left
  pub added : AddsWeighed old (flat_map (weighed_of_line chosen) done) new
  pub weighed : flat_map (unweighed_of_line chosen) done ≡ []
  pub numbers : GrowsBy n (lines_counted chosen done) m

pub weighed_lines_none : (chosen : Weighing) (old : Sketch) (n : ℕ) (all : List (List ℕ)) → HasWeighedLines chosen old n all all old n
weighed_lines_none chosen old n all = record { done = []; parts = refl; added = weighed_none old; weighed = refl; numbers = omega (arith, none_counted chosen) }

of_more : {B : Type 0} (f : List ℕ → List B) (done : List (List ℕ)) (line : List ℕ) → flat_map f (done ++ line ∷ []) ≡ flat_map f done ++ f line
of_more {B = B} f done line = flat_map-append f done (line ∷ []) ∙ ap (λ (l : List B). flat_map f done ++ l) (append-nil (f line))

-- one more line
pub weighed_lines_more : (chosen : Weighing) (old mid new : Sketch) (n m k : ℕ) (all left later : List (List ℕ)) (line : List ℕ) → HasWeighedLines chosen old n all left mid m → left ≡ line ∷ later → AddsLine chosen mid line new → GrowsBy m (lines_counted chosen (line ∷ [])) k → HasWeighedLines chosen old n all later new k
weighed_lines_more chosen old mid new n m k all left later line so next (more, weighed) grows = record {
  done = so.done ++ line ∷ [];
  parts = so.parts ∙ (ap (λ (l : List (List ℕ)). so.done ++ l) next ∙ sym (append_assoc so.done (line ∷ []) later));
  added =
      subst (λ (l : Weighed). AddsWeighed old l new) (sym (of_more (weighed_of_line chosen) so.done line))
      (weighed_both old mid new (flat_map (weighed_of_line chosen) so.done) (weighed_of_line chosen line) so.added more);
  weighed = of_more (unweighed_of_line chosen) so.done line ∙ (ap (λ (l : List (List ℕ)). l ++ unweighed_of_line chosen line) so.weighed ∙ weighed);
  numbers = omega (arith, so.numbers, grows, counted_append chosen so.done (line ∷ []));
}

-- all lines
pub weighed_lines_all : (chosen : Weighing) (old new : Sketch) (n m : ℕ) (bytes : List ℕ) (left : List (List ℕ)) → HasWeighedLines chosen old n (records_of chosen bytes) left new m → left ≡ [] → AddsLines chosen old bytes new
weighed_lines_all chosen old new n m bytes left so none =
    let whole : so.done ≡ records_of chosen bytes = sym (so.parts ∙ (ap (λ (l : List (List ℕ)). so.done ++ l) none ∙ append-nil so.done)) in (
      subst (λ (l : List (List ℕ)). AddsWeighed old (flat_map (weighed_of_line chosen) l) new) whole so.added,
      ap (flat_map (unweighed_of_line chosen)) (sym whole) ∙ so.weighed,
    )

pub weighed_lines_numbered : (chosen : Weighing) (old new : Sketch) (n m : ℕ) (all left : List (List ℕ)) → HasWeighedLines chosen old n all left new m → left ≡ [] → GrowsBy n (lines_counted chosen all) m
weighed_lines_numbered chosen old new n m all left so none =
    subst (λ (l : List (List ℕ)). GrowsBy n (lines_counted chosen l) m) (sym (so.parts ∙ (ap (λ (l : List (List ℕ)). so.done ++ l) none ∙ append-nil so.done))) so.numbers

-- a failure at one more line
pub weighed_lines_failed : (chosen : Weighing) (old mid : Sketch) (n m number : ℕ) (bytes : List ℕ) (left later : List (List ℕ)) (line : List ℕ) (e : Failure) → HasWeighedLines chosen old n (records_of chosen bytes) left mid m → left ≡ line ∷ later → number ≡ min (m + 1) (2 ^ 64 - 1) → FailsLine chosen mid number line e → FailsLines chosen old n bytes e
weighed_lines_failed chosen old mid n m number bytes left later line e so next is f =
    let items : List ℕ → Weighed = weighed_of_line chosen in
    let First : ℕ → List (List ℕ) → ℕ → Type 0 = λ count rows at. IsFirstUnweighed (lines_counted chosen) (unweighed_of_line chosen) count rows at in
    let parts : records_of chosen bytes ≡ so.done ++ line ∷ later = so.parts ∙ ap (λ (l : List (List ℕ)). so.done ++ l) next in
    let pairs : weighed_of chosen bytes ≡ flat_map items so.done ++ flat_map items (line ∷ later) = ap (flat_map items) parts ∙ flat_map-append items so.done (line ∷ later) in
    subst (λ (l : Weighed). FailsWeighing old l (First n (records_of chosen bytes)) e) (sym pairs)
    (subst (λ (l : List (List ℕ)). FailsWeighing old (flat_map items so.done ++ flat_map items (line ∷ later)) (First n l) e) (sym parts)
    (weighing_fails_after old mid (flat_map items so.done) (flat_map items (line ∷ later)) (First m (line ∷ later)) (First n (so.done ++ line ∷ later))
    (λ at. first_later (lines_counted chosen) (unweighed_of_line chosen) (counted_append chosen) n m at so.done (line ∷ later) so.numbers so.weighed) e so.added
    (weighing_fails_more mid (items line) (flat_map items later) (IsUnweighedAt (unweighed_of_line chosen) line number) (First m (line ∷ later))
    (λ at. first_here (lines_counted chosen) (unweighed_of_line chosen) (none_counted chosen) m number at line later is) e f)))

-- ---- one line

add_zero : (old new : Sketch) (bytes : List ℕ) (weight : ℕ) → nat_lt 0 weight ≡ false → new ≡ old → AddsWeighed old (with_weight (bytes ∷ []) (Some weight)) new
add_zero old new bytes weight zero same =
    subst (λ (b : Bool). AddsWeighed old (cond b ((bytes, weight) ∷ []) []) new) (sym zero) (subst (λ (s : Sketch). AddsWeighed old [] s) (sym same) (weighed_none old))

add_some : (old new : Sketch) (bytes : List ℕ) (weight : ℕ) → nat_lt 0 weight ≡ true → StepsByKey string_eq old (names_string bytes) weight new → ((x : String Global) → IsTrue (names_string bytes x) → Extends string_eq old new (λ h. Update h x weight))
    → ((x : String Global) → IsTrue (names_string bytes x) → ExtendsBudget string_eq old new (λ h. Update h x weight)) → AddsWeighed old (with_weight (bytes ∷ []) (Some weight)) new
add_some old new bytes weight some step stands budget =
    let one : total_of ((bytes, weight) ∷ []) ≡ weight = sum_by-cons (λ (pair : List ℕ × ℕ). pair.1) (bytes, weight) [] ∙ omega arith in
    subst (λ (b : Bool). AddsWeighed old (cond b ((bytes, weight) ∷ []) []) new) (sym some) (record {
      items = (step.item, weight) ∷ [];
      are = ap (λ (l : List ℕ). (l, weight) ∷ []) (sym ((bytes_decides bytes (string_bytes step.item)).0 step.named));
      steps = (new, step_equal old new bytes weight step, refl);
      total = omega (arith, step.step.total, one);
      key = step.step.key;
      stands = stands step.item step.named;
      budget = budget step.item step.named;
    })

total_with : (bytes : List ℕ) (weight : ℕ) → total_of (with_weight (bytes ∷ []) (Some weight)) ≡ weight
total_with bytes weight = ⊎_elim
    (λ some. ap (λ (b : Bool). total_of (cond b ((bytes, weight) ∷ []) [])) (lt-ltb 0 weight some) ∙ (sum_by-cons (λ (pair : List ℕ × ℕ). pair.1) (bytes, weight) [] ∙ omega arith))
    (λ none. ap (λ (b : Bool). total_of (cond b ((bytes, weight) ∷ []) [])) (le-ltb 0 weight none) ∙ omega (arith, none))
    (cases_lt 0 weight)

-- an item with a weight was added, unless the weight is 0
pub item_added : (old new : Sketch) (item : List ℕ) (weight : ℕ) → (weight ≡ 0 → new ≡ old) → (0 < weight → StepsByKey string_eq old (names_string item) weight new) → (0 < weight → (x : String Global) → IsTrue (names_string item x) → Extends string_eq old new (λ h. Update h x weight))
    → (0 < weight → (x : String Global) → IsTrue (names_string item x) → ExtendsBudget string_eq old new (λ h. Update h x weight)) → AddsWeighed old (with_weight (item ∷ []) (Some weight)) new
item_added old new item weight zero step stands budget = ⊎_elim
    (λ some. add_some old new item weight (lt-ltb 0 weight some) (step some) (stands some) (budget some))
    (λ none. add_zero old new item weight (le-ltb 0 weight none) (zero (omega (arith, none))))
    (cases_lt 0 weight)

-- it was not added
pub item_failed : (old : Sketch) (item : List ℕ) (weight : ℕ) (bad : ℕ → Type 0) (e : ErrorValue) → (Overflows old weight → e ≡ invalid_argument WeightOverflow) → (TotalHasRoom old weight → e ≡ no_memory) → FailsWeighing old (with_weight (item ∷ []) (Some weight)) bad (failure_of e.fault)
item_failed old item weight bad e overflow memory = ⊎_elim
    (λ room. rw (memory room) tt)
    (λ full. rw (overflow full) (omega (arith, full, total_with item weight)))
    (cases_lt (old.total + weight) (2 ^ 64))

module _ (part : WeighedPart) (line item : List ℕ) (weight : ℕ) (is : part_of part.item (utf8_lossy line) ≡ item ∷ []) (weighs : line_weight part line ≡ Some weight) where
  of_line : weighed_of_line (weighing.Field part) line ≡ with_weight (item ∷ []) (Some weight)
  of_line = ap (λ (l : List (List ℕ)). with_weight l (line_weight part line)) is ∙ ap (with_weight (item ∷ [])) weighs

  has_weight : unweighed_of_line (weighing.Field part) line ≡ []
  has_weight = ap (without_weight (part_of part.item (utf8_lossy line))) weighs

  pub line_added : (old new : Sketch) → (weight ≡ 0 → new ≡ old) → (0 < weight → StepsByKey string_eq old (names_string item) weight new) → (0 < weight → (x : String Global) → IsTrue (names_string item x) → Extends string_eq old new (λ h. Update h x weight))
      → (0 < weight → (x : String Global) → IsTrue (names_string item x) → ExtendsBudget string_eq old new (λ h. Update h x weight)) → AddsLine (weighing.Field part) old line new
  line_added old new zero step stands budget = (
    subst (λ (l : Weighed). AddsWeighed old l new) (sym of_line)
        (⊎_elim
        (λ some. add_some old new item weight (lt-ltb 0 weight some) (step some) (stands some) (budget some))
        (λ none. add_zero old new item weight (le-ltb 0 weight none) (zero (omega (arith, none))))
        (cases_lt 0 weight)),
    has_weight,
  )

  -- the weight was not added
  pub line_failed : (old : Sketch) (number : ℕ) (e : ErrorValue) → (Overflows old weight → e ≡ invalid_argument WeightOverflow) → (TotalHasRoom old weight → e ≡ no_memory) → FailsLine (weighing.Field part) old number line (failure_of e.fault)
  line_failed old number e overflow memory = ⊎_elim
      (λ room. rw (memory room) tt)
      (λ full. rw (overflow full) (let one : total_of (weighed_of_line (weighing.Field part) line) ≡ weight = ap total_of of_line ∙ total_with item weight in omega (arith, full, one)))
      (cases_lt (old.total + weight) (2 ^ 64))

-- a line has no item
none_with : (weight : Option ℕ) → with_weight [] weight ≡ []
none_with None = refl
none_with (Some weight) = elim (nat_lt 0 weight) as (λ (b : Bool). cond {A = Weighed} b [] [] ≡ []) [ true ↦ refl | false ↦ refl ]

none_without : (weight : Option ℕ) → without_weight [] weight ≡ []
none_without None = refl
none_without (Some weight) = refl

pub line_without_item : (part : WeighedPart) (old : Sketch) (line : List ℕ) → part_of part.item (utf8_lossy line) ≡ [] → AddsLine (weighing.Field part) old line old
line_without_item part old line none = (
  subst (λ (l : Weighed). AddsWeighed old l old) (sym (ap (λ (l : List (List ℕ)). with_weight l (line_weight part line)) none ∙ none_with (line_weight part line))) (weighed_none old),
  ap (λ (l : List (List ℕ)). without_weight l (line_weight part line)) none ∙ none_without (line_weight part line),
)

-- a line has an item and no weight
pub line_without_weight : (part : WeighedPart) (old : Sketch) (number : ℕ) (line item : List ℕ) (e : Failure) → part_of part.item (utf8_lossy line) ≡ item ∷ [] → None ≡ line_weight part line → IsBadWeight number e → FailsLine (weighing.Field part) old number line e
line_without_weight part old number line item Memory is none fails = tt
line_without_weight part old number line item LineTooLong is none fails = absurd fails
line_without_weight part old number line item TooManyItems is none fails = absurd fails
line_without_weight part old number line item BadSize is none fails = absurd fails
line_without_weight part old number line item (failures.BadWeight found) is none fails =
    let one : unweighed_of_line (weighing.Field part) line ≡ item ∷ [] = ap (without_weight (part_of part.item (utf8_lossy line))) (sym none) ∙ is in
    (omega (arith, ap (λ (l : List (List ℕ)). length l) one), fails)
line_without_weight part old number line item (Write error) is none fails = absurd fails

-- ---- one record

-- an item has a weight, and its addition fails
none_bad : (old : Sketch) (pairs : Weighed) (bad : ℕ → Type 0) (e : Failure) → FailsWeighing old pairs (λ _. ⊥) e → FailsWeighing old pairs bad e
none_bad old pairs bad Memory f = tt
none_bad old pairs bad LineTooLong f = f
none_bad old pairs bad TooManyItems f = f
none_bad old pairs bad BadSize f = f
none_bad old pairs bad (failures.BadWeight found) f = absurd f
none_bad old pairs bad (Write error) f = f

module _ (chosen : WeighedRecord) (row item : List ℕ) (is : part_in chosen.item row ≡ item ∷ []) where
  one_item : items_of_record chosen row ≡ utf8_lossy item ∷ []
  one_item = ap (map utf8_lossy) is

  module _ (weight : ℕ) (weighs : Some weight ≡ counted_weight chosen row) where
    of_row : weighed_of_line (weighing.Record chosen) row ≡ with_weight (utf8_lossy item ∷ []) (Some weight)
    of_row = ap (λ (l : List (List ℕ)). with_weight l (counted_weight chosen row)) one_item ∙ ap (with_weight (utf8_lossy item ∷ [])) (sym weighs)

    row_weighed : unweighed_of_line (weighing.Record chosen) row ≡ []
    row_weighed = ap (without_weight (items_of_record chosen row)) (sym weighs)

    pub row_added : (old new : Sketch) → AddsWeighed old (with_weight (utf8_lossy item ∷ []) (Some weight)) new → AddsLine (weighing.Record chosen) old row new
    row_added old new added = (subst (λ (l : Weighed). AddsWeighed old l new) (sym of_row) added, row_weighed)

    pub row_failed : (old : Sketch) (number : ℕ) (e : Failure) → FailsWeighing old (with_weight (utf8_lossy item ∷ []) (Some weight)) (λ _. ⊥) e → FailsLine (weighing.Record chosen) old number row e
    row_failed old number e f =
        subst (λ (l : Weighed). FailsWeighing old l (IsUnweighedAt (unweighed_of_line (weighing.Record chosen)) row number) e) (sym of_row)
        (none_bad old (with_weight (utf8_lossy item ∷ []) (Some weight)) (IsUnweighedAt (unweighed_of_line (weighing.Record chosen)) row number) e f)

  -- a record has an item and no weight
  pub row_without_weight : (old : Sketch) (number : ℕ) (e : Failure) → None ≡ counted_weight chosen row → IsBadWeight number e → FailsLine (weighing.Record chosen) old number row e
  row_without_weight old number Memory none fails = tt
  row_without_weight old number LineTooLong none fails = absurd fails
  row_without_weight old number TooManyItems none fails = absurd fails
  row_without_weight old number BadSize none fails = absurd fails
  row_without_weight old number (failures.BadWeight found) none fails =
      let one : unweighed_of_line (weighing.Record chosen) row ≡ utf8_lossy item ∷ [] = ap (without_weight (items_of_record chosen row)) (sym none) ∙ one_item in
      (omega (arith, ap (λ (l : List (List ℕ)). length l) one), fails)
  row_without_weight old number (Write error) none fails = absurd fails

-- a record has no item
pub row_without_item : (chosen : WeighedRecord) (old : Sketch) (row : List ℕ) → part_in chosen.item row ≡ [] → AddsLine (weighing.Record chosen) old row old
row_without_item chosen old row none =
    let items : items_of_record chosen row ≡ [] = ap (map utf8_lossy) none in (
      subst (λ (l : Weighed). AddsWeighed old l old) (sym (ap (λ (l : List (List ℕ)). with_weight l (counted_weight chosen row)) items ∙ none_with (counted_weight chosen row))) (weighed_none old),
      ap (λ (l : List (List ℕ)). without_weight l (counted_weight chosen row)) items ∙ none_without (counted_weight chosen row),
    )
