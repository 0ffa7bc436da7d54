-- Strings that are added one after another, and the items of lines.
use Rattle.std.proofs.Common.{◌≡◌, ⊎_elim, ℕ, ◌+◌, ◌^◌, ◌<◌, Bool, List, [], ◌∷◌, ◌++◌, length, map, append_assoc, append-nil, refl, sym, ◌∙◌, ap, subst, arith, length-append}
use Rattle.std.proofs.lemmas.Bool.{cases_lt}
use Rattle.std.proofs.lemmas.List.{length-map}
use Rattle.std.proofs.lemmas.List.Concat.{flat_map-append}
use Rattle.std.specs.Cmp.Lexicographic.{bytes_decides}
use Rattle.std.specs.Global.{Global}
use Rattle.std.specs.List.{flat_map}
use Rattle.std.specs.Prelude.{IsTrue}
use Rattle.std.specs.String.{string_bytes, string_eq}
use Rattle.std.specs.declared.string.String.{String}
use Rattle.counter_table.specs.StringKeys.{names_string}
use Rattle.sketch_base.specs.Errors.{ErrorValue, invalid_argument, no_memory}
use Rattle.sketch_base.specs.declared.fault.Fault.TheVariants.{WeightOverflow}
use Rattle.sketch_frequencies.specs.Batches.{StepsEqualAlong}
use Rattle.sketch_frequencies.specs.History.FrequentHistory.{Update}
use Rattle.sketch_frequencies.specs.KeyedBatches.{AreNamed, StopsAtKey, UpdatesKeys}
use Rattle.sketch_frequencies.specs.Stands.{Extends, ExtendsBudget}
use Rattle.sketch_frequencies.specs.State.{Overflows, TotalHasRoom}
use Rattle.sketch_frequencies.specs.Steps.{StepsByKey, StepsEqual}
use Rattle.sketches.specs.Added.{Sketch, AddsStrings}
use Rattle.sketches.specs.AddingLaws.{strings_none, strings_both, fails_more, fails_after}
use Rattle.sketches.specs.Failures.{FailsAdding}
use Rattle.sketches.specs.Faults.{failure_of}
use Rattle.sketches.specs.Items.{items_of_raw_line}
use Rattle.sketches.specs.declared.failure.Failure.{Failure}
use Rattle.sketches.specs.declared.item.selection.Selection.{Selection}

-- ---- one string, and many in one call

-- a step at an item that a string names is one at an item equal to it
pub step_equal : (old new : Sketch) (bytes : List ℕ) (w : ℕ) (step : StepsByKey string_eq old (names_string bytes) w new) → StepsEqual string_eq old step.item w new
step_equal old new bytes w step = record { item = step.item; named = (bytes_decides (string_bytes step.item) (string_bytes step.item)).1 refl; step = step.step }

pub one_added : (old new : Sketch) (bytes : List ℕ) → StepsByKey string_eq old (names_string bytes) 1 new → ((x : String Global) → IsTrue (names_string bytes x) → Extends string_eq old new (λ h. Update h x 1))
    → ((x : String Global) → IsTrue (names_string bytes x) → ExtendsBudget string_eq old new (λ h. Update h x 1)) → AddsStrings old (bytes ∷ []) new
one_added old new bytes step stands budget = record {
  items = step.item ∷ [];
  are = ap (λ (l : List ℕ). l ∷ []) (sym ((bytes_decides bytes (string_bytes step.item)).0 step.named));
  steps = (new, step_equal old new bytes 1 step, refl);
  total = step.step.total;
  key = step.step.key;
  stands = stands step.item step.named;
  budget = budget step.item step.named;
}

-- an update of one string fails
pub one_failed : (old : Sketch) (strings : List (List ℕ)) (e : ErrorValue) → 0 < length strings → (Overflows old 1 → e ≡ invalid_argument WeightOverflow) → (TotalHasRoom old 1 → e ≡ no_memory) → FailsAdding old strings (failure_of e.fault)
one_failed old strings e some overflow memory = ⊎_elim
    (λ room. rw (memory room) tt)
    (λ full. rw (overflow full) (omega (arith, full, some)))
    (cases_lt (old.total + 1) (2 ^ 64))

named_are : (strings : List (List ℕ)) (items : List (String Global)) → AreNamed (map names_string strings) items → map string_bytes items ≡ strings
named_are [] [] named = refl
named_are [] (x ∷ xs) named = absurd named
named_are (s ∷ strings) [] named = absurd named
named_are (s ∷ strings) (x ∷ xs) named =
    ap (λ (l : List ℕ). l ∷ map string_bytes xs) (sym ((bytes_decides s (string_bytes x)).0 named.0)) ∙ ap (λ l. s ∷ l) (named_are strings xs named.1)

-- the total grows by the number of items
total_along : (old new : Sketch) (items : List (String Global)) → StepsEqualAlong string_eq old items new → new.total ≡ old.total + length items
total_along old new [] same = ap (λ (s : Sketch). s.total) same ∙ omega arith
total_along old new (x ∷ xs) (mid, one, rest) = omega (arith, one.step.total, total_along mid new xs rest)

-- the key stays
key_along : (old new : Sketch) (items : List (String Global)) → StepsEqualAlong string_eq old items new → new.key ≡ old.key
key_along old new [] same = ap (λ (s : Sketch). s.key) same
key_along old new (x ∷ xs) (mid, one, rest) = key_along mid new xs rest ∙ one.step.key

pub keys_added : (old new : Sketch) (strings : List (List ℕ)) → UpdatesKeys string_eq old (map names_string strings) new → AddsStrings old strings new
keys_added old new strings keys =
    let updates = keys.updates keys.some.0 keys.some.1 in
    let are = named_are strings keys.some.0 keys.some.1 in
    record {
      items = keys.some.0;
      are = are;
      steps = updates.steps;
      total = omega (arith, total_along old new keys.some.0 updates.steps, length-map keys.some.0 string_bytes, ap (λ (l : List (List ℕ)). length l) are);
      key = key_along old new keys.some.0 updates.steps;
      stands = updates.stands;
      budget = updates.budget;
    }

named_length : (keys : List (String Global → Bool)) (items : List (String Global)) → AreNamed keys items → length items ≡ length keys
named_length [] [] named = refl
named_length [] (x ∷ xs) named = absurd named
named_length (k ∷ keys) [] named = absurd named
named_length (k ∷ keys) (x ∷ xs) named = omega (arith, named_length keys xs named.1)

-- an update of many strings fails
pub keys_failed : (old new : Sketch) (strings : List (List ℕ)) (e : ErrorValue) → StopsAtKey string_eq old (map names_string strings) e new → FailsAdding old strings (failure_of e.fault)
keys_failed old new strings e stops =
    let before = stops.added.some in
    let total : new.total ≡ old.total + length before.0 = total_along old new before.0 (stops.added.updates before.0 before.1).steps in
    let count : length (map names_string strings) ≡ length stops.before + length (stops.refused ∷ stops.behind) = ap (λ (l : List (String Global → Bool)). length l) stops.parts ∙ length-append stops.before (stops.refused ∷ stops.behind) in
    ⊎_elim
    (λ room. rw (stops.memory room).0 tt)
    (λ full. rw (stops.overflow full) (omega (arith, full, total, count, named_length stops.before before.0 before.1, length-map strings names_string)))
    (cases_lt (new.total + 1) (2 ^ 64))

-- ---- the items of lines

-- the items of the lines before those that are left were added
pub record HasAddedLines (chosen : Selection) (old : Sketch) (all left : List (List ℕ)) (new : Sketch) : Type 0 where
  pub done : List (List ℕ)
  pub parts : all ≡ done ++ left
  pub added : AddsStrings old (flat_map (items_of_raw_line chosen) done) new

pub lines_none : (chosen : Selection) (old : Sketch) (all : List (List ℕ)) → HasAddedLines chosen old all all old
lines_none chosen old all = record { done = []; parts = refl; added = strings_none old }

-- one more line
pub lines_more : (chosen : Selection) (old mid new : Sketch) (all left later : List (List ℕ)) (line : List ℕ) → HasAddedLines chosen old all left mid → left ≡ line ∷ later → AddsStrings mid (items_of_raw_line chosen line) new → HasAddedLines chosen old all later new
lines_more chosen old mid new all left later line so next more = record {
  done = so.done ++ line ∷ [];
  parts = so.parts ∙ (ap (λ l. so.done ++ l) next ∙ sym (append_assoc so.done (line ∷ []) later));
  added =
      subst (λ l. AddsStrings old l new) (sym (flat_map-append (items_of_raw_line chosen) so.done (line ∷ []) ∙ ap (λ l. flat_map (items_of_raw_line chosen) so.done ++ l) (append-nil (items_of_raw_line chosen line))))
      (strings_both old mid new (flat_map (items_of_raw_line chosen) so.done) (items_of_raw_line chosen line) so.added more);
}

-- all lines
pub lines_all : (chosen : Selection) (old new : Sketch) (all left : List (List ℕ)) → HasAddedLines chosen old all left new → left ≡ [] → AddsStrings old (flat_map (items_of_raw_line chosen) all) new
lines_all chosen old new all left so none =
    subst (λ l. AddsStrings old (flat_map (items_of_raw_line chosen) l) new) (sym (so.parts ∙ (ap (λ l. so.done ++ l) none ∙ append-nil so.done))) so.added

-- a failure at one more line
pub lines_failed : (chosen : Selection) (old mid : Sketch) (all left later : List (List ℕ)) (line : List ℕ) (e : Failure) → HasAddedLines chosen old all left mid → left ≡ line ∷ later → FailsAdding mid (items_of_raw_line chosen line) e → FailsAdding old (flat_map (items_of_raw_line chosen) all) e
lines_failed chosen old mid all left later line e so next f =
    let items : List ℕ → List (List ℕ) = items_of_raw_line chosen in
    subst (λ l. FailsAdding old l e) (sym (ap (flat_map items) (so.parts ∙ ap (λ l. so.done ++ l) next) ∙ flat_map-append items so.done (line ∷ later)))
    (fails_after old mid (flat_map items so.done) (flat_map items (line ∷ later)) e so.added (fails_more mid (items line) (flat_map items later) e f))
