-- The laws of weights that are added one after another, and of the weighed items of lines.
use Rattle.std.proofs.Common.{◌≡◌, ℕ, ◌+◌, List, [], ◌∷◌, ◌++◌, map, refl, sym, ◌∙◌, ap, subst, arith}
use Rattle.std.proofs.lemmas.List.{map-append}
use Rattle.std.proofs.lemmas.List.Concat.{flat_map-append}
use Rattle.std.proofs.lemmas.List.Sums.{sum_by-append}
use Rattle.std.specs.Global.{Global}
use Rattle.std.specs.List.{flat_map}
use Rattle.std.specs.String.{string_bytes, string_eq}
use Rattle.std.specs.declared.string.String.{String}
use Rattle.sketch_frequencies.specs.History.{FrequentHistory}
use Rattle.sketch_frequencies.specs.History.FrequentHistory.{Update}
use Rattle.sketch_frequencies.specs.Stands.{StandsFor, KeepsTailBudget}
use Rattle.sketch_frequencies.specs.WeightedBatches.{StepsEqualWeighed, all_weighed}
use Rattle.sketches.specs.Added.{Sketch, AddsLines, AddsWeighed}
use Rattle.sketch_text.specs.Records.{splits_by}
use Rattle.sketches.specs.AddingLaws.{no_records, records_both}
use Rattle.sketches.specs.Failures.{FailsLines, FailsWeighing}
use Rattle.sketches.specs.LineNumberLaws.{counted_append, first_later, first_sooner}
use Rattle.sketches.specs.LineNumbers.{IsFirstUnweighed, lines_counted}
use Rattle.sketches.specs.Reading.{AreWholeRecords}
use Rattle.sketches.specs.Utf8Lines.{GrowsBy}
use Rattle.sketches.specs.Weighed.{Weighed, records_of, splits_of, total_of, unweighed_of, unweighed_of_line, weighed_of, weighed_of_line}
use Rattle.sketches.specs.declared.failure.Failure.{Failure}
use Rattle.sketches.specs.declared.failure.Failure.TheVariants.{Memory, LineTooLong, TooManyItems, BadSize, BadWeight, Write}
use Rattle.sketches.specs.declared.item.weighing.Weighing.{Weighing}
use Rattle.sketches.specs.declared.item.weighing.Weighing.TheVariants as weighing

-- ---- weights

updated_both : {T : Type 0} (h : FrequentHistory T) (xs ys : List (T × ℕ)) → all_weighed h (xs ++ ys) ≡ all_weighed (all_weighed h xs) ys
updated_both h [] ys = refl
updated_both h (x ∷ xs) ys = updated_both (Update h x.0 x.1) xs ys

pub total_both : (xs ys : Weighed) → total_of (xs ++ ys) ≡ total_of xs + total_of ys
total_both xs ys = sum_by-append (λ (pair : List ℕ × ℕ). pair.1) xs ys

abbrev named : String Global × ℕ → List ℕ × ℕ
named pair = (string_bytes pair.0, pair.1)

-- the steps of items, and of those after them
steps_both : (a b c : Sketch) (xs ys : List (String Global × ℕ)) → StepsEqualWeighed string_eq a xs b → StepsEqualWeighed string_eq b ys c → StepsEqualWeighed string_eq a (xs ++ ys) c
steps_both a b c [] ys same more = subst (λ (s : Sketch). StepsEqualWeighed string_eq s ys c) same more
steps_both a b c (x ∷ xs) ys (mid, one, rest) more = (mid, one, steps_both mid b c xs ys rest more)

pub weighed_none : (a : Sketch) → AddsWeighed a [] a
weighed_none a = record { items = []; are = refl; steps = refl; total = let none : total_of [] ≡ 0 = refl in omega (arith, none); key = refl; stands = λ h s. s; budget = λ h s k. k }

pub weighed_both : (a b c : Sketch) (xs ys : Weighed) → AddsWeighed a xs b → AddsWeighed b ys c → AddsWeighed a (xs ++ ys) c
weighed_both a b c xs ys s t = record {
  items = s.items ++ t.items;
  are = map-append named s.items t.items ∙ (ap (λ (l : Weighed). l ++ map named t.items) s.are ∙ ap (λ (l : Weighed). xs ++ l) t.are);
  steps = steps_both a b c s.items t.items s.steps t.steps;
  total = omega (arith, s.total, t.total, total_both xs ys);
  key = t.key ∙ s.key;
  stands = λ h k. subst (λ (g : FrequentHistory (String Global)). StandsFor string_eq c g) (sym (updated_both h s.items t.items)) (t.stands (all_weighed h s.items) (s.stands h k));
  budget = λ h k q. subst (λ (g : FrequentHistory (String Global)). KeepsTailBudget string_eq c g) (sym (updated_both h s.items t.items)) (t.budget (all_weighed h s.items) (s.stands h k) (s.budget h k q));
}

-- a failure may come if more items follow
pub weighing_fails_more : (a : Sketch) (xs ys : Weighed) (bad worse : ℕ → Type 0) → ((line : ℕ) → bad line → worse line) → (e : Failure) → FailsWeighing a xs bad e → FailsWeighing a (xs ++ ys) worse e
weighing_fails_more a xs ys bad worse more Memory f = tt
weighing_fails_more a xs ys bad worse more LineTooLong f = f
weighing_fails_more a xs ys bad worse more TooManyItems f = omega (arith, f, total_both xs ys)
weighing_fails_more a xs ys bad worse more BadSize f = f
weighing_fails_more a xs ys bad worse more (BadWeight found) f = more found.line f
weighing_fails_more a xs ys bad worse more (Write error) f = f

-- a failure may come if more items are added before
pub weighing_fails_after : (a b : Sketch) (xs ys : Weighed) (bad worse : ℕ → Type 0) → ((line : ℕ) → bad line → worse line) → (e : Failure) → AddsWeighed a xs b → FailsWeighing b ys bad e → FailsWeighing a (xs ++ ys) worse e
weighing_fails_after a b xs ys bad worse more Memory s f = tt
weighing_fails_after a b xs ys bad worse more LineTooLong s f = f
weighing_fails_after a b xs ys bad worse more TooManyItems s f = omega (arith, f, s.total, total_both xs ys)
weighing_fails_after a b xs ys bad worse more BadSize s f = f
weighing_fails_after a b xs ys bad worse more (BadWeight found) s f = more found.line f
weighing_fails_after a b xs ys bad worse more (Write error) s f = f

-- ---- the items of records

-- no records
pub lines_added_none : (chosen : Weighing) (a : Sketch) → AddsLines chosen a [] a
lines_added_none (weighing.Once selection) a = (weighed_none a, refl)
lines_added_none (weighing.Field part) a = (weighed_none a, refl)
lines_added_none (weighing.Record chosen) a = rw (no_records (splits_by chosen.item)) (weighed_none a, refl)

-- the items of whole records and of the bytes after them
pub weighed_append : (chosen : Weighing) (read more : List ℕ) → AreWholeRecords (splits_of chosen) read → weighed_of chosen (read ++ more) ≡ weighed_of chosen read ++ weighed_of chosen more
weighed_append chosen read more whole = ap (flat_map (weighed_of_line chosen)) (records_both (splits_of chosen) read more whole) ∙ flat_map-append (weighed_of_line chosen) (records_of chosen read) (records_of chosen more)

pub unweighed_append : (chosen : Weighing) (read more : List ℕ) → AreWholeRecords (splits_of chosen) read → unweighed_of chosen (read ++ more) ≡ unweighed_of chosen read ++ unweighed_of chosen more
unweighed_append chosen read more whole = ap (flat_map (unweighed_of_line chosen)) (records_both (splits_of chosen) read more whole) ∙ flat_map-append (unweighed_of_line chosen) (records_of chosen read) (records_of chosen more)

module _ (p : Weighing) (xs ys : List ℕ) (whole : AreWholeRecords (splits_of p) xs) where
  pub lines_added_both : (a b c : Sketch) (q r : Weighing) → AddsLines p a xs b × (q ≡ p) → AddsLines q b ys c × (r ≡ q) → AddsLines p a (xs ++ ys) c × (r ≡ p)
  lines_added_both a b c q r (first, same) (second, same') =
      let (added, weighed) = subst (λ (s : Weighing). AddsLines s b ys c) same second in (
        (
          subst (λ (l : Weighed). AddsWeighed a l c) (sym (weighed_append p xs ys whole)) (weighed_both a b c (weighed_of p xs) (weighed_of p ys) first.0 added),
          unweighed_append p xs ys whole ∙ (ap (λ (l : List (List ℕ)). l ++ unweighed_of p ys) first.1 ∙ weighed),
        ),
        same' ∙ same,
      )

  -- the first record without a weight, among these records
  abbrev IsFirst : (count : ℕ) → List (List ℕ) → (line : ℕ) → Type 0
  IsFirst count rows line = IsFirstUnweighed (lines_counted p) (unweighed_of_line p) count rows line

  both_lists : (a : Sketch) (n : ℕ) (e : Failure) → FailsWeighing a (weighed_of p xs ++ weighed_of p ys) (IsFirst n (records_of p xs ++ records_of p ys)) e → FailsLines p a n (xs ++ ys) e
  both_lists a n e f =
      subst (λ (l : Weighed). FailsWeighing a l (IsFirst n (records_of p (xs ++ ys))) e) (sym (weighed_append p xs ys whole))
      (subst (λ (l : List (List ℕ)). FailsWeighing a (weighed_of p xs ++ weighed_of p ys) (IsFirst n l) e) (sym (records_both (splits_of p) xs ys whole)) f)

  pub lines_fail_sooner : (a : Sketch) (n : ℕ) (e : Failure) → FailsLines p a n xs e → FailsLines p a n (xs ++ ys) e
  lines_fail_sooner a n e f =
      both_lists a n e
      (weighing_fails_more a (weighed_of p xs) (weighed_of p ys) (IsFirst n (records_of p xs)) (IsFirst n (records_of p xs ++ records_of p ys))
      (λ line. first_sooner (lines_counted p) (unweighed_of_line p) n line (records_of p xs) (records_of p ys)) e f)

  pub lines_fail_later : (a b : Sketch) (n m : ℕ) (q : Weighing) (e : Failure) → AddsLines p a xs b × (q ≡ p) → GrowsBy n (lines_counted p (records_of p xs)) m → FailsLines q b m ys e → FailsLines p a n (xs ++ ys) e
  lines_fail_later a b n m q e (first, same) grows f =
      both_lists a n e
      (weighing_fails_after a b (weighed_of p xs) (weighed_of p ys) (IsFirst m (records_of p ys)) (IsFirst n (records_of p xs ++ records_of p ys))
      (λ line. first_later (lines_counted p) (unweighed_of_line p) (counted_append p) n m line (records_of p xs) (records_of p ys) grows first.1) e first.0
      (subst (λ (s : Weighing). FailsLines s b m ys e) same f))
