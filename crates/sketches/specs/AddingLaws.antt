-- The laws of strings that are added one after another, and of lines.
use Rattle.std.proofs.Common.{◌≡◌, ℕ, List, [], ◌∷◌, ◌++◌, length, map, drop, refl, sym, ◌∙◌, ap, subst, arith, length-append}
use Rattle.std.proofs.lemmas.Bool.{eq-eqb}
use Rattle.std.proofs.lemmas.List.{map-append, take_all, drop_all}
use Rattle.std.specs.Global.{Global}
use Rattle.std.specs.Str.Lines.{lines}
use Rattle.std.specs.String.{string_bytes, string_eq}
use Rattle.std.specs.declared.string.String.{String}
use Rattle.sketch_base.specs.Split.{IsBehindLast, separates}
use Rattle.sketch_base.specs.declared.separator.Separator.TheVariants.{LineFeed}
use Rattle.sketch_base.proofs.SplitEnds.{lines_split, none_behind_end}
use Rattle.sketch_text.proofs.CsvBoth.{csv_both}
use Rattle.sketch_frequencies.specs.Batches.{StepsEqualAlong, all_updated}
use Rattle.sketch_frequencies.specs.History.{FrequentHistory}
use Rattle.sketch_frequencies.specs.History.FrequentHistory.{Update}
use Rattle.sketch_frequencies.specs.Stands.{StandsFor, KeepsTailBudget}
use Rattle.sketches.specs.Added.{Sketch, AddsStrings}
use Rattle.sketches.specs.Failures.{FailsAdding}
use Rattle.sketches.specs.Reading.{AreWholeLines, AreWholeRecords}
use Rattle.sketch_text.specs.Records.{records_in}
use Rattle.sketch_text.specs.declared.records.Records.{Records}
use Rattle.sketch_text.specs.declared.records.Records.TheVariants.{Lines, Csv}
use Rattle.sketches.specs.declared.failure.Failure.{Failure}
use Rattle.sketches.specs.declared.failure.Failure.TheVariants.{Memory, LineTooLong, TooManyItems, BadSize, BadWeight, Write}

updated_both : {T : Type 0} (h : FrequentHistory T) (xs ys : List T) → all_updated h (xs ++ ys) ≡ all_updated (all_updated h xs) ys
updated_both h [] ys = refl
updated_both h (x ∷ xs) ys = updated_both (Update h x 1) xs ys

-- the steps of items, and of those after them
steps_both : (a b c : Sketch) (xs ys : List (String Global)) → StepsEqualAlong string_eq a xs b → StepsEqualAlong string_eq b ys c → StepsEqualAlong string_eq a (xs ++ ys) c
steps_both a b c [] ys same more = subst (λ (s : Sketch). StepsEqualAlong string_eq s ys c) same more
steps_both a b c (x ∷ xs) ys (mid, one, rest) more = (mid, one, steps_both mid b c xs ys rest more)

pub strings_none : (a : Sketch) → AddsStrings a [] a
strings_none a = record { items = []; are = refl; steps = refl; total = omega arith; key = refl; stands = λ h s. s; budget = λ h s k. k }

pub strings_both : (a b c : Sketch) (xs ys : List (List ℕ)) → AddsStrings a xs b → AddsStrings b ys c → AddsStrings a (xs ++ ys) c
strings_both a b c xs ys s t = record {
  items = s.items ++ t.items;
  are = map-append string_bytes s.items t.items ∙ (ap (λ l. l ++ map string_bytes t.items) s.are ∙ ap (λ l. xs ++ l) t.are);
  steps = steps_both a b c s.items t.items s.steps t.steps;
  total = omega (arith, s.total, t.total, length-append xs ys);
  key = t.key ∙ s.key;
  stands = λ h k. subst (λ (g : FrequentHistory (String Global)). StandsFor string_eq c g) (sym (updated_both h s.items t.items)) (t.stands (all_updated h s.items) (s.stands h k));
  budget = λ h k q. subst (λ (g : FrequentHistory (String Global)). KeepsTailBudget string_eq c g) (sym (updated_both h s.items t.items)) (t.budget (all_updated h s.items) (s.stands h k) (s.budget h k q));
}

-- a failure may come if more strings follow
pub fails_more : (a : Sketch) (xs ys : List (List ℕ)) (e : Failure) → FailsAdding a xs e → FailsAdding a (xs ++ ys) e
fails_more a xs ys Memory f = tt
fails_more a xs ys LineTooLong f = f
fails_more a xs ys TooManyItems f = omega (arith, f, length-append xs ys)
fails_more a xs ys BadSize f = f
fails_more a xs ys (BadWeight found) f = f
fails_more a xs ys (Write error) f = f

-- a failure may come if more strings are added before
pub fails_after : (a b : Sketch) (xs ys : List (List ℕ)) (e : Failure) → AddsStrings a xs b → FailsAdding b ys e → FailsAdding a (xs ++ ys) e
fails_after a b xs ys Memory s f = tt
fails_after a b xs ys LineTooLong s f = f
fails_after a b xs ys TooManyItems s f = omega (arith, f, s.total, length-append xs ys)
fails_after a b xs ys BadSize s f = f
fails_after a b xs ys (BadWeight found) s f = f
fails_after a b xs ys (Write error) s f = f

-- ---- lines

pub ends_behind_feed : (bytes : List ℕ) → AreWholeLines bytes → IsBehindLast (separates LineFeed) bytes (length bytes)
ends_behind_feed bytes whole = (λ some. eq-eqb _ 10 (whole some), none_behind_end (separates LineFeed) bytes)

-- the lines of whole lines and of the bytes after them
pub lines_both : (read more : List ℕ) → AreWholeLines read → lines (read ++ more) ≡ lines read ++ lines more
lines_both read more whole =
    lines_split read (length read) (omega arith) (ends_behind_feed read whole) more
    ∙ (ap (λ l. lines l ++ lines (drop (length read) read ++ more)) (take_all (length read) read (omega arith))
    ∙ ap (λ l. lines read ++ lines (l ++ more)) (drop_all (length read) read (omega arith)))

-- ---- records

pub no_records : (records : Records) → records_in records [] ≡ []
no_records Lines = refl
no_records (Csv delimiter) = refl

-- the records of whole records and of the bytes after them
pub records_both : (records : Records) (read more : List ℕ) → AreWholeRecords records read → records_in records (read ++ more) ≡ records_in records read ++ records_in records more
records_both Lines read more whole = lines_both read more whole
records_both (Csv delimiter) [] more whole = refl
records_both (Csv delimiter) (x ∷ read) more whole = csv_both delimiter (x ∷ read) more (whole (omega arith))
