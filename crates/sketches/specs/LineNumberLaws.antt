-- The laws of the numbers of lines.
use Rattle.std.proofs.Common.{◌≡◌, ℕ, ◌+◌, ◌-◌, ◌^◌, List, [], ◌∷◌, ◌++◌, min, append_assoc, refl, sym, ◌∙◌, ap, arith}
use Rattle.std.proofs.lemmas.List.Concat.{flat_map-append}
use Rattle.std.proofs.lemmas.List.Sums.{sum_by-append}
use Rattle.std.specs.List.{flat_map}
use Rattle.sketches.specs.AddingLaws.{no_records, records_both}
use Rattle.sketches.specs.LineNumbers.{IsFirstUnweighed, IsUnweighedAt, lines_counted, lines_of, lines_of_row}
use Rattle.sketches.specs.Reading.{AreWholeRecords}
use Rattle.sketches.specs.Utf8Lines.{GrowsBy}
use Rattle.sketches.specs.Weighed.{records_of, splits_of}
use Rattle.sketch_text.specs.Records.{records_by, splits_by}
use Rattle.sketch_text.specs.declared.records.Records.{Records}
use Rattle.sketch_text.specs.declared.records.Records.TheVariants.{Lines}
use Rattle.sketches.specs.declared.item.weighing.WeighedRecord.{WeighedRecord}
use Rattle.sketches.specs.declared.item.weighing.Weighing.{Weighing}
use Rattle.sketches.specs.declared.item.weighing.Weighing.TheVariants as weighing

pub lines_append : (splits : Records) (xs ys : List (List ℕ)) → lines_of splits (xs ++ ys) ≡ lines_of splits xs + lines_of splits ys
lines_append splits xs ys = sum_by-append (lines_of_row splits) xs ys

pub counted_append : (chosen : Weighing) (xs ys : List (List ℕ)) → lines_counted chosen (xs ++ ys) ≡ lines_counted chosen xs + lines_counted chosen ys
counted_append (weighing.Once selection) xs ys = refl
counted_append (weighing.Field part) xs ys = lines_append Lines xs ys
counted_append (weighing.Record chosen) xs ys = lines_append (splits_by chosen.item) xs ys

pub none_counted : (chosen : Weighing) → lines_counted chosen [] ≡ 0
none_counted (weighing.Once selection) = refl
none_counted (weighing.Field part) = refl
none_counted (weighing.Record chosen) = refl

pub numbers_none : (chosen : Weighing) (a : ℕ) → GrowsBy a (lines_counted chosen (records_of chosen [])) a
numbers_none chosen a =
    let none : lines_counted chosen (records_of chosen []) ≡ 0 = ap (lines_counted chosen) (no_records (splits_of chosen)) ∙ none_counted chosen in
    omega (arith, none)

-- whole records and the records after them
pub numbers_both : (chosen : Weighing) (xs ys : List ℕ) → AreWholeRecords (splits_of chosen) xs → (a b c : ℕ) (next : Weighing) → next ≡ chosen → GrowsBy a (lines_counted chosen (records_of chosen xs)) b → GrowsBy b (lines_counted next (records_of next ys)) c → GrowsBy a (lines_counted chosen (records_of chosen (xs ++ ys))) c
numbers_both chosen xs ys whole a b c next same first second =
    let both : lines_counted chosen (records_of chosen (xs ++ ys)) ≡ lines_counted chosen (records_of chosen xs) + lines_counted chosen (records_of chosen ys) =
    ap (lines_counted chosen) (records_both (splits_of chosen) xs ys whole) ∙ counted_append chosen (records_of chosen xs) (records_of chosen ys) in
    let later : lines_counted next (records_of next ys) ≡ lines_counted chosen (records_of chosen ys) = ap (λ (p : Weighing). lines_counted p (records_of p ys)) same in
    omega (arith, both, later, first, second)

-- the same of records whose weights any part has
pub row_numbers_none : (chosen : WeighedRecord) (a : ℕ) → GrowsBy a (lines_of (splits_by chosen.item) (records_by chosen.item [])) a
row_numbers_none chosen a = numbers_none (weighing.Record chosen) a

pub row_numbers_both : (chosen : WeighedRecord) (xs ys : List ℕ) → AreWholeRecords (splits_by chosen.item) xs → (a b c : ℕ) (next : WeighedRecord) → next ≡ chosen → GrowsBy a (lines_of (splits_by chosen.item) (records_by chosen.item xs)) b → GrowsBy b (lines_of (splits_by next.item) (records_by next.item ys)) c → GrowsBy a (lines_of (splits_by chosen.item) (records_by chosen.item (xs ++ ys))) c
row_numbers_both chosen xs ys whole a b c next same first second = numbers_both (weighing.Record chosen) xs ys whole a b c (weighing.Record next) (ap (λ (p : WeighedRecord). weighing.Record p) same) first second

-- ---- the first record without a weight

module _ (lines : List (List ℕ) → ℕ) (unweighed : List ℕ → List (List ℕ)) where
  -- more records may follow
  pub first_sooner : (count line : ℕ) (xs ys : List (List ℕ)) → IsFirstUnweighed lines unweighed count xs line → IsFirstUnweighed lines unweighed count (xs ++ ys) line
  first_sooner count line xs ys f = record {
    earlier = f.earlier;
    row = f.row;
    later = f.later ++ ys;
    parts = ap (λ (l : List (List ℕ)). l ++ ys) f.parts ∙ append_assoc f.earlier (f.row ∷ f.later) ys;
    weighed = f.weighed;
    without = f.without;
    number = f.number;
  }

  -- records with weights may come before
  pub first_later : ((xs ys : List (List ℕ)) → lines (xs ++ ys) ≡ lines xs + lines ys) → (a b line : ℕ) (xs ys : List (List ℕ)) → GrowsBy a (lines xs) b → flat_map unweighed xs ≡ [] → IsFirstUnweighed lines unweighed b ys line → IsFirstUnweighed lines unweighed a (xs ++ ys) line
  first_later both a b line xs ys grows weighed f = record {
    earlier = xs ++ f.earlier;
    row = f.row;
    later = f.later;
    parts = ap (λ (l : List (List ℕ)). xs ++ l) f.parts ∙ sym (append_assoc xs f.earlier (f.row ∷ f.later));
    weighed = flat_map-append unweighed xs f.earlier ∙ (ap (λ (l : List (List ℕ)). l ++ flat_map unweighed f.earlier) weighed ∙ f.weighed);
    without = f.without;
    number = omega (arith, f.number, grows, both xs f.earlier);
  }

  -- the first of records
  pub first_here : lines [] ≡ 0 → (count number line : ℕ) (row : List ℕ) (later : List (List ℕ)) → number ≡ min (count + 1) (2 ^ 64 - 1) → IsUnweighedAt unweighed row number line → IsFirstUnweighed lines unweighed count (row ∷ later) line
  first_here none count number line row later is (without, at) = record {
    earlier = [];
    row = row;
    later = later;
    parts = refl;
    weighed = refl;
    without = without;
    number = omega (arith, at, is, none);
  }
