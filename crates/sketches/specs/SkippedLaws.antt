-- The laws of the number of records that have an item and no weight, and whose weight is 0.
use Rattle.std.proofs.Common.{◌≡◌, ℕ, ◌+◌, List, [], ◌++◌, refl, ◌∙◌, ap, arith}
use Rattle.std.proofs.lemmas.List.Sums.{sum_by-append}
use Rattle.sketches.specs.AddingLaws.{no_records, records_both}
use Rattle.sketches.specs.Reading.{AreWholeRecords}
use Rattle.sketch_text.specs.Records.{records_by, splits_by}
use Rattle.sketches.specs.Skipped.{skipped_in, skipped_rows, skips_line, skips_row}
use Rattle.sketches.specs.Utf8Lines.{GrowsBy}
use Rattle.sketches.specs.Weighed.{records_of, splits_of}
use Rattle.sketches.specs.declared.item.weighing.WeighedRecord.{WeighedRecord}
use Rattle.sketches.specs.declared.item.weighing.Weighing.{Weighing}
use Rattle.sketches.specs.declared.item.weighing.Weighing.TheVariants as weighing

pub skipped_append : (chosen : Weighing) (xs ys : List (List ℕ)) → skipped_in chosen (xs ++ ys) ≡ skipped_in chosen xs + skipped_in chosen ys
skipped_append (weighing.Once chosen) xs ys = refl
skipped_append (weighing.Field part) xs ys = sum_by-append (skips_line part) xs ys
skipped_append (weighing.Record chosen) xs ys = sum_by-append (skips_row chosen) xs ys

none_skipped : (chosen : Weighing) → skipped_in chosen [] ≡ 0
none_skipped (weighing.Once chosen) = refl
none_skipped (weighing.Field part) = refl
none_skipped (weighing.Record chosen) = refl

pub skips_none : (chosen : Weighing) (a : ℕ) → GrowsBy a (skipped_in chosen []) a
skips_none chosen a = omega (arith, none_skipped chosen)

pub skips_no_records : (chosen : Weighing) (a : ℕ) → GrowsBy a (skipped_in chosen (records_of chosen [])) a
skips_no_records chosen a =
    let none : skipped_in chosen (records_of chosen []) ≡ 0 = ap (skipped_in chosen) (no_records (splits_of chosen)) ∙ none_skipped chosen in
    omega (arith, none)

-- whole records and the records after them
pub skips_both : (chosen : Weighing) (xs ys : List ℕ) → AreWholeRecords (splits_of chosen) xs → (a b c : ℕ) (next : Weighing) → next ≡ chosen → GrowsBy a (skipped_in chosen (records_of chosen xs)) b → GrowsBy b (skipped_in next (records_of next ys)) c → GrowsBy a (skipped_in chosen (records_of chosen (xs ++ ys))) c
skips_both chosen xs ys whole a b c next same first second =
    let both : skipped_in chosen (records_of chosen (xs ++ ys)) ≡ skipped_in chosen (records_of chosen xs) + skipped_in chosen (records_of chosen ys) =
    ap (skipped_in chosen) (records_both (splits_of chosen) xs ys whole) ∙ skipped_append chosen (records_of chosen xs) (records_of chosen ys) in
    let later : skipped_in next (records_of next ys) ≡ skipped_in chosen (records_of chosen ys) = ap (λ (p : Weighing). skipped_in p (records_of p ys)) same in
    omega (arith, both, later, first, second)

-- the same of records whose weights any part has
pub rows_append : (chosen : WeighedRecord) (xs ys : List (List ℕ)) → skipped_rows chosen (xs ++ ys) ≡ skipped_rows chosen xs + skipped_rows chosen ys
rows_append chosen xs ys = sum_by-append (skips_row chosen) xs ys

pub rows_none : (chosen : WeighedRecord) (a : ℕ) → GrowsBy a (skipped_rows chosen (records_by chosen.item [])) a
rows_none chosen a = skips_no_records (weighing.Record chosen) a

pub rows_both : (chosen : WeighedRecord) (xs ys : List ℕ) → AreWholeRecords (splits_by chosen.item) xs → (a b c : ℕ) (next : WeighedRecord) → next ≡ chosen → GrowsBy a (skipped_rows chosen (records_by chosen.item xs)) b → GrowsBy b (skipped_rows next (records_by next.item ys)) c → GrowsBy a (skipped_rows chosen (records_by chosen.item (xs ++ ys))) c
rows_both chosen xs ys whole a b c next same first second = skips_both (weighing.Record chosen) xs ys whole a b c (weighing.Record next) (ap (λ (p : WeighedRecord). weighing.Record p) same) first second
