-- The laws of the number of records that have items that are not UTF-8.
use Rattle.std.proofs.Common.{◌≡◌, ℕ, ◌+◌, List, [], ◌++◌, refl, ◌∙◌, ap, arith}
use Rattle.std.proofs.lemmas.List.Sums.{sum_by-append}
use Rattle.std.specs.List.{list_all}
use Rattle.std.specs.Prelude.{cond, not}
use Rattle.std.specs.Str.{is_utf8}
use Rattle.sketches.specs.AddingLaws.{no_records, records_both}
use Rattle.sketches.specs.Reading.{AreWholeRecords}
use Rattle.sketches.specs.Utf8Lines.{GrowsBy, bytes_of, not_utf8_in}
use Rattle.sketches.specs.Weighed.{records_of, splits_of}
use Rattle.sketches.specs.declared.item.weighing.Weighing.{Weighing}

pub not_utf8_append : (chosen : Weighing) (xs ys : List (List ℕ)) → not_utf8_in chosen (xs ++ ys) ≡ not_utf8_in chosen xs + not_utf8_in chosen ys
not_utf8_append chosen xs ys = sum_by-append (λ (row : List ℕ). cond (not (list_all is_utf8 (bytes_of chosen row))) 1 0) xs ys

none_not_utf8 : (chosen : Weighing) → not_utf8_in chosen (records_of chosen []) ≡ 0
none_not_utf8 chosen = ap (not_utf8_in chosen) (no_records (splits_of chosen))

pub grows_none : (chosen : Weighing) (a : ℕ) → GrowsBy a (not_utf8_in chosen []) a
grows_none chosen a = let none : not_utf8_in chosen [] ≡ 0 = refl in omega (arith, none)

pub grows_no_records : (chosen : Weighing) (a : ℕ) → GrowsBy a (not_utf8_in chosen (records_of chosen [])) a
grows_no_records chosen a = omega (arith, none_not_utf8 chosen)

-- whole records and the records after them
pub grows_both : (chosen : Weighing) (xs ys : List ℕ) → AreWholeRecords (splits_of chosen) xs → (a b c : ℕ) (next : Weighing) → next ≡ chosen → GrowsBy a (not_utf8_in chosen (records_of chosen xs)) b → GrowsBy b (not_utf8_in next (records_of next ys)) c → GrowsBy a (not_utf8_in chosen (records_of chosen (xs ++ ys))) c
grows_both chosen xs ys whole a b c next same first second =
    let both : not_utf8_in chosen (records_of chosen (xs ++ ys)) ≡ not_utf8_in chosen (records_of chosen xs) + not_utf8_in chosen (records_of chosen ys) =
    ap (not_utf8_in chosen) (records_both (splits_of chosen) xs ys whole) ∙ not_utf8_append chosen (records_of chosen xs) (records_of chosen ys) in
    let later : not_utf8_in next (records_of next ys) ≡ not_utf8_in chosen (records_of chosen ys) = ap (λ (p : Weighing). not_utf8_in p (records_of p ys)) same in
    omega (arith, both, later, first, second)
