-- The laws of records that are counted.
use Rattle.std.proofs.Common.{◌≡◌, ℕ, ◌+◌, ◌≤◌, ◌^◌, List, [], ◌++◌, length, refl, ◌∙◌, ap, arith, length-append}
use Rattle.sketches.specs.Reading.{AreWholeRecords}
use Rattle.sketches.specs.RecordParts.{raws_by}
use Rattle.sketch_text.specs.Records.{splits_by}
use Rattle.sketches.specs.UnseenLaws.{raw_records_both, raws_none}
use Rattle.sketches.specs.declared.failure.Failure.{Failure}
use Rattle.sketches.specs.declared.failure.Failure.TheVariants.{TooManyItems}
use Rattle.sketch_text.specs.declared.record_part.RecordPart.{RecordPart}

number_both : (p : RecordPart) (xs ys : List ℕ) → AreWholeRecords (splits_by p) xs → length (raws_by p (xs ++ ys)) ≡ length (raws_by p xs) + length (raws_by p ys)
number_both p xs ys whole = ap length (raw_records_both (splits_by p) xs ys whole) ∙ length-append (raws_by p xs) (raws_by p ys)

-- what the sink does with records
abbrev Counts : (p : RecordPart) (lines lines' : ℕ) → List ℕ → RecordPart → Type 0
Counts p lines lines' bytes q = (lines' ≡ lines + length (raws_by p bytes)) × (q ≡ p)

abbrev Exceeds : RecordPart → ℕ → List ℕ → Failure → Type 0
Exceeds p lines bytes failure = (failure ≡ TooManyItems) × (2 ^ 64 ≤ lines + length (raws_by p bytes))

pub counts_none : (p : RecordPart) (lines : ℕ) → Counts p lines lines [] p
counts_none p lines = rw (raws_none p) (omega arith, refl)

pub counts_both : (xs ys : List ℕ) (p q r : RecordPart) → AreWholeRecords (splits_by p) xs → (a b c : ℕ) → Counts p a b xs q → Counts q b c ys r → Counts p a c (xs ++ ys) r
counts_both xs ys p q r whole a b c (first, same) (second, same') =
    let later : c ≡ b + length (raws_by p ys) = second ∙ ap (λ (t : RecordPart). b + length (raws_by t ys)) same in
    (omega (arith, number_both p xs ys whole, first, later), same' ∙ same)

pub exceeds_sooner : (xs ys : List ℕ) (p : RecordPart) → AreWholeRecords (splits_by p) xs → (a : ℕ) (e : Failure) → Exceeds p a xs e → Exceeds p a (xs ++ ys) e
exceeds_sooner xs ys p whole a e (is, many) = (is, omega (arith, number_both p xs ys whole, many))

pub exceeds_later : (xs ys : List ℕ) (p q : RecordPart) → AreWholeRecords (splits_by p) xs → (a b : ℕ) (e : Failure) → Counts p a b xs q → Exceeds q b ys e → Exceeds p a (xs ++ ys) e
exceeds_later xs ys p q whole a b e (first, same) (is, many) =
    let more = ap (λ (t : RecordPart). length (raws_by t ys)) same in
    (is, omega (arith, number_both p xs ys whole, first, more, many))
