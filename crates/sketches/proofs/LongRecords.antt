-- Bytes without a record that is too long.
use Rattle.std.proofs.Common.{◌≡◌, ⊎_elim, ℕ, ◌+◌, ◌-◌, ◌<◌, ◌≤◌, ◌&&◌, Bool, true, false, not, List, [], ◌∷◌, ◌++◌, length, get_or, take, drop, append-nil, refl, sym, ◌∙◌, ap, subst, arith, length-append}
use Rattle.std.proofs.lemmas.List.{take-append-drop, take-append-le, drop-append-le, get_or-append_right}
use Rattle.std.proofs.lemmas.List.Elements.{All-take}
use Rattle.std.proofs.Math.Seq.{take-append_seam, drop-append_seam}
use Rattle.std.proofs.lemmas.Bool.{cases_lt, false≢true}
use Rattle.sketch_base.specs.Split.{separates}
use Rattle.sketch_base.specs.declared.separator.Separator.TheVariants.{LineFeed}
use Rattle.sketch_text.specs.Csv.{EndsRecord, IsOnePart, cuts, ends_field, in_quotes, is_feed, after_byte, place_after}
use Rattle.sketch_text.specs.declared.place.Place.{Place}
use Rattle.sketch_text.specs.declared.place.Place.TheVariants.{Start}
use Rattle.sketch_text.specs.declared.records.Records.{Records}
use Rattle.sketch_text.specs.declared.records.Records.TheVariants.{Lines, Csv}
use Rattle.sketch_text.proofs.CsvRecords.{one_at, place_at_end}
use Rattle.sketch_text.proofs.CsvRuns.{after_append}
use Rattle.sketches.specs.Reading.{AreWholeRecords, HasLongRecord, IsInOne, IsInOneLine, place_of}

-- no record has at least `limit` bytes before its line feed
abbrev pub Fits : Records → ℕ → List ℕ → Type 0
Fits records limit bytes = HasLongRecord records limit bytes → ⊥

-- the place after whole records
pub place_whole : (records : Records) (xs : List ℕ) → AreWholeRecords records xs → place_of records Start xs ≡ Start
place_whole Lines xs whole = refl
place_whole (Csv delimiter) [] whole = refl
place_whole (Csv delimiter) (x ∷ xs) whole = place_at_end delimiter Start (x ∷ xs) (whole (omega arith))

-- the place after bytes and those after them
pub place_both : (records : Records) (xs ys : List ℕ) → place_of records Start (xs ++ ys) ≡ place_of records (place_of records Start xs) ys
place_both Lines xs ys = refl
place_both (Csv delimiter) xs ys = after_append (ends_field delimiter) is_feed Start xs ys

-- two ways to split a list
split_at : (xs ys us vs : List ℕ) → xs ++ ys ≡ us ++ vs → length xs ≤ length us → (m : List ℕ) × (us ≡ xs ++ m) × (ys ≡ m ++ vs)
split_at xs ys us vs e le =
    let n : ℕ = length xs in
    let front : take n us ≡ xs = sym (take-append-le n us vs le) ∙ (ap (take n) (sym e) ∙ take-append_seam xs ys) in (
      drop n us,
      sym (take-append-drop n us) ∙ ap (λ l. l ++ drop n us) front,
      sym (drop-append_seam xs ys) ∙ (ap (drop n) e ∙ drop-append-le n us vs le),
    )

-- the front of bytes in one record
one_front_csv : (ends test : ℕ → Bool) (place : Place) (xs ys : List ℕ) → IsOnePart ends test place (xs ++ ys) → IsOnePart ends test place xs
one_front_csv ends test place [] ys one = tt
one_front_csv ends test place (x ∷ xs) ys (none, more) = (none, one_front_csv ends test (after_byte (ends x) place x) xs ys more)

one_front : (records : Records) (xs ys : List ℕ) → IsInOne records Start (xs ++ ys) → IsInOne records Start xs
one_front Lines xs ys one = subst IsInOneLine (take-append_seam xs ys) (All-take (λ byte. separates LineFeed byte ≡ false) (length xs) (xs ++ ys) one)
one_front (Csv delimiter) xs ys one = one_front_csv (ends_field delimiter) is_feed Start xs ys one

-- whole records are not in one record
ends_not_one : (delimiter : ℕ) (front : List ℕ) → in_quotes (place_after delimiter Start front) ≡ false → IsOnePart (ends_field delimiter) is_feed Start (front ++ 10 ∷ []) → ⊥
ends_not_one delimiter front out one =
    let none : cuts is_feed (place_after delimiter Start front) 10 ≡ false = one_at (ends_field delimiter) is_feed Start front [] 10 one in
    false≢true (sym none ∙ ap (λ (b : Bool). not b && true) out)

whole_not_one : (records : Records) (bytes : List ℕ) → 0 < length bytes → AreWholeRecords records bytes → IsInOne records Start bytes → ⊥
whole_not_one Lines bytes some whole one =
    let none : separates LineFeed (get_or bytes (length bytes - 1) 0) ≡ false = one (length bytes - 1) 0 (omega (arith, some)) in
    false≢true (sym none ∙ ap (separates LineFeed) (whole some))
whole_not_one (Csv delimiter) bytes some whole one =
    let (front, parts, out) = whole some in
    ends_not_one delimiter front out (subst (IsOnePart (ends_field delimiter) is_feed Start) parts one)

-- whole records without whole records at their front
rest_csv : (delimiter : ℕ) (xs zs : List ℕ) → place_after delimiter Start xs ≡ Start → 0 < length zs → EndsRecord delimiter Start (xs ++ zs) → EndsRecord delimiter Start zs
rest_csv delimiter xs zs start some (front, parts, out) =
    let len = ap (λ (l : List ℕ). length l) parts in
    let le : length xs ≤ length front = omega (arith, len, some, length-append xs zs, length-append front (10 ∷ [])) in
    let (m, is, rest) = split_at xs zs front (10 ∷ []) parts le in
    let place : place_after delimiter Start front ≡ place_after delimiter Start m =
    ap (place_after delimiter Start) is ∙ (place_both (Csv delimiter) xs m ∙ ap (λ (p : Place). place_after delimiter p m) start) in
    (m, rest, ap (λ (p : Place). in_quotes p) (sym place) ∙ out)

whole_rest : (records : Records) (xs zs : List ℕ) → AreWholeRecords records xs → AreWholeRecords records (xs ++ zs) → AreWholeRecords records zs
whole_rest Lines xs zs first both = λ some.
    let len : length (xs ++ zs) ≡ length xs + length zs = length-append xs zs in
    let last : length (xs ++ zs) - 1 - length xs ≡ length zs - 1 = omega (arith, len) in
    ap (λ (n : ℕ). get_or zs n 0) (sym last)
    ∙ (sym (get_or-append_right xs zs (length xs) (length (xs ++ zs) - 1) 0 refl (omega (arith, len, some))) ∙ both (omega (arith, len, some)))
whole_rest (Csv delimiter) xs zs first both = λ some.
    rest_csv delimiter xs zs (place_whole (Csv delimiter) xs first) some (both (omega (arith, some, length-append xs zs)))

-- ---- bytes that fit

-- fewer bytes than the limit
pub fits_short : (records : Records) (limit : ℕ) (bytes : List ℕ) → length bytes < limit → Fits records limit bytes
fits_short records limit bytes less (before, line, after, parts, whole, long, one) =
    let len = ap (λ (l : List ℕ). length l) parts in
    absurd (omega (arith, len, less, long, length-append before (line ++ after), length-append line after))

-- whole records with at most the limit of bytes
pub fits_whole : (records : Records) (limit : ℕ) (bytes : List ℕ) → 0 < limit → length bytes ≤ limit → AreWholeRecords records bytes → Fits records limit bytes
fits_whole records limit bytes some le whole ([], line, [], parts, _, long, one) =
    whole_not_one records line (omega (arith, some, long)) (subst (AreWholeRecords records) (parts ∙ append-nil line) whole) one
fits_whole records limit bytes some le whole ([], line, x ∷ after, parts, _, long, one) =
    let len = ap (λ (l : List ℕ). length l) parts in
    absurd (omega (arith, len, le, long, length-append line (x ∷ after)))
fits_whole records limit bytes some le whole (b ∷ before, line, after, parts, _, long, one) =
    let len = ap (λ (l : List ℕ). length l) parts in
    absurd (omega (arith, len, le, long, length-append (b ∷ before) (line ++ after), length-append line after))

-- whole records that fit, and bytes after them
pub fits_append : (records : Records) (limit : ℕ) (xs ys : List ℕ) → AreWholeRecords records xs → Fits records limit xs → Fits records limit ys → Fits records limit (xs ++ ys)
fits_append records limit xs ys whole fits_xs fits_ys (before, line, after, parts, whole_before, long, one) = ⊎_elim
    (λ less.
    let (m, is, rest) = split_at before (line ++ after) xs ys (sym parts) (omega (arith, less)) in
    let whole_m : AreWholeRecords records m = whole_rest records before m whole_before (subst (AreWholeRecords records) is whole) in
    let len = ap (λ (l : List ℕ). length l) is in
    let some : 0 < length m = omega (arith, len, less, length-append before m) in
    ⊎_elim
    (λ short.
    let (n, is', rest') = split_at line after m ys rest (omega (arith, short)) in
    fits_xs (before, line, n, is ∙ ap (λ l. before ++ l) is', whole_before, long, one))
    (λ le.
    let (n, is', rest') = split_at m ys line after (sym rest) le in
    whole_not_one records m some whole_m (one_front records m n (subst (IsInOne records Start) is' one)))
    (cases_lt (length line) (length m)))
    (λ le.
    let (m, is, rest) = split_at xs ys before (line ++ after) parts le in
    fits_ys (m, line, after, rest, whole_rest records xs m whole (subst (AreWholeRecords records) is whole_before), long, one))
    (cases_lt (length before) (length xs))
