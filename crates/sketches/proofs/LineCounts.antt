-- The lines of records, counted one record after another.
use Rattle.std.proofs.Common.{◌≡◌, ℕ, ◌+◌, ◌-◌, ◌^◌, List, [], ◌∷◌, ◌++◌, min, refl, arith}
use Rattle.std.proofs.lemmas.List.Sums.{sum_by-cons}
use Rattle.sketch_text.specs.Records.{splits_by}
use Rattle.sketches.specs.LineNumberLaws.{lines_append}
use Rattle.sketches.specs.LineNumbers.{lines_counted, lines_of, lines_of_row}
use Rattle.sketches.specs.Utf8Lines.{GrowsBy}
use Rattle.sketches.specs.declared.item.weighing.WeighedPart.{WeighedPart}
use Rattle.sketches.specs.declared.item.weighing.WeighedRecord.{WeighedRecord}
use Rattle.sketches.specs.declared.item.weighing.Weighing.TheVariants.{Field, Record}

module _ (chosen : WeighedRecord) where
  -- the number of lines after one more record
  abbrev pub IsNextCount : (m : ℕ) (row : List ℕ) (k : ℕ) → Type 0
  IsNextCount m row k = k ≡ min (m + min (lines_of_row (splits_by chosen.item) row) (2 ^ 64 - 1)) (2 ^ 64 - 1)

  pub no_numbers : (n : ℕ) → GrowsBy n (lines_of (splits_by chosen.item) []) n
  no_numbers n = let none : lines_of (splits_by chosen.item) [] ≡ 0 = refl in omega (arith, none)

  pub more_numbers : (n m k : ℕ) (done : List (List ℕ)) (row : List ℕ) → GrowsBy n (lines_of (splits_by chosen.item) done) m → IsNextCount m row k → GrowsBy n (lines_of (splits_by chosen.item) (done ++ row ∷ [])) k
  more_numbers n m k done row grows is =
      let none : lines_of (splits_by chosen.item) [] ≡ 0 = refl in
      omega (arith, grows, is, none, lines_append (splits_by chosen.item) done (row ∷ []), sum_by-cons (lines_of_row (splits_by chosen.item)) row [])

  pub next_grows : (m k : ℕ) (row : List ℕ) → IsNextCount m row k → GrowsBy m (lines_counted (Record chosen) (row ∷ [])) k
  next_grows m k row is =
      let none : lines_of (splits_by chosen.item) [] ≡ 0 = refl in
      omega (arith, is, none, sum_by-cons (lines_of_row (splits_by chosen.item)) row [])

pub line_grows : (part : WeighedPart) (m k : ℕ) (line : List ℕ) → k ≡ min (m + 1) (2 ^ 64 - 1) → GrowsBy m (lines_counted (Field part) (line ∷ [])) k
line_grows part m k line is = let one : lines_counted (Field part) (line ∷ []) ≡ 1 = refl in omega (arith, is, one)
