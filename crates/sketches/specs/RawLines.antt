-- Lines with their ends.
use Rattle.std.specs.Prelude.{◌≡◌, ℕ, ◌<◌, ◌==◌, if◌then◌else◌, List, [], ◌∷◌, ◌++◌, length, Option, MatchOption}
use Rattle.std.specs.Borrow.{Bor}
use Rattle.std.specs.List.{slice_split}
use Rattle.std.specs.Str.Lines.{lines}

-- the lines in the parts between line feeds, each with the line feed after it. An empty last part is no line
abbrev pub raw_lines_of_parts : List (List ℕ) → List (List ℕ)
raw_lines_of_parts [] = []
raw_lines_of_parts (x ∷ []) = if length x == 0 then [] else x ∷ []
raw_lines_of_parts (x ∷ y ∷ more) = (x ++ 10 ∷ []) ∷ raw_lines_of_parts (y ∷ more)

-- the lines of bytes, each with its line feed. The last may have none
abbrev pub raw_lines : List ℕ → List (List ℕ)
raw_lines bytes = raw_lines_of_parts (slice_split (λ byte. byte == 10) bytes)

-- the first line with its end, the same line without it, and the bytes after it. Bytes without lines are empty
abbrev pub TakesRawLine : List ℕ → Option (Bor (List ℕ) × Bor (List ℕ) × Bor (List ℕ)) → Type 0
TakesRawLine bytes found =
    MatchOption found (bytes ≡ []) (λ taken. (raw_lines bytes ≡ taken.0.now ∷ raw_lines taken.2.now)
    × (lines taken.0.now ≡ taken.1.now ∷ []) × (length taken.2.now < length bytes))
