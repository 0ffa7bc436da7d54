-- The offsets of strings that are written.
use Rattle.std.specs.Prelude.{ℕ, ◌+◌, List, [], ◌∷◌, length}

-- the offsets of strings that follow one another, from the first offset on
abbrev pub offsets_from : ℕ → List (List ℕ) → List ℕ
offsets_from start [] = start ∷ []
offsets_from start (string ∷ strings) = start ∷ offsets_from (start + length string) strings
