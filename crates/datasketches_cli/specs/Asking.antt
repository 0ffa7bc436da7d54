-- The requests that lines spell.
use Rattle.std.specs.Prelude.{◌≡◌, ℕ, List, Some}
use Rattle.std.specs.Str.{IsUtf8}
use Rattle.datasketches_cli.specs.Grammar.{split_words, request_of, IsBlank}
use Rattle.datasketches_cli.specs.Requests.{Request}

-- the line is UTF-8, and its words spell the request
abbrev pub Says : List ℕ → Request → Type 0
Says line request = IsUtf8 line × (request_of (split_words line) ≡ Some request)

-- the line is not blank, and spells no request
abbrev pub IsBad : List ℕ → Type 0
IsBad line = ¬ IsBlank line × ((request : Request) → ¬ Says line request)
