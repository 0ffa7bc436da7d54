-- The lines of an input, and the output for them.
use Rattle.std.specs.Prelude.{◌≡◌, ℕ, ◌+◌, ◌==◌, ◌⊎◌, List, [], ◌∷◌, ◌++◌, length, map, Option, IfSome, if◌then◌else◌, codes}
use Rattle.std.specs.Fmt.{decimal}
use Rattle.std.specs.Io.BufRead.{strip_last}
use Rattle.std.specs.Io.KnownBytes.{Appends}
use Rattle.std.specs.List.{slice_split}
use Rattle.datasketches.specs.State.{SessionKeys}
use Rattle.datasketches_cli.specs.KeyValues.{HasKeys}
use Rattle.datasketches_cli.specs.declared.keys.Keys.{Keys}
use Rattle.datasketches_cli.specs.declared.serve.Ended.{Ended}
use Rattle.datasketches_cli.specs.declared.serve.Ended.TheVariants.{All, BadLine}
use Rattle.datasketches_cli.specs.Printing.{answer_text}
use Rattle.datasketches_cli.specs.Requests.{Request}
use Rattle.datasketches_cli.specs.Answers.{Answer}
use Rattle.datasketches_cli.specs.declared.state.State.{State}
use Rattle.datasketches_cli.specs.Asking.{Says, IsBad}
use Rattle.datasketches_cli.specs.Grammar.{IsBlank}
use Rattle.datasketches_cli.specs.Steps.{nothing_served, ServingStep}

-- the parts without the last one, if that is empty
abbrev pub without_empty_last : List (List ℕ) → List (List ℕ)
without_empty_last [] = []
without_empty_last (part ∷ []) = if length part == 0 then [] else part ∷ []
without_empty_last (part ∷ next ∷ parts) = part ∷ without_empty_last (next ∷ parts)

-- the lines: the parts between the line feeds, each without one carriage return at its end
abbrev pub lines_of : List ℕ → List (List ℕ)
lines_of input = map (strip_last 13) (without_empty_last (slice_split (λ byte. byte == 10) input))

-- the line that is written for an `Answer`
abbrev pub answer_line : Answer → List ℕ
answer_line answer = answer_text answer ++ codes "\n"

-- the line that is written for a bad line
abbrev pub bad_line : ℕ → List ℕ
bad_line number = codes "bad line " ++ decimal number ++ codes "\n"

-- `text` is the output for the lines, from this state, where the first line has this number. A blank line writes nothing, and a
-- request writes its answer. A bad line writes its number and ends the output
abbrev pub Transcript : ℕ → State → List (List ℕ) → Ended → List ℕ → Type 0
Transcript number state [] ended text = (ended ≡ All) × (text ≡ [])
Transcript number state (line ∷ lines) ended text =
    (IsBlank line × Transcript (number + 1) state lines ended text)
    ⊎ ((request : Request) × (answer : Answer) × (after : State) × (rest : List ℕ)
    × Says line request × ServingStep state request answer after × (text ≡ answer_line answer ++ rest)
    × Transcript (number + 1) after lines ended rest)
    ⊎ (IsBad line × (ended ≡ BadLine number) × (text ≡ bad_line number))

-- if the input's bytes are known, the writer received the output for its lines, from a state without sketches, images and windows
-- whose session has these keys
abbrev pub ServesUnder : SessionKeys → Option (List ℕ) → Option (List ℕ) → Option (List ℕ) → Ended → Type 0
ServesUnder own input held holds ended =
    IfSome input (λ bytes. (text : List ℕ) × Appends held holds text × Transcript 1 (nothing_served own) (lines_of bytes) ended text)

-- the same for a session with the keys of a run
abbrev pub Serves : Keys → Option (List ℕ) → Option (List ℕ) → Option (List ℕ) → Ended → Type 0
Serves keys input held holds ended = (own : SessionKeys) × HasKeys keys own × ServesUnder own input held holds ended
