-- Effects of the parts of the loop.
use Rattle.std.specs.Prelude.{◌≡◌, ℕ, true, List, [], ◌++◌, Option, None, Some, IfSome, ⊤}
use Rattle.std.specs.Io.BufRead.{strip_last}
use Rattle.std.specs.Io.KnownBytes.{Appends, IsAtEnd}
use Rattle.std.specs.String.{string_bytes}
use Rattle.datasketches.specs.Replies.{done_or}
use Rattle.datasketches.specs.State.{SessionKeys}
use Rattle.datasketches_cli.specs.Asking.{Says, IsBad}
use Rattle.datasketches_cli.specs.Grammar.{Spelled, IsBlank}
use Rattle.datasketches_cli.specs.declared.responder.Responder.{Responder}
use Rattle.datasketches_cli.specs.declared.responder.LineOutcome.{LineOutcome}
use Rattle.datasketches_cli.specs.declared.responder.LineOutcome.TheVariants as line
use Rattle.datasketches_cli.specs.declared.serve.Ended.{Ended}
use Rattle.datasketches_cli.specs.declared.serve.Ended.TheVariants.{All}
use Rattle.datasketches_cli.specs.KeyValues.{HasKeys}
use Rattle.datasketches_cli.specs.Reading.{TakesLine}
use Rattle.datasketches_cli.specs.Requests.{Request}
use Rattle.datasketches_cli.specs.Answers.{Answer, Replied}
use Rattle.datasketches_cli.specs.declared.reply.Outcome.{Outcome}
use Rattle.datasketches_cli.specs.declared.reply.Outcome.TheVariants.{NoRequest, Done, Written, NoMemory}
use Rattle.datasketches_cli.specs.declared.state.State.{State}
use Rattle.datasketches_cli.specs.Steps.{ServingStep}
use Rattle.datasketches_cli.specs.Transcript.{answer_line, ServesUnder}

-- the front of what was gathered went to the writer
abbrev pub WritesFront : Option (List ℕ) → Option (List ℕ) → List ℕ → List ℕ → Type 0
WritesFront held holds gathered left = (front : List ℕ) × Appends held holds front × (gathered ≡ front ++ left)

-- the request was done, and the line of its `Answer` was appended to the gathered replies
abbrev pub HasAnswered : Request → Responder → Responder → Type 0
HasAnswered request old new =
    (answer : Answer) × ServingStep old.state request answer new.state
    × (string_bytes new.replies ≡ string_bytes old.replies ++ answer_line answer)

-- nothing was done, and nothing was gathered
abbrev pub IsIdle : Responder → Responder → Type 0
IsIdle old new = (new.state ≡ old.state) × (string_bytes new.replies ≡ string_bytes old.replies)

-- the line of the `Answer` was appended to the gathered lines, or memory ran out
abbrev pub IsGathered : Answer → List ℕ → Outcome → List ℕ → Type 0
IsGathered answer lines Written after = after ≡ lines ++ answer_line answer
IsGathered answer lines NoMemory after = ⊤
IsGathered answer lines _ after = ⊥

-- words were run, from a state and the lines gathered before, to a state and the lines gathered after. A request was done, and the
-- line of its `Answer` was gathered if it is `Written`. No more is stated if memory ran out. Without a request nothing was done
abbrev pub Runs : Spelled → State → List ℕ → Outcome → State → List ℕ → Type 0
Runs None old lines NoRequest new after = (new ≡ old) × (after ≡ lines)
Runs (Some request) old lines (Done outcome) new after =
    ServingStep old request (Replied (done_or outcome)) new × (after ≡ lines)
Runs (Some request) old lines Written new after =
    (answer : Answer) × ServingStep old request answer new × IsGathered answer lines Written after
Runs (Some request) old lines NoMemory new after = ⊤
Runs _ old lines _ new after = ⊥

-- the outcome of the line
abbrev pub IsAnswered : List ℕ → Responder → Responder → LineOutcome → Type 0
IsAnswered text old new line.Blank = IsBlank text × IsIdle old new
IsAnswered text old new line.Answered = (request : Request) × Says text request × HasAnswered request old new
IsAnswered text old new line.Bad = IsBad text × IsIdle old new

-- the outcome of the next line, or none if no input is left
abbrev pub AnswersNext : Option (List ℕ) → Option (List ℕ) → Responder → Responder → Option LineOutcome → Type 0
AnswersNext was is old new None = IfSome was (λ bytes. bytes ≡ []) × IsIdle old new
AnswersNext was is old new (Some became) =
    (line : List ℕ) × TakesLine true was is line
    × IsAnswered (strip_last 13 (strip_last 10 line)) old new became

-- the session has the keys of the run
abbrev pub HasOwnKeys : Responder → Type 0
HasOwnKeys responder = HasKeys responder.keys responder.state.session.keys

-- a run of the loop, under these keys: it served its input and wrote all output with no failure. If all lines were read, no input is left
pub record HasServed (own : SessionKeys) (input left held holds : Option (List ℕ)) (before now : ℕ) (ended : Ended) : Type 0 where
  pub served : ServesUnder own input held holds ended
  pub all_read : ended ≡ All → IsAtEnd left
  pub all_written : now ≡ before
