-- The words of a line that are looked at, and the request that they spell.
use Rattle.std.proofs.Common.{◌≡◌, ℕ, Bool, false, eqb, List, [], ◌∷◌, ◌++◌, length, take, None, Some, Result, refl, sym, ◌∙◌, ap, arith}
use Rattle.std.specs.Prelude.{⊤}
use Rattle.std.specs.Borrow.{Bor}
use Rattle.std.specs.Str.{IsUtf8}
use Rattle.datasketches.specs.Replies.{done_or}
use Rattle.datasketches.specs.declared.reply.Refusal.{Refusal}
use Rattle.sketch_base.specs.Strings.{strings_at}
use Rattle.datasketches_cli.specs.Answers.{Answer, Replied}
use Rattle.datasketches_cli.specs.Asking.{Says, IsBad}
use Rattle.datasketches_cli.specs.Grammar.{Spelled, split_words, request_of}
use Rattle.datasketches_cli.specs.Requests.{Request}
use Rattle.datasketches_cli.specs.Serving.{IsGathered, Runs}
use Rattle.datasketches_cli.specs.Steps.{ServingStep}
use Rattle.datasketches_cli.specs.Transcript.{answer_line}
use Rattle.datasketches_cli.specs.declared.reply.Outcome.{Outcome}
use Rattle.datasketches_cli.specs.declared.reply.Outcome.TheVariants.{NoRequest, Done, Written, NoMemory}
use Rattle.datasketches_cli.specs.declared.state.State.{State}

-- the first seven words of a line spell what all of them spell, since at most five words follow a verb
first_seven : (words : List (List ℕ)) → request_of (take 7 words) ≡ request_of words
first_seven [] = refl
first_seven (v ∷ []) = refl
first_seven (v ∷ a ∷ []) = refl
first_seven (v ∷ a ∷ b ∷ []) = refl
first_seven (v ∷ a ∷ b ∷ c ∷ []) = refl
first_seven (v ∷ a ∷ b ∷ c ∷ d ∷ []) = refl
first_seven (v ∷ a ∷ b ∷ c ∷ d ∷ e ∷ []) = refl
first_seven (v ∷ a ∷ b ∷ c ∷ d ∷ e ∷ f ∷ rest) = refl

-- ---- what was gathered for a request

-- a request was done, and the line of its answer was gathered, if memory did not run out
pub ran_written : (request : Request) (answer : Answer) (old new : State) (lines : List ℕ) (outcome : Outcome) (after : List ℕ) → ServingStep old request answer new → IsGathered answer lines outcome after → Runs (Some request) old lines outcome new after
ran_written request answer old new lines Written after step gathered = (answer, step, gathered)
ran_written request answer old new lines NoMemory after step gathered = tt
ran_written request answer old new lines NoRequest after step none = absurd none
ran_written request answer old new lines (Done outcome) after step none = absurd none

-- ---- the outcome of a line

-- a line whose first words spell what `spelled` is
spelled_by : (line text : List ℕ) (words : List (Bor (List ℕ))) (spelled : Spelled) → text ≡ line → strings_at words ≡ take 7 (split_words text) → request_of (strings_at words) ≡ spelled → request_of (split_words line) ≡ spelled
spelled_by line text words spelled same is spells =
    ap (λ l. request_of (split_words l)) (sym same) ∙ sym (first_seven (split_words text)) ∙ ap request_of (sym is) ∙ spells

called : (spelled : Spelled) (old new : State) (lines after : List ℕ) (outcome : Result ⊤ Refusal) → Runs spelled old lines (Done outcome) new after
    → (request : Request) × (spelled ≡ Some request) × ServingStep old request (Replied (done_or outcome)) new × (after ≡ lines)
called (Some request) old new lines after outcome (step, kept) = (request, refl, step, kept)
called None old new lines after outcome none = absurd none

-- the words of a line are a request, which was done or rejected
pub says_called : (line text : List ℕ) (words : List (Bor (List ℕ))) (old new : State) (lines after : List ℕ) (outcome : Result ⊤ Refusal) → text ≡ line → IsUtf8 line → strings_at words ≡ take 7 (split_words text) → Runs (request_of (strings_at words)) old lines (Done outcome) new after
    → (request : Request) × Says line request × ServingStep old request (Replied (done_or outcome)) new × (after ≡ lines)
says_called line text words old new lines after outcome same utf8 is runs =
    let (request, spells, step, kept) = called (request_of (strings_at words)) old new lines after outcome runs in
    (request, (utf8, spelled_by line text words (Some request) same is spells), step, kept)

written : (spelled : Spelled) (old new : State) (lines after : List ℕ) → Runs spelled old lines Written new after
    → (request : Request) × (spelled ≡ Some request) × (answer : Answer) × ServingStep old request answer new × (after ≡ lines ++ answer_line answer)
written (Some request) old new lines after (answer, step, gathered) = (request, refl, answer, step, gathered)
written None old new lines after none = absurd none

-- the words of a line are a request, whose answer was written
pub says_written : (line text : List ℕ) (words : List (Bor (List ℕ))) (old new : State) (lines after : List ℕ) → text ≡ line → IsUtf8 line → strings_at words ≡ take 7 (split_words text) → Runs (request_of (strings_at words)) old lines Written new after
    → (request : Request) × Says line request × (answer : Answer) × ServingStep old request answer new × (after ≡ lines ++ answer_line answer)
says_written line text words old new lines after same utf8 is runs =
    let (request, spells, answer, step, gathered) = written (request_of (strings_at words)) old new lines after runs in
    (request, (utf8, spelled_by line text words (Some request) same is spells), answer, step, gathered)

idle : (spelled : Spelled) (old new : State) (lines after : List ℕ) → Runs spelled old lines NoRequest new after → (spelled ≡ None) × (new ≡ old) × (after ≡ lines)
idle None old new lines after (same, kept) = (refl, same, kept)
idle (Some request) old new lines after none = absurd none

not_empty : (words : List (Bor (List ℕ))) (empty : Bool) → empty ≡ false → empty ≡ eqb (length words) 0 → ¬ (strings_at words ≡ [])
not_empty [] empty some tested e = cc
not_empty (x ∷ xs) empty some tested e = omega (arith, ap length e)

-- the words of a line are no request
pub says_none : (line text : List ℕ) (words : List (Bor (List ℕ))) (empty : Bool) (old new : State) (lines after : List ℕ) → text ≡ line → empty ≡ false → empty ≡ eqb (length words) 0 → strings_at words ≡ take 7 (split_words text) → Runs (request_of (strings_at words)) old lines NoRequest new after
    → IsBad line × (new ≡ old) × (after ≡ lines)
says_none line text words empty old new lines after same some tested is runs =
    let (none, stays, kept) = idle (request_of (strings_at words)) old new lines after runs in
    let spells : request_of (split_words line) ≡ None = spelled_by line text words None same is none in
    ((λ blank. not_empty words empty some tested (is ∙ ap (λ (l : List ℕ). take 7 (split_words l)) same ∙ ap (take 7) blank.1), λ request says. cc (spells, says.1)), stays, kept)
