-- The loop from lines to replies: what was written so far, and what is still to come.
use Rattle.std.proofs.Common.{◌≡◌, ◌≢◌, ℕ, ◌+◌, true, false, List, [], ◌∷◌, ◌++◌, Option, None, Some, inl, inr, append_assoc, append-nil, refl, sym, ◌∙◌, ap, subst}
use Rattle.std.specs.Option.{IfSome, IsSome}
use Rattle.std.specs.Io.BufRead.{take_through, drop_through, strip_last}
use Rattle.std.specs.Io.KnownBytes.{Appends, IsAtEnd, prepend_known}
use Rattle.std.specs.String.{string_bytes}
use Rattle.std.proofs.lemmas.Bool.{false≢true}
use Rattle.datasketches.specs.State.{SessionKeys}
use Rattle.datasketches_cli.specs.Answers.{Answer}
use Rattle.datasketches_cli.specs.Requests.{Request}
use Rattle.datasketches_cli.specs.declared.state.State.{State}
use Rattle.datasketches_cli.specs.declared.serve.Ended.{Ended}
use Rattle.datasketches_cli.specs.declared.serve.Ended.TheVariants.{All, BadLine}
use Rattle.datasketches_cli.specs.declared.responder.Responder.{Responder}
use Rattle.datasketches_cli.specs.declared.responder.LineOutcome.{LineOutcome}
use Rattle.datasketches_cli.specs.declared.responder.LineOutcome.TheVariants.{Blank, Answered, Bad}
use Rattle.datasketches_cli.specs.Reading.{TakesLine}
use Rattle.datasketches_cli.specs.Serving.{AnswersNext, WritesFront}
use Rattle.datasketches_cli.specs.Transcript.{Transcript, ServesUnder, lines_of, answer_line, bad_line}
use Rattle.datasketches_cli.specs.Steps.{nothing_served, ServingStep}
use Rattle.datasketches_cli.specs.Asking.{Says, IsBad}
use Rattle.datasketches_cli.specs.Grammar.{IsBlank}
use Rattle.datasketches_cli.specs.Texts.{Text}
use Rattle.datasketches_cli.proofs.Lines.{lines_first}

-- whatever comes of the rest of the input by what serves it, with what was written and gathered before it, comes of the whole input
abbrev pub Leads : SessionKeys → List ℕ → List ℕ → List ℕ → State → ℕ → Type 0
Leads own input rest front state before = (ended : Ended) (more : List ℕ) → Transcript (before + 1) state (lines_of rest) ended more → Transcript 1 (nothing_served own) (lines_of input) ended (front ++ more)

-- where the input's bytes are known: some were read and some text was written, more is gathered, and the rest is still to come
abbrev pub Midway : SessionKeys → Option (List ℕ) → Option (List ℕ) → Option (List ℕ) → Option (List ℕ) → List ℕ → State → ℕ → Type 0
Midway own was is held holds gathered state before = IfSome was (λ input. (rest : List ℕ) × (is ≡ Some rest) × (text : List ℕ) × Appends held holds text × Leads own input rest (text ++ gathered) state before)

-- the text of a line as it was read
abbrev pub text_of : List ℕ → List ℕ
text_of line = strip_last 13 (strip_last 10 line)

appends_both : (a b c : Option (List ℕ)) (x y : List ℕ) → Appends a b x → Appends b c y → Appends a c (x ++ y)
appends_both None b c x y p q = p
appends_both (Some a) None c x y p q = absurd p
appends_both (Some a) (Some b) None x y p q = absurd q
appends_both (Some a) (Some b) (Some c) x y p q = q ∙ ap (λ (l : List ℕ). l ++ y) p ∙ append_assoc a x y

-- some of what was gathered is written
pub wrote : (own : SessionKeys) (was is held holds now : Option (List ℕ)) (gathered left : List ℕ) (state : State) (before : ℕ) → Midway own was is held holds gathered state before → WritesFront holds now gathered left → Midway own was is held now left state before
wrote own None is held holds now gathered left state before m w = tt
wrote own (Some input) is held holds now gathered left state before (rest, e, text, told, leads) (front, more, split) = (
  rest,
  e,
  text ++ front,
  appends_both held holds now text front told more,
  subst (λ (l : List ℕ). Leads own input rest l state before) (ap (λ (l : List ℕ). text ++ l) split ∙ sym (append_assoc text front left)) leads,
)

-- the line that was read is the first of the rest
first_of : (rest line : List ℕ) → rest ≢ [] → line ≡ take_through 10 rest → lines_of rest ≡ text_of line ∷ lines_of (drop_through 10 rest)
first_of rest line some e = rw e (lines_first rest some)

-- a blank line was read
pub passed : (own : SessionKeys) (was is now held holds : Option (List ℕ)) (gathered line : List ℕ) (state : State) (before : ℕ) → Midway own was is held holds gathered state before → TakesLine true is now line → IsBlank (text_of line) → Midway own was now held holds gathered state (before + 1)
passed own None is now held holds gathered line state before m t blank = tt
passed own (Some input) is now held holds gathered line state before (rest, e, text, told, leads) t blank =
    let t' = rw e at t in
    (drop_through 10 rest, t'.2, text, told, λ ended more goes. leads ended more (rw (first_of rest line t'.0 t'.1) (inl (blank, goes))))

-- a request was read, done and answered
pub answered : (own : SessionKeys) (was is now held holds : Option (List ℕ)) (gathered gathered' line : List ℕ) (state after : State) (before : ℕ) (request : Request) (answer : Answer) → Midway own was is held holds gathered state before → TakesLine true is now line → Says (text_of line) request → ServingStep state request answer after → gathered' ≡ gathered ++ answer_line answer → Midway own was now held holds gathered' after (before + 1)
answered own None is now held holds gathered gathered' line state after before request answer m t says step more = tt
answered own (Some input) is now held holds gathered gathered' line state after before request answer (rest, e, text, told, leads) t says step grown =
    let t' = rw e at t in
    let joined = λ (more : List ℕ). ap (λ (l : List ℕ). (text ++ l) ++ more) grown ∙ ap (λ (l : List ℕ). l ++ more) (sym (append_assoc text gathered (answer_line answer))) ∙ append_assoc (text ++ gathered) (answer_line answer) more in (
      drop_through 10 rest,
      t'.2,
      text,
      told,
      λ ended more goes. subst (λ (l : List ℕ). Transcript 1 (nothing_served own) (lines_of input) ended l) (sym (joined more))
          (leads ended (answer_line answer ++ more) (rw (first_of rest line t'.0 t'.1) (inr (inl (request, answer, after, more, says, step, refl, goes))))),
    )

-- a bad line was read, and named
pub named : (own : SessionKeys) (was is now held holds holds' : Option (List ℕ)) (gathered line : List ℕ) (state : State) (before : ℕ) → Midway own was is held holds gathered state before → TakesLine true is now line → IsBad (text_of line) → Appends holds holds' (gathered ++ bad_line (before + 1)) → ServesUnder own was held holds' (BadLine (before + 1))
named own None is now held holds holds' gathered line state before m t bad wrote = tt
named own (Some input) is now held holds holds' gathered line state before (rest, e, text, told, leads) t bad wrote =
    let t' = rw e at t in (
      text ++ (gathered ++ bad_line (before + 1)),
      appends_both held holds holds' text (gathered ++ bad_line (before + 1)) told wrote,
      subst (λ (l : List ℕ). Transcript 1 (nothing_served own) (lines_of input) (BadLine (before + 1)) l) (append_assoc text gathered (bad_line (before + 1)))
          (leads (BadLine (before + 1)) (bad_line (before + 1)) (rw (first_of rest line t'.0 t'.1) (inr (inr (bad, refl, refl))))),
    )

-- no line is left
pub all_read : (own : SessionKeys) (was is now held holds holds' : Option (List ℕ)) (gathered line : List ℕ) (state : State) (before : ℕ) → Midway own was is held holds gathered state before → TakesLine false is now line → Appends holds holds' gathered → ServesUnder own was held holds' All
all_read own None is now held holds holds' gathered line state before m t wrote = tt
all_read own (Some input) is now held holds holds' gathered line state before (rest, e, text, told, leads) t wrote =
    let none : rest ≡ [] = rw e at t in (
      text ++ gathered,
      appends_both held holds holds' text gathered told wrote,
      subst (λ (l : List ℕ). Transcript 1 (nothing_served own) (lines_of input) All l) (append-nil (text ++ gathered)) (leads All [] (rw none (refl, refl))),
    )

-- the same but for what is gathered
abbrev pub with_replies : Responder → Text → Responder
with_replies old replies = record { alloc = old.alloc; keys = old.keys; state = old.state; replies = replies }

-- a turn with a line that is not bad
pub turns : (own : SessionKeys) (was is now held mid holds : Option (List ℕ)) (old new : Responder) (left : Text) (before : ℕ) (found : Option LineOutcome) (became : LineOutcome) →
    Midway own was is held mid (string_bytes old.replies) old.state before → WritesFront mid holds (string_bytes old.replies) (string_bytes left) → AnswersNext is now (with_replies old left) new found → found ≡ Some became → became ≢ Bad →
    Midway own was now held holds (string_bytes new.replies) new.state (before + 1)
turns own was is now held mid holds old new left before found Blank m w next f good =
    let (line, t, (blank, (s, l))) = rw f at next in
    rw (s, l) (passed own was is now held holds (string_bytes left) line old.state before (wrote own was is held mid holds (string_bytes old.replies) (string_bytes left) old.state before m w) t blank)
turns own was is now held mid holds old new left before found Answered m w next f good =
    let (line, t, (request, says, (answer, step, grown))) = rw f at next in
    answered own was is now held holds (string_bytes left) (string_bytes new.replies) line old.state new.state before request answer (wrote own was is held mid holds (string_bytes old.replies) (string_bytes left) old.state before m w) t says step grown
turns own was is now held mid holds old new left before found Bad m w next f good = absurd (good refl)

-- a turn with a bad line
pub turns_bad : (own : SessionKeys) (was is now held mid holds holds' : Option (List ℕ)) (old new : Responder) (left : Text) (before : ℕ) (found : Option LineOutcome) (became : LineOutcome) →
    Midway own was is held mid (string_bytes old.replies) old.state before → WritesFront mid holds (string_bytes old.replies) (string_bytes left) → AnswersNext is now (with_replies old left) new found → found ≡ Some became → became ≡ Bad → Appends holds holds' (string_bytes new.replies ++ bad_line (before + 1)) →
    ServesUnder own was held holds' (BadLine (before + 1))
turns_bad own was is now held mid holds holds' old new left before found became m w next f b wrote' =
    let (line, t, (bad, (s, l))) = rw (f, b) at next in
    named own was is now held holds holds' (string_bytes left) line old.state before (wrote own was is held mid holds (string_bytes old.replies) (string_bytes left) old.state before m w) t bad (rw (sym l) wrote')

-- a turn with a line that is not bad, where there is one
pub turns_on : (own : SessionKeys) (was is now held mid holds : Option (List ℕ)) (old new : Responder) (left : Text) (before : ℕ) (found : Option LineOutcome) →
    Midway own was is held mid (string_bytes old.replies) old.state before → WritesFront mid holds (string_bytes old.replies) (string_bytes left) → AnswersNext is now (with_replies old left) new found → found ≢ Some Bad → IsSome found →
    Midway own was now held holds (string_bytes new.replies) new.state (before + 1)
turns_on own was is now held mid holds old new left before None m w next good some = absurd (false≢true some)
turns_on own was is now held mid holds old new left before (Some became) m w next good some =
    turns own was is now held mid holds old new left before (Some became) became m w next refl (λ bad. good (ap Some bad))

-- no line is left
nothing_left : (unread : List ℕ) (left : Option (List ℕ)) → unread ≡ [] → IsAtEnd left → TakesLine false (prepend_known unread left) None []
nothing_left unread None e end = tt
nothing_left unread (Some xs) e end = ap (λ (l : List ℕ). l ++ xs) e ∙ end

-- the last turn, with a line that is not bad or with none
pub turns_last : (own : SessionKeys) (was is left' held mid holds holds' : Option (List ℕ)) (unread : List ℕ) (old new : Responder) (left : Text) (before : ℕ) (found : Option LineOutcome) →
    Midway own was is held mid (string_bytes old.replies) old.state before → WritesFront mid holds (string_bytes old.replies) (string_bytes left) → AnswersNext is (prepend_known unread left') (with_replies old left) new found → found ≢ Some Bad → unread ≡ [] → IsAtEnd left' → Appends holds holds' (string_bytes new.replies) →
    ServesUnder own was held holds' All
turns_last own was is left' held mid holds holds' unread old new left before None m w next good e end wrote' =
    let (none, (s, l)) = next in
    all_read own was is None held holds holds' (string_bytes left) [] old.state before (wrote own was is held mid holds (string_bytes old.replies) (string_bytes left) old.state before m w) none (rw (sym l) wrote')
turns_last own was is left' held mid holds holds' unread old new left before (Some became) m w next good e end wrote' =
    all_read own was (prepend_known unread left') None held holds holds' (string_bytes new.replies) [] new.state (before + 1)
    (turns own was is (prepend_known unread left') held mid holds old new left before (Some became) became m w next refl (λ bad. good (ap Some bad)))
    (nothing_left unread left' e end) wrote'
