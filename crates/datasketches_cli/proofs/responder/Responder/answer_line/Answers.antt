use Rattle.std.proofs.Common.{sym, subst}
use Rattle.datasketches.specs.Replies.{done_or}
use Rattle.datasketches.specs.State.{SessionKeys}
use Rattle.datasketches_cli.specs.Answers.{Replied}
use Rattle.datasketches_cli.specs.KeyValues.{HasKeys}
use Rattle.datasketches_cli.specs.declared.state.State.{State}
use Rattle.datasketches_cli.proofs.Hashing.{serving_keys}
use Rattle.datasketches_cli.proofs.Spelling.{says_called, says_none, says_written}
use Rattle.datasketches_cli.proofs.responder.Responder.answer_line.Goals as goal

pub returns-in-NoRequest : goal.returns-in-NoRequest
returns-in-NoRequest c =
    let (bad, stays, kept) = says_none c.args.line.now c.in-Ok.text.now _ _ _ _ _ _ c.in-Ok.ensures.cases.0 c.if-is_empty.false c.is_empty.ensures c.first_words-count.ensures.words c.in-NoRequest.ensures in
    record { answered = (bad, (stays, kept)); keys = subst (λ (s : State). HasKeys c.args.self.now.keys s.session.keys) (sym stays) c.requires.keys }

pub returns-in_ok-write_done-in-Done : goal.returns-in_ok-write_done-in-Done
returns-in_ok-write_done-in-Done c =
    let (request, says, step, kept) = says_called c.args.line.now c.in-Ok.text.now _ _ _ _ _ c.in-Done.outcome c.in-Ok.ensures.cases.0 c.in-Ok.ensures.cases.1 c.first_words-count.ensures.words c.in-Done.ensures in
    record {
      answered = (request, says, (Replied (done_or c.in-Done.outcome), step, rw kept at c.in_ok-write_done-in-Done.ensures));
      keys = subst (λ (own : SessionKeys). HasKeys c.args.self.now.keys own) (sym (serving_keys c.args.self.now.state request (Replied (done_or c.in-Done.outcome)) c.run.new.self step)) c.requires.keys;
    }

pub returns-in-Written : goal.returns-in-Written
returns-in-Written c =
    let (request, says, answer, step, gathered) = says_written c.args.line.now c.in-Ok.text.now _ _ _ _ _ c.in-Ok.ensures.cases.0 c.in-Ok.ensures.cases.1 c.first_words-count.ensures.words c.in-Written.ensures in
    record {
      answered = (request, says, (answer, step, gathered));
      keys = subst (λ (own : SessionKeys). HasKeys c.args.self.now.keys own) (sym (serving_keys c.args.self.now.state request answer c.run.new.self step)) c.requires.keys;
    }
