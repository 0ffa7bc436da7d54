use Rattle.std.proofs.Common.{◌∙◌, refl, sym}
use Rattle.std.proofs.lemmas.Bool.{false≢true}
use Rattle.datasketches_cli.proofs.Transcripts.{turns_on, turns_bad, turns_last}
use Rattle.datasketches_cli.proofs.serve.answer_lines.Goals as goal

pub returns-then-is_bad : goal.returns-then-is_bad
returns-then-is_bad g c = record {
  served = turns_bad _ _ _ _ _ _ _ _ c.loop-before.responder c.answer_next.new.responder c.write_due.new.replies _ _ _ c.loop-before.invariant.0 c.in_ok-write_due.ensures.written c.in_ok-became.ensures.answered (c.is_bad.ensures.0 c.if-is_bad.true) refl c.in_ok-write_bad.ensures.written;
  all_read = λ e. cc;
  all_written = c.in_ok-write_bad.ensures.kept ∙ c.in_ok-write_due.ensures.kept ∙ c.loop-before.invariant.1;
}

pub returns-then-not-more : goal.returns-then-not-more
returns-then-not-more g c =
    let end = c.in_ok-became.ensures.end c.if-not-more.true in
    record {
      served = turns_last _ _ _ _ _ _ _ _ _ c.loop-before.responder c.answer_next.new.responder c.write_due.new.replies _ _ c.loop-before.invariant.0 c.in_ok-write_due.ensures.written c.in_ok-became.ensures.answered (λ e. false≢true (sym c.if-is_bad.false ∙ c.is_bad.ensures.1 e)) end.0 end.1 c.in_ok-write_out.ensures.written;
      all_read = λ all. end.1;
      all_written = c.in_ok-write_out.ensures.kept ∙ c.in_ok-write_due.ensures.kept ∙ c.loop-before.invariant.1;
    }

pub loop-before-preserved : goal.loop-before-preserved
loop-before-preserved g c = (
  turns_on _ _ _ _ _ _ _ c.loop-before.responder c.answer_next.new.responder c.write_due.new.replies _ _ c.loop-before.invariant.0 c.in_ok-write_due.ensures.written c.in_ok-became.ensures.answered (λ e. false≢true (sym c.if-is_bad.false ∙ c.is_bad.ensures.1 e)) (c.in_ok-became.ensures.some c.if-not-more.false),
  c.in_ok-write_due.ensures.kept ∙ c.loop-before.invariant.1,
  c.in_ok-became.ensures.keys,
)
