use Rattle.std.proofs.Common.{◌∙◌, sym, arith}
use Rattle.std.proofs.lemmas.Bool.{eqb-true}
use Rattle.sketch_base.proofs.WordEnds.{after_taken, after_last, skipped_more, skipped_all}
use Rattle.sketch_base.proofs.byte_words.ByteWords.skip_words.Goals as goal

pub returns-then-is_empty : goal.returns-then-is_empty
returns-then-is_empty c =
    after_last c.next_word.result.now c.loop-left.self c.next_word.new.self (eqb-true _ 0 (sym c.is_empty.ensures ∙ c.if-is_empty.true)) c.next_word.ensures.words c.next_word.ensures.none c.loop-left.left
    ∙ skipped_all c.args.n c.loop-left.left c.args.self.now c.loop-left.self c.loop-left.invariant.0 c.loop-left.invariant.1

pub loop-left-preserved : goal.loop-left-preserved
loop-left-preserved c = (
  omega (arith, c.skip_marked-left-in-loop-left.ensures.count, c.loop-left.invariant.0),
  skipped_more c.args.n c.loop-left.left c.skip_marked-left-in-loop-left.result c.args.self.now c.loop-left.self c.next_word.new.self c.skip_marked-left-in-loop-left.new.self c.loop-left-test.true c.loop-left.invariant.0 c.skip_marked-left-in-loop-left.ensures.count c.loop-left.invariant.1
      (after_taken c.next_word.result.now c.loop-left.self c.next_word.new.self c.next_word.ensures.words c.next_word.ensures.none) c.skip_marked-left-in-loop-left.ensures.words,
)
