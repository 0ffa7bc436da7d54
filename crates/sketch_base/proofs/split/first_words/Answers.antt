use Rattle.std.proofs.Common.{sym, ◌∙◌, arith}
use Rattle.sketch_base.specs.Split.{words_by}
use Rattle.sketch_base.proofs.FirstWords.{takes_one}
use Rattle.sketch_base.proofs.split.first_words.Goals as goal

pub loop-count-preserved : goal.loop-count-preserved
loop-count-preserved c =
    takes_one c.args.words.now (words_by c.args.separator c.args.text.now) c.loop-count.rest c.next_word-word.new.self c.loop-count.words c.next_word-word.result c.loop-count.count c.loop-count.invariant (omega (arith, c.loop-count-test.true, c.loop-count.invariant.1)) (sym c.is_empty.ensures ∙ c.if-is_empty.false) c.next_word-word.ensures.words
