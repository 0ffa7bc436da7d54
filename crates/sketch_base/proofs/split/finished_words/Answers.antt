use Rattle.std.proofs.Common.{sym, ◌∙◌}
use Rattle.sketch_base.proofs.SplitEnds.{words_split, utf8_cut}
use Rattle.sketch_base.proofs.split.finished_words.Goals as goal

pub returns-else-not-separates-clause-words : goal.returns-else-not-separates-clause-words
returns-else-not-separates-clause-words c =
    words_split c.args.separator c.args.bytes.now c.loop-end.end c.loop-end.invariant.0 (λ some. sym c.separates.ensures ∙ c.if-not-separates.false, c.loop-end.invariant.1)

pub returns-else-not-separates-clause-utf8 : goal.returns-else-not-separates-clause-utf8
returns-else-not-separates-clause-utf8 c =
    utf8_cut c.args.separator c.args.bytes.now c.loop-end.end c.loop-end.invariant.0 (λ some. sym c.separates.ensures ∙ c.if-not-separates.false, c.loop-end.invariant.1)
