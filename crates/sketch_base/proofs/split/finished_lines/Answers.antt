use Rattle.sketch_base.proofs.SplitEnds.{lines_split}
use Rattle.sketch_base.proofs.split.finished_lines.Goals as goal

pub returns-clause-lines : goal.returns-clause-lines
returns-clause-lines c = lines_split c.args.bytes.now c.finished_words.result c.finished_words.ensures.bound c.finished_words.ensures.last
