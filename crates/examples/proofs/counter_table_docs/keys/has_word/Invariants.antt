use Rattle.std.proofs.Common.{length}
use Rattle.examples.proofs.counter_table_docs.keys.has_word.Given as goal

abbrev pub decreases-loop-key : goal.decreases-loop-key
decreases-loop-key l = length l.words
