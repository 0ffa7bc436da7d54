use Rattle.std.proofs.Common.{length}
use Rattle.examples.proofs.sketch_base_docs.items.number_of_words.Given as goal

abbrev pub decreases-loop-count : goal.decreases-loop-count
decreases-loop-count l = length l.words
