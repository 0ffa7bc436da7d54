use Rattle.std.proofs.Common.{length}
use Rattle.examples.proofs.sketch_base_docs.validity.number_of_nulls.Given as goal

abbrev pub decreases-loop-is_valid : goal.decreases-loop-is_valid
decreases-loop-is_valid l = length l.rows
