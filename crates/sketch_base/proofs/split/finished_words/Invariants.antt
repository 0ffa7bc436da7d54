use Rattle.std.proofs.Common.{◌≤◌, length}
use Rattle.sketch_base.specs.Split.{separates}
use Rattle.sketch_base.proofs.SplitEnds.{NoneBehind}
use Rattle.sketch_base.proofs.split.finished_words.Given as goal

abbrev pub invariant-loop-end : goal.invariant-loop-end
invariant-loop-end l = (l.end ≤ length l.bytes) × NoneBehind (separates l.separator) l.bytes l.end

abbrev pub decreases-loop-end : goal.decreases-loop-end
decreases-loop-end l = l.end
