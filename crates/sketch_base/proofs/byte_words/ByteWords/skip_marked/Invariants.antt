use Rattle.std.proofs.Common.{◌-◌, ◌≤◌}
use Rattle.sketch_base.proofs.WordEnds.{HasPassed}
use Rattle.sketch_base.proofs.byte_words.ByteWords.skip_marked.Given as goal

abbrev pub invariant-loop-left : goal.invariant-loop-left
invariant-loop-left l = (l.left ≤ l.n) × HasPassed l.self-inside.separator l.self-inside.bytes.now l.self-inside.unmarked (l.n - l.left) l.ends l.at

abbrev pub decreases-loop-left : goal.decreases-loop-left
decreases-loop-left l = l.left
