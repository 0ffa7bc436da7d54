use Rattle.std.proofs.Common.{length}
use Rattle.std.specs.Str.Lines.{lines}
use Rattle.sketches.proofs.AddedItems.{HasAddedLines}
use Rattle.sketches.proofs.count.counting.add_text.Given as goal

abbrev pub invariant-each : goal.invariant-each
invariant-each l = HasAddedLines l.selection l.fn.sketch (lines l.text) l.lines l.sketch

abbrev pub decreases-each : goal.decreases-each
decreases-each l = length l.lines
