use Rattle.std.proofs.Common.{length}
use Rattle.std.specs.Str.Lines.{lines}
use Rattle.sketches.proofs.AddedItems.{HasAddedLines}
use Rattle.sketches.proofs.Utf8Strings.{HasGrown}
use Rattle.sketches.specs.declared.item.weighing.Weighing.TheVariants.{Once}
use Rattle.sketches.proofs.count.counting.add_raw_lines.Given as goal

abbrev pub invariant-each : goal.invariant-each
invariant-each l = HasAddedLines l.selection l.fn.sketch (lines l.bytes) (lines l.rest) l.sketch × HasGrown (Once l.selection) l.fn.not_utf8 (lines l.bytes) (lines l.rest) l.not_utf8

abbrev pub decreases-each : goal.decreases-each
decreases-each l = length l.rest
