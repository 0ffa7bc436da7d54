use Rattle.std.proofs.Common.{length}
use Rattle.std.specs.Str.Lines.{lines}
use Rattle.sketches.specs.Skipped.{skips_line}
use Rattle.sketches.specs.declared.item.weighing.Weighing.TheVariants.{Field}
use Rattle.sketches.proofs.SkippedLines.{HasSkipped}
use Rattle.sketches.proofs.WeighedLines.{HasWeighedLines}
use Rattle.sketches.proofs.Utf8Strings.{HasGrown}
use Rattle.sketches.proofs.count.weighed_lines.add_weighed_lines.Given as goal

abbrev pub invariant-each : goal.invariant-each
invariant-each l =
    HasWeighedLines (Field l.part) l.fn.sketch l.fn.count (lines l.bytes) (lines l.rest) l.sketch l.count
    × HasGrown (Field l.part) l.fn.not_utf8 (lines l.bytes) (lines l.rest) l.not_utf8
    × HasSkipped (skips_line l.part) l.fn.bad (lines l.bytes) (lines l.rest) l.bad

abbrev pub decreases-each : goal.decreases-each
decreases-each l = length l.rest
