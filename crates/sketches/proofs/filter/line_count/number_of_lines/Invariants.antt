use Rattle.std.proofs.Common.{◌≡◌, ◌+◌, ◌≤◌, length}
use Rattle.sketches.specs.RecordParts.{raws_by}
use Rattle.sketches.proofs.filter.line_count.number_of_lines.Given as goal

abbrev pub invariant-each : goal.invariant-each
invariant-each l = (l.lines + length (raws_by l.part l.rest) ≡ length (raws_by l.part l.bytes)) × (l.lines + length l.rest ≤ length l.bytes)

abbrev pub decreases-each : goal.decreases-each
decreases-each l = length l.rest
