use Rattle.std.proofs.Common.{length}
use Rattle.sketch_text.specs.Records.{records_by}
use Rattle.sketches.specs.Skipped.{skips_row}
use Rattle.sketches.proofs.SkippedLines.{HasSkipped}
use Rattle.sketches.proofs.TakenKeys.{HasSummedLines}
use Rattle.sketches.proofs.weight.key_sums.add_lines.Given as goal

abbrev pub invariant-each : goal.invariant-each
invariant-each l =
    HasSummedLines l.chosen l.fn.sums.entries l.fn.total l.fn.count (records_by l.chosen.item l.bytes) (records_by l.chosen.item l.rest) l.sums.entries l.total l.count
    × HasSkipped (skips_row l.chosen) l.fn.bad (records_by l.chosen.item l.bytes) (records_by l.chosen.item l.rest) l.bad

abbrev pub decreases-each : goal.decreases-each
decreases-each l = length l.rest
