use Rattle.std.proofs.Common.{length}
use Rattle.sketch_text.specs.Records.{records_by}
use Rattle.sketches.specs.Skipped.{skips_row}
use Rattle.sketches.proofs.SkippedLines.{HasSkipped}
use Rattle.sketches.proofs.ItemWeights.{HasCountedLines}
use Rattle.sketches.proofs.weight.item_weigher.add_lines.Given as goal

abbrev pub invariant-each : goal.invariant-each
invariant-each l =
    HasCountedLines l.chosen l.fn.sketch l.fn.count (records_by l.chosen.item l.bytes) (records_by l.chosen.item l.rest) l.sketch l.count
    × HasSkipped (skips_row l.chosen) l.fn.bad (records_by l.chosen.item l.bytes) (records_by l.chosen.item l.rest) l.bad

abbrev pub decreases-each : goal.decreases-each
decreases-each l = length l.rest
