use Rattle.std.proofs.Common.{length}
use Rattle.sketch_text.specs.Records.{records_by}
use Rattle.sketches.specs.Skipped.{skips_row}
use Rattle.sketches.specs.declared.item.weighing.Weighing.TheVariants.{Record}
use Rattle.sketches.proofs.SkippedLines.{HasSkipped}
use Rattle.sketches.proofs.WeighedLines.{HasWeighedLines}
use Rattle.sketches.proofs.Utf8Strings.{HasGrown}
use Rattle.sketches.proofs.count.record_items.add_records.Given as goal

abbrev pub invariant-each : goal.invariant-each
invariant-each l =
    HasWeighedLines (Record l.chosen) l.fn.sketch l.fn.count (records_by l.chosen.item l.bytes) (records_by l.chosen.item l.rest) l.sketch l.count
    × HasGrown (Record l.chosen) l.fn.not_utf8 (records_by l.chosen.item l.bytes) (records_by l.chosen.item l.rest) l.not_utf8
    × HasSkipped (skips_row l.chosen) l.fn.bad (records_by l.chosen.item l.bytes) (records_by l.chosen.item l.rest) l.bad

abbrev pub decreases-each : goal.decreases-each
decreases-each l = length l.rest
