use Rattle.std.proofs.Common.{length}
use Rattle.sketch_text.proofs.ItemsOfRecords.{HasTaken}
use Rattle.sketch_text.proofs.record_items.RecordItems.read.Given as goal

abbrev pub invariant-each : goal.invariant-each
invariant-each g l = HasTaken g.W.RecordWeight.reads g.W.RecordWeight.ONE l.chosen l.bytes l.rest l.count l.found

abbrev pub decreases-each : goal.decreases-each
decreases-each g l = length l.rest
