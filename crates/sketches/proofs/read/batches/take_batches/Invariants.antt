use Rattle.std.proofs.Common.{length}
use Rattle.sketches.specs.RecordParts.{raws_by}
use Rattle.sketches.proofs.TakenBatches.{HasTakenFront}
use Rattle.sketches.proofs.read.batches.take_batches.Given as goal

abbrev pub invariant-each : goal.invariant-each
invariant-each g l = HasTakenFront (g.S.BatchSink.takes l.part) (raws_by l.part l.bytes) (raws_by l.part l.rest) l.fn.sink l.sink

abbrev pub decreases-each : goal.decreases-each
decreases-each g l = length l.rest
