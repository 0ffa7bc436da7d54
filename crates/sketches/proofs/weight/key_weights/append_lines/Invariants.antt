use Rattle.std.proofs.Common.{length}
use Rattle.sketch_text.specs.Records.{records_by}
use Rattle.sketches.proofs.ItemWeights.{HasWrittenKeys}
use Rattle.sketches.proofs.weight.key_weights.append_lines.Given as goal

abbrev pub invariant-each : goal.invariant-each
invariant-each l = HasWrittenKeys l.style l.part l.sketch (records_by l.part l.bytes) (records_by l.part l.rest) l.fn.written.items l.written.items

abbrev pub decreases-each : goal.decreases-each
decreases-each l = length l.rest
