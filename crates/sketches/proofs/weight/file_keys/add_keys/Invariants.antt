use Rattle.std.proofs.Common.{length}
use Rattle.sketch_text.specs.Records.{records_by}
use Rattle.sketches.proofs.TakenKeys.{HasTakenKeys}
use Rattle.sketches.specs.KeySums.{StaysWithin}
use Rattle.sketches.proofs.weight.file_keys.add_keys.Given as goal

abbrev pub invariant-each : goal.invariant-each
invariant-each l = HasTakenKeys l.part l.fn.sums.entries l.fn.order.items (records_by l.part l.bytes) (records_by l.part l.rest) l.sums.entries l.order.items × StaysWithin l.max_keys l.fn.sums.entries l.sums.entries

abbrev pub decreases-each : goal.decreases-each
decreases-each l = length l.rest
