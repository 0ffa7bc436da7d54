use Rattle.std.proofs.Common.{length}
use Rattle.sketches.proofs.SummedInputs.{HasSentRows}
use Rattle.sketches.proofs.weight.sum_rows.write_rows.Given as goal

abbrev pub invariant-each : goal.invariant-each
invariant-each g l = HasSentRows l.style l.sums.entries l.order l.rest (g.W.Output.contents l.fn.writer) (g.W.Output.contents l.writer) l.written.items

abbrev pub decreases-each : goal.decreases-each
decreases-each g l = length l.rest
