use Rattle.std.proofs.Common.{◌≡◌}
use Rattle.sketches.proofs.OutputFronts.{HasWritten}
use Rattle.sketches.proofs.print.output.WatchedOutput.write_all.Given as goal

abbrev pub invariant-each : goal.invariant-each
invariant-each g l = HasWritten (g.W.Write.contents l.fn.self.inner) (g.W.Write.contents l.self.inner) l.bytes l.rest × (l.self.failure ≡ l.fn.self.failure)
