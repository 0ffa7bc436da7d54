use Rattle.std.proofs.Common.{◌≡◌}
use Rattle.sketches.specs.Inputs.{TakesBegun}
use Rattle.sketches.proofs.ReadInputs.{HasTakenSome}
use Rattle.sketches.proofs.read.inputs.read_inputs.Given as goal

abbrev pub invariant-each : goal.invariant-each
invariant-each g l =
    HasTakenSome (g.S.LineSink.splits l.fn.sink) l.limit (TakesBegun g.S.LineSink.begins g.S.LineSink.takes) l.complete (g.I.Inputs.inputs l.fn.inputs) (g.I.Inputs.inputs l.inputs) (g.I.Inputs.fails l.fn.inputs) (g.I.Inputs.fails l.inputs) (l.fn.sink, l.fn.output) (l.sink, l.output)
    × (g.S.LineSink.splits l.sink ≡ g.S.LineSink.splits l.fn.sink)
