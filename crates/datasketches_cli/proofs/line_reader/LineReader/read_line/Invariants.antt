use Rattle.std.specs.Io.KnownBytes.{prepend_known}
use Rattle.datasketches_cli.proofs.LineReading.{Begins}
use Rattle.datasketches_cli.proofs.line_reader.LineReader.read_line.Given as goal

abbrev pub invariant-tries : goal.invariant-tries
invariant-tries g l =
    Begins (prepend_known l.fn.self (g.R.Read.remaining l.fn.reader.inner)) (prepend_known l.self (g.R.Read.remaining l.reader.inner)) l.line.items
