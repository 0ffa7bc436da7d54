use Rattle.std.proofs.Common.{◌≡◌, ◌-◌, ◌^◌}
use Rattle.std.specs.Io.KnownBytes.{prepend_known}
use Rattle.std.specs.String.{string_bytes}
use Rattle.datasketches_cli.specs.Serving.{HasOwnKeys}
use Rattle.datasketches_cli.proofs.Transcripts.{Midway}
use Rattle.datasketches_cli.proofs.serve.answer_lines.Given as goal

abbrev pub invariant-loop-before : goal.invariant-loop-before
invariant-loop-before g l =
    Midway l.fn.responder.state.session.keys (g.R.Read.remaining l.fn.reader.inner) (prepend_known l.lines (g.R.Read.remaining l.reader.inner)) (g.W.Write.contents l.fn.writer.inner) (g.W.Write.contents l.writer.inner) (string_bytes l.responder.replies) l.responder.state l.before
    × (l.writer.failures ≡ l.fn.writer.failures) × HasOwnKeys l.responder

abbrev pub decreases-loop-before : goal.decreases-loop-before
decreases-loop-before g l = 2 ^ 128 - l.before
