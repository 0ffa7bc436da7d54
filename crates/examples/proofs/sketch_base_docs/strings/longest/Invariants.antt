use Rattle.std.proofs.Common.{length}
use denote.Text.{Utf8}
use denote.Shadow.{shadow}
use Rattle.examples.proofs.sketch_base_docs.strings.longest.Given as goal

abbrev pub invariant-loop-string : goal.invariant-loop-string
invariant-loop-string g l = shadow (Utf8 l.longest)

abbrev pub decreases-loop-string : goal.decreases-loop-string
decreases-loop-string g l = length (g.S.Strings.strings l.strings)
