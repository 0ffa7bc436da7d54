use Rattle.std.proofs.Common.{◌≡◌, length, ◌+◌}
use Rattle.any_sketch.proofs.many_items.count_strings.Given as goal

-- each string that was taken was counted
abbrev pub invariant-each : goal.invariant-each
invariant-each g l = length (g.S.Strings.strings l.strings) + l.count ≡ length (g.S.Strings.strings l.fn.strings)

abbrev pub decreases-each : goal.decreases-each
decreases-each g l = length (g.S.Strings.strings l.strings)
