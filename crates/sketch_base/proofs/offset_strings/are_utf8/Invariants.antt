use Rattle.std.proofs.Common.{ℕ, ◌-◌, ◌<◌, get_or}
use Rattle.std.specs.Str.{IsCharBoundary}
use Rattle.sketch_base.proofs.offset_strings.are_utf8.Given as goal

-- the strings so far begin at a character
abbrev pub invariant-each : goal.invariant-each
invariant-each g l = (k : ℕ) → k < l.i → IsCharBoundary l.text (get_or (g.O.Offsets.offsets l.offsets) k 0 - get_or (g.O.Offsets.offsets l.offsets) 0 0)
