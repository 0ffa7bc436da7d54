use Rattle.std.proofs.Common.{◌≡◌, ℕ, ◌+◌, ◌-◌, ◌<◌, ◌≤◌, length, get_or}
use Rattle.sketch_base.proofs.offset_strings.are_offsets.Given as goal

-- the offsets so far are such, and the last of them is kept
abbrev pub invariant-each : goal.invariant-each
invariant-each g l = record {
  ascending : (k : ℕ) → k + 1 < l.i → get_or (g.O.Offsets.offsets l.offsets) k 0 ≤ get_or (g.O.Offsets.offsets l.offsets) (k + 1) 0;
  within : (k : ℕ) → k < l.i → get_or (g.O.Offsets.offsets l.offsets) k 0 ≤ length l.bytes;
  first : l.i ≡ 0 → l.last ≡ 0;
  last : 0 < l.i → l.last ≡ get_or (g.O.Offsets.offsets l.offsets) (l.i - 1) 0;
}
