use Rattle.std.proofs.Common.{◌≤◌, ◌-◌, length}
use Rattle.sketch_base.proofs.Searching.{NoneBefore}
use Rattle.sketch_base.proofs.byte_set.first_member.Given as goal

abbrev pub invariant-loop-at : goal.invariant-loop-at
invariant-loop-at g l = (l.at ≤ length l.bytes) × NoneBefore (g.S.ByteSet.member l.set) l.bytes l.at

abbrev pub decreases-loop-at : goal.decreases-loop-at
decreases-loop-at g l = length l.bytes - l.at

abbrev pub invariant-loop-at-2 : goal.invariant-loop-at-2
invariant-loop-at-2 g l = (l.at ≤ length l.bytes) × NoneBefore (g.S.ByteSet.member l.set) l.bytes l.at

abbrev pub decreases-loop-at-2 : goal.decreases-loop-at-2
decreases-loop-at-2 g l = length l.bytes - l.at
