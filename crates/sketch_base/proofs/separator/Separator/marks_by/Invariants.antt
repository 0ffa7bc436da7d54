use Rattle.std.proofs.Common.{◌≡◌, ◌+◌, ◌*◌, ◌-◌, ◌^◌, ◌<◌, length, drop}
use Rattle.sketch_base.specs.Split.{separates}
use Rattle.sketch_base.proofs.Marks.{marks}
use Rattle.sketch_base.proofs.separator.Separator.marks_by.Given as goal

abbrev pub invariant-loop-at : goal.invariant-loop-at
invariant-loop-at g l =
    (l.at < length l.bytes)
    × (marks (separates l.self) l.bytes ≡ l.marks + marks (separates l.self) (drop l.at l.bytes) * 2 ^ l.at)

abbrev pub decreases-loop-at : goal.decreases-loop-at
decreases-loop-at g l = l.last - l.at
