use Rattle.std.proofs.Common.{◌≡◌, ◌+◌, ◌-◌, ◌≤◌, length, take}
use Rattle.sketch_base.specs.Strings.{strings_at}
use Rattle.sketches.specs.Unseen.{AreNextLines}
use Rattle.sketches.proofs.read.batches.next_lines.Given as goal

abbrev pub invariant-each : goal.invariant-each
invariant-each l =
    (l.count ≤ length l.raws) × (length l.raws ≡ length l.initial.raws) × (length l.items ≡ length l.initial.raws) × (length l.rest + l.count ≤ length l.bytes)
    × AreNextLines l.part l.bytes l.rest (strings_at (take l.count l.raws)) (strings_at (take l.count l.items))

abbrev pub decreases-each : goal.decreases-each
decreases-each l = length l.initial.raws - l.count
