use Rattle.std.proofs.Common.{map, length}
use Rattle.sketch_bloom.specs.State.{contains_item}
use Rattle.sketch_bloom.proofs.Batches.{IsWrittenTo}
use Rattle.sketch_bloom.proofs.bits.Bits.contains_all.Given as goal

-- the answers so far, and then those for the items that are left, are the answers for all items
abbrev pub invariant-each : goal.invariant-each
invariant-each g l =
    IsWrittenTo (map (contains_item l.self) (g.I.Items.list l.fn.items)) (map (contains_item l.self) (g.I.Items.list l.items)) l.answers l.from

abbrev pub decreases-each : goal.decreases-each
decreases-each g l = length (g.I.Items.list l.items)
