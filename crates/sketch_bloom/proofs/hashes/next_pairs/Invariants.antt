use Rattle.std.proofs.Common.{◌≡◌, ◌-◌, ◌≤◌, ◌++◌, length, map, take}
use Rattle.sketch_bloom.specs.Pairs.{pair_of}
use Rattle.sketch_bloom.proofs.hashes.next_pairs.Given as goal

-- the pairs so far, and then those of the items that are left, are the pairs of all items
abbrev pub invariant-each : goal.invariant-each
invariant-each g l =
    (l.count ≤ length l.pairs)
    × (length l.pairs ≡ length l.fn.pairs)
    × (map (pair_of l.seed) (g.I.Items.list l.fn.items) ≡ take l.count l.pairs ++ map (pair_of l.seed) (g.I.Items.list l.items))

abbrev pub decreases-each : goal.decreases-each
decreases-each g l = length l.initial.pairs - l.count
