use Rattle.std.proofs.Common.{◌≡◌, map, length}
use Rattle.std.specs.List.{fold}
use Rattle.sketch_bloom.specs.Pairs.{pair_of, with_pair, pairs_contained}
use Rattle.sketch_bloom.proofs.Batches.{IsWrittenTo}
use Rattle.sketch_bloom.proofs.bloom_filter.BloomFilter.contains_and_insert_all.Given as goal

-- the answers so far, and then those for the items that are left, are the answers for all items; with the items that are
-- left inserted, the filter is the old one with all items inserted
abbrev pub invariant-each : goal.invariant-each
invariant-each g l =
    IsWrittenTo (pairs_contained l.fn.self (map (pair_of l.seed) (g.I.Items.list l.fn.items)))
    (pairs_contained l.self (map (pair_of l.seed) (g.I.Items.list l.items)))
    l.answers l.from
    × (fold with_pair l.self (map (pair_of l.seed) (g.I.Items.list l.items))
    ≡ fold with_pair l.fn.self (map (pair_of l.seed) (g.I.Items.list l.fn.items)))

abbrev pub decreases-each : goal.decreases-each
decreases-each g l = length (g.I.Items.list l.items)
