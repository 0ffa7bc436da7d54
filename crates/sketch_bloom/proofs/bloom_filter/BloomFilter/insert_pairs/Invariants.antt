use Rattle.std.proofs.Common.{◌≡◌, take}
use Rattle.std.specs.List.{fold}
use Rattle.sketch_bloom.specs.Pairs.{with_pair}
use Rattle.sketch_bloom.proofs.bloom_filter.BloomFilter.insert_pairs.Given as goal

-- the pairs so far are inserted
abbrev pub invariant-pairs : goal.invariant-pairs
invariant-pairs l = l.self ≡ fold with_pair l.fn.self (take l.i l.pairs)
