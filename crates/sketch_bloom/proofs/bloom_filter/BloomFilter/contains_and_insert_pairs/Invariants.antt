use Rattle.std.proofs.Common.{◌≡◌, take}
use Rattle.std.specs.List.{fold}
use Rattle.sketch_bloom.specs.Pairs.{with_pair, pairs_contained}
use Rattle.sketch_bloom.proofs.bloom_filter.BloomFilter.contains_and_insert_pairs.Given as goal

-- the pairs so far are answered and inserted
abbrev pub invariant-pairs : goal.invariant-pairs
invariant-pairs l = record {
  answers : take l.i l.answers ≡ pairs_contained l.fn.self (take l.i l.pairs);
  insertions : l.self ≡ fold with_pair l.fn.self (take l.i l.pairs);
}
