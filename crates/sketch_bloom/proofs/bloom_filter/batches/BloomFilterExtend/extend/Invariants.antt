use Rattle.std.proofs.Common.{◌≡◌, map}
use Rattle.sketch_bloom.specs.State.{all_inserted}
use Rattle.sketch_bloom.proofs.bloom_filter.batches.BloomFilterExtend.extend.Given as goal

-- the items so far are inserted
abbrev pub invariant-loop-item : goal.invariant-loop-item
invariant-loop-item g l = l.self ≡ all_inserted l.fn.self (map g.X.Item.bytes l.yielded)
