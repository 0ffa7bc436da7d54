use Rattle.std.proofs.Common.{◌≡◌, map, take}
use Rattle.sketch_bloom.specs.State.{IsFilterState, all_united}
use Rattle.sketch_bloom.proofs.bloom_filter.BloomFilter.union_all.Given as goal

-- the filters so far are united
abbrev pub invariant-each : goal.invariant-each
invariant-each l = record {
  united : l.self ≡ all_united l.fn.self (map (λ other. other.now) (take l.i l.others));
  state : IsFilterState l.self;
}
