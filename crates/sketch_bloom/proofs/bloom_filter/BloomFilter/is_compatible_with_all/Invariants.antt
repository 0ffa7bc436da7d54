use Rattle.std.proofs.Common.{take, All}
use Rattle.sketch_bloom.specs.State.{IsCompatible}
use Rattle.sketch_bloom.proofs.bloom_filter.BloomFilter.is_compatible_with_all.Given as goal

-- the filters so far are compatible
abbrev pub invariant-each : goal.invariant-each
invariant-each l = All (λ other. IsCompatible l.self other.now) (take l.i l.others)
