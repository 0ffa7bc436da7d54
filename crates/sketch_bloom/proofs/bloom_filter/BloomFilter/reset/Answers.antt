use Rattle.std.proofs.Common.{sym, ap, ◌∙◌}
use Rattle.std.specs.FinSet as set
use Rattle.std.specs.Ordering.{nat_cmp}
use Rattle.sketch_bloom.specs.State.{FilterState}
use Rattle.sketch_bloom.proofs.bloom_filter.BloomFilter.reset.Goals as goal

pub invariant_of-self : goal.invariant_of-self
invariant_of-self c = record {
  state = c.clear.ensures.state;
  bits_used_is = sym (ap (λ (s : FilterState). set.len s.set) c.clear.ensures.cleared ∙ set.len-empty nat_cmp);
}
