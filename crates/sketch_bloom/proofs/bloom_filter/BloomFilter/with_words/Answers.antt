use Rattle.std.proofs.Common.{sym, ap, ◌∙◌}
use Rattle.std.specs.FinSet as set
use Rattle.std.specs.Ordering.{nat_cmp}
use Rattle.sketch_bloom.specs.State.{FilterState}
use Rattle.sketch_bloom.proofs.States.{zeroed_state}
use Rattle.sketch_bloom.proofs.bloom_filter.BloomFilter.with_words.Goals as goal

pub returns-clause-ok : goal.returns-clause-ok
returns-clause-ok c = c.new.ensures.value ∙ zeroed_state c.in_ok-words.words.items c.args.num_words c.args.num_hashes c.args.seed (c.in_ok-words.ensures.items_if_clones_equal (λ y e. e))

pub invariant_of-result : goal.invariant_of-result
invariant_of-result c = record {
  state = c.new.ensures.state;
  bits_used_is = sym (ap (λ (s : FilterState). set.len s.set) (returns-clause-ok c) ∙ set.len-empty nat_cmp);
}
