use Rattle.std.proofs.Common.{◌≡◌, sym, ap, ◌∙◌, eqb-true, eq-eqb}
use Rattle.std.specs.FinSet as set
use Rattle.std.specs.Ordering.{nat_cmp}
use Rattle.sketch_bloom.specs.State.{FilterState}
use Rattle.sketch_bloom.proofs.bloom_filter.BloomFilter.is_empty.Goals as goal

pub returns : goal.returns
returns c =
    let bits : FilterState = c.self.inside.bits in
    let is : bits.set ≡ c.args.self.now.set = ap (λ (s : FilterState). s.set) c.self.view_is in (
      λ t. sym is ∙ set.empty_of_len bits.set (sym c.self.invariant.bits_used_is ∙ eqb-true c.self.inside.bits_used 0 t),
      λ e. eq-eqb c.self.inside.bits_used 0 (c.self.invariant.bits_used_is ∙ (ap set.len (is ∙ e) ∙ set.len-empty nat_cmp)),
    )
