use Rattle.std.proofs.Common.{get_or, refl, sym, ap, ◌∙◌}
use Rattle.std.specs.List.{fold}
use Rattle.std.proofs.lemmas.List.{take_all}
use Rattle.sketch_bloom.specs.Pairs.{with_pair}
use Rattle.sketch_bloom.specs.State.{FilterState}
use Rattle.sketch_bloom.proofs.Batches.{fold_more}
use Rattle.sketch_bloom.proofs.bloom_filter.BloomFilter.insert_pairs.Goals as goal

pub pairs-init : goal.pairs-init
pairs-init c = refl

pub pairs-preserved : goal.pairs-preserved
pairs-preserved c =
    c.insert_pair.ensures.insertion
    ∙ (ap (λ (s : FilterState). with_pair s (get_or c.args.pairs.now c.pairs.i (0, 0))) c.pairs.invariant
    ∙ sym (fold_more with_pair c.args.self.now c.args.pairs.now c.pairs.i (0, 0) c.pairs-test.true))

pub returns : goal.returns
returns c = c.pairs.invariant ∙ ap (fold with_pair c.args.self.now) (take_all c.pairs.i c.args.pairs.now c.pairs-test.false)
