use Rattle.std.proofs.Common.{ap, ◌∙◌}
use Rattle.sketch_bloom.specs.State.{FilterState, contains_item}
use Rattle.sketch_bloom.proofs.Views.{contains_in_view}
use Rattle.sketch_bloom.proofs.bloom_filter_view.BloomFilterView.contains_item.Goals as goal

pub returns : goal.returns
returns g c =
    let bytes = g.X.Item.bytes c.args.item in
    c.contains_item.ensures
    ∙ (contains_in_view c.self.inside.bits c.self.inside.num_words c.self.invariant bytes ∙ ap (λ (s : FilterState). contains_item s bytes) c.self.view_is)
