use Rattle.std.proofs.Common.{map, ap, ◌∙◌}
use Rattle.sketch_bloom.specs.State.{FilterState, contains_item}
use Rattle.sketch_bloom.proofs.Views.{contains_in_view}
use Rattle.sketch_bloom.proofs.bloom_filter_view.BloomFilterView.contains_all.Goals as goal

pub returns : goal.returns
returns g c =
    let inputs = g.I.Items.list c.args.items in
    c.contains_all.ensures
    ∙ (ap (λ (s : FilterState). map (contains_item s) inputs) c.copied.ensures
    ∙ ((λ i. map (λ bytes. contains_in_view c.self.inside.bits c.self.inside.num_words c.self.invariant bytes i) inputs)
    ∙ ap (λ (s : FilterState). map (contains_item s) inputs) c.self.view_is))
