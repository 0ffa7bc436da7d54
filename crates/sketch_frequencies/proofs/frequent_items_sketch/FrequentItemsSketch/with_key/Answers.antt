use Rattle.std.proofs.Common.{◌≡◌, ◌∙◌, ap, subst}
use Rattle.std.specs.Prelude.{IfErr}
use Rattle.sketch_base.specs.Errors.{refusal_of}
use Rattle.sketch_frequencies.specs.Sizes.{sizes_fault}
use Rattle.sketch_frequencies.specs.declared.frequent_items_sizes.FrequentItemsSizes.{FrequentItemsSizes}
use Rattle.sketch_frequencies.proofs.SampleSizes.{usual_fault}
use Rattle.sketch_frequencies.proofs.frequent_items_sketch.FrequentItemsSketch.with_key.Goals as goal

pub returns-clause-refused : goal.returns-clause-refused
returns-clause-refused g c =
    let usual = ap (λ (sizes : FrequentItemsSizes). sizes_fault sizes.max_map_size sizes.sample_size) c.new.ensures ∙ usual_fault c.args.max_map_size in
    subst (λ fault. IfErr c.with_sizes.result (λ e. e ≡ refusal_of fault)) usual c.with_sizes.ensures.refused
