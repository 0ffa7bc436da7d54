use Rattle.std.proofs.Common.{ap}
use Rattle.sketch_frequencies.specs.Image.{late_fault}
use Rattle.sketch_frequencies.specs.declared.frequent_items_image_options.FrequentItemsImageOptions.{FrequentItemsImageOptions}
use Rattle.sketch_frequencies.proofs.ImageLimits.{no_limit}
use Rattle.sketch_frequencies.proofs.frequent_items_sketch.FrequentItemsSketch.deserialize.Goals as goal

pub returns-clause-err : goal.returns-clause-err
returns-clause-err g c =
    let refusal = rw (ap (λ (options : FrequentItemsImageOptions). options.max_bytes) c.default.ensures) at c.deserialize_with_options.ensures.err in
    no_limit _ g.T.FrequentItemValue.codec c.args.image.now (late_fault g.T.FrequentItemValue.codec c.args.image.now) c.deserialize_with_options.result refusal
