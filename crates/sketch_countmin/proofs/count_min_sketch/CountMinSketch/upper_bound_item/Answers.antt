use Rattle.std.proofs.Common.{ap, ◌∙◌}
use Rattle.sketch_countmin.specs.State.{upper_bound_of}
use Rattle.sketch_countmin.proofs.Estimates.{least_unique}
use Rattle.sketch_countmin.proofs.count_min_sketch.CountMinSketch.upper_bound_item.Goals as goal

pub returns : goal.returns
returns g c = λ estimate least.
    let found = g.T.CountMinValue.number c.bounds_item.result.estimate in
    c.bounds_item.ensures.upper
    ∙ ap (upper_bound_of g.T.CountMinValue.greatest c.args.self.now) (least_unique c.args.self.now (g.R.Item.bytes c.args.item) found estimate c.bounds_item.ensures.least least)
