use Rattle.std.proofs.Common.{◌*◌, ◌/◌, ℤ, pos, ◌+ℤ◌, unsigned_abs, ap, ◌∙◌}
use Rattle.std.specs.Int.{int_min}
use Rattle.sketch_base.specs.Hashes.{fed_bytes}
use Rattle.sketch_countmin.specs.State.{CountState, margin}
use Rattle.sketch_countmin.proofs.Estimates.{least_unique}
use Rattle.sketch_countmin.proofs.count_min_view.CountMinView.upper_bound.Goals as goal

pub returns : goal.returns
returns g c = λ estimate least.
    let greatest = g.T.CountMinValue.greatest in
    c.with_margin.ensures
    ∙ ap (λ (z : ℤ). int_min (z +ℤ pos (unsigned_abs (g.T.CountMinValue.number c.self.inside.total) * 2718281828459045235 / (1000000000000000000 * c.self.inside.buckets))) (pos greatest))
    (least_unique c.args.self.now (fed_bytes g.I.Hash.hash_input c.args.item) (g.T.CountMinValue.number c.estimate.result) estimate c.estimate.ensures.least least)
    ∙ ap (λ (s : CountState). int_min (estimate +ℤ pos (margin s)) (pos greatest)) c.self.view_is
