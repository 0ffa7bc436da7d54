use Rattle.std.proofs.Common.{ℕ, ◌*◌, ◌/◌, ℤ, pos, ◌+ℤ◌, unsigned_abs, ap, ◌∙◌}
use Rattle.std.specs.Int.{int_min}
use Rattle.sketch_countmin.specs.State.{CountState, margin}
use Rattle.sketch_countmin.proofs.count_min_sketch.CountMinSketch.bounds_item.Goals as goal

pub returns-clause-upper : goal.returns-clause-upper
returns-clause-upper g c =
    let greatest = g.T.CountMinValue.greatest in
    let i = c.self.inside in
    let estimate : ℤ = g.T.CountMinValue.number c.estimate_item-estimate.result in
    let upper : ℕ → ℤ = λ buckets. int_min (estimate +ℤ pos (unsigned_abs (g.T.CountMinValue.number i.total) * 2718281828459045235 / (1000000000000000000 * buckets))) (pos greatest) in
    c.with_margin-upper_bound.ensures ∙ (ap upper c.buckets.ensures ∙ ap (λ (s : CountState). int_min (estimate +ℤ pos (margin s)) (pos greatest)) c.self.view_is)
