use Rattle.std.proofs.Common.{subst}
use Rattle.sketch_countmin.specs.State.{CountState}
use Rattle.any_sketch.specs.Estimates.{IsEstimate}
use Rattle.any_sketch.specs.Items.{fed_by, value_of}
use Rattle.any_sketch.proofs.views.estimate_in_image.Goals as goal

-- what the view tells, it tells of each sketch that it shows
pub returns-in-Ok : goal.returns-in-Ok
returns-in-Ok g c =
    let view = c.in-Ok.ensures in
    let told = c.view_estimate.ensures in
    let Says : CountState → Type 0 = λ s. IsEstimate s (fed_by (value_of c.args.item)) (g.V.CountMinValue.number c.view_estimate.result) in
    let said : Says c.in-Ok.counts = record { least = told.least; encloses = told.encloses; raised = told.raised } in
    record { told = subst Says view.value said; reads = λ sketch is. subst Says (view.reads sketch is) said; accepted = view.checks; refused = tt }
