use Rattle.std.proofs.Common.{◌≡◌, ap, sym, ◌∙◌, length, Some}
use Rattle.any_sketch.specs.ManyItems.{num_valid, rows_in}
use Rattle.any_sketch.proofs.Places.{as_many}
use Rattle.any_sketch.proofs.any_sketch.AnySketch.update_all_weighted.Goals as goal

-- there is a weight for each item
pub weigh-requires-in-Ok : goal.weigh-requires-in-Ok
weigh-requires-in-Ok c =
    let validity : c.args.items.validity ≡ Some c.in-Some.bits = sym c.copy_of.ensures ∙ c.in-Some.is in
    ap length (c.as_slice-kept.ensures.value ∙ c.in-Ok.ensures)
    ∙ (as_many (Some c.in-Some.bits) (rows_in c.args.items.rows) c.args.weights.now c.requires ∙ ap (λ v. num_valid (rows_in c.args.items.rows) v) (sym validity))
