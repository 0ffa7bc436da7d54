use Rattle.std.proofs.Common.{◌≡◌, ℤ, refl, rules}
use Rattle.any_sketch.specs.LookUps.{Bounds}
use Rattle.any_sketch.specs.Items.{ItemValue}
use Rattle.datasketches_c.specs.Calls.{IsWritten, ReadsSketch}
use Rattle.datasketches_c.specs.ItemArguments.{item_kind_numbered}
use Rattle.datasketches_c.proofs.ItemLemmas.{on_given, on_refused}
use Rattle.datasketches_c.proofs.item_lookups.ds_frequent_items_bounds.Goals as goal

-- what holds of the given item
pub returns-in-Ok-clause-bounds : goal.returns-in-Ok-clause-bounds
returns-in-Ok-clause-bounds c =
    let call = c.bounds_given in
    let Said : ℤ → ItemValue → Type 0 = λ z given. ReadsSketch c.args.handle.now.value z (λ s. IsWritten c.args.bounds.now call.new.bounds z (Bounds s given)) in
    on_given (item_kind_numbered c.args.item.now.kind) c.args.item.now (call.new.bounds ≡ c.args.bounds.now) c.in-Ok.given call.result call.type_inv Said c.in-Ok.ensures call.ensures.bounds

-- the argument has an error
pub returns-in-Err-clause-bounds : goal.returns-in-Err-clause-bounds
returns-in-Err-clause-bounds c =
    let Said : ℤ → ItemValue → Type 0 = λ z given. ReadsSketch c.args.handle.now.value z (λ s. IsWritten c.args.bounds.now c.args.bounds.now z (Bounds s given)) in
    on_refused (item_kind_numbered c.args.item.now.kind) c.args.item.now (c.args.bounds.now ≡ c.args.bounds.now) c.in-Err.refusal (search rules) Said c.in-Err.ensures refl
