use Rattle.std.proofs.Common.{◌≡◌, ℤ, refl, rules}
use Rattle.any_sketch.specs.LookUps.{BoundsAbove}
use Rattle.any_sketch.specs.Items.{ItemValue}
use Rattle.datasketches_c.specs.Calls.{IsWritten, ReadsSketch}
use Rattle.datasketches_c.specs.ItemArguments.{item_kind_numbered}
use Rattle.datasketches_c.proofs.ItemLemmas.{on_given, on_refused}
use Rattle.datasketches_c.proofs.item_lookups.ds_count_min_u64_upper_bound.Goals as goal

-- what holds of the given item
pub returns-in-Ok-clause-bound : goal.returns-in-Ok-clause-bound
returns-in-Ok-clause-bound c =
    let call = c.upper_bound_given in
    let Said : ℤ → ItemValue → Type 0 = λ z given. ReadsSketch c.args.handle.now.value z (λ s. IsWritten c.args.bound.now call.new.bound z (BoundsAbove s given)) in
    on_given (item_kind_numbered c.args.item.now.kind) c.args.item.now (call.new.bound ≡ c.args.bound.now) c.in-Ok.given call.result call.type_inv Said c.in-Ok.ensures call.ensures.bound

-- the argument has an error
pub returns-in-Err-clause-bound : goal.returns-in-Err-clause-bound
returns-in-Err-clause-bound c =
    let Said : ℤ → ItemValue → Type 0 = λ z given. ReadsSketch c.args.handle.now.value z (λ s. IsWritten c.args.bound.now c.args.bound.now z (BoundsAbove s given)) in
    on_refused (item_kind_numbered c.args.item.now.kind) c.args.item.now (c.args.bound.now ≡ c.args.bound.now) c.in-Err.refusal (search rules) Said c.in-Err.ensures refl
