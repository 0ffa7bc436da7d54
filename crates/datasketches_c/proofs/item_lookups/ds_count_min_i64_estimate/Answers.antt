use Rattle.std.proofs.Common.{◌≡◌, ℤ, refl, rules}
use Rattle.any_sketch.specs.LookUps.{EstimatesSigned}
use Rattle.any_sketch.specs.Items.{ItemValue}
use Rattle.datasketches_c.specs.Calls.{IsWritten, ReadsSketch}
use Rattle.datasketches_c.specs.ItemArguments.{item_kind_numbered}
use Rattle.datasketches_c.proofs.ItemLemmas.{on_given, on_refused}
use Rattle.datasketches_c.proofs.item_lookups.ds_count_min_i64_estimate.Goals as goal

-- what holds of the given item
pub returns-in-Ok-clause-estimate : goal.returns-in-Ok-clause-estimate
returns-in-Ok-clause-estimate c =
    let call = c.estimate_signed_given in
    let Said : ℤ → ItemValue → Type 0 = λ z given. ReadsSketch c.args.handle.now.value z (λ s. IsWritten c.args.estimate.now call.new.estimate z (EstimatesSigned s given)) in
    on_given (item_kind_numbered c.args.item.now.kind) c.args.item.now (call.new.estimate ≡ c.args.estimate.now) c.in-Ok.given call.result call.type_inv Said c.in-Ok.ensures call.ensures.estimate

-- the argument has an error
pub returns-in-Err-clause-estimate : goal.returns-in-Err-clause-estimate
returns-in-Err-clause-estimate c =
    let Said : ℤ → ItemValue → Type 0 = λ z given. ReadsSketch c.args.handle.now.value z (λ s. IsWritten c.args.estimate.now c.args.estimate.now z (EstimatesSigned s given)) in
    on_refused (item_kind_numbered c.args.item.now.kind) c.args.item.now (c.args.estimate.now ≡ c.args.estimate.now) c.in-Err.refusal (search rules) Said c.in-Err.ensures refl
