use Rattle.std.proofs.Common.{◌≡◌, ℤ, subst, sym}
use Rattle.std.specs.Prelude.{Result}
use Rattle.any_sketch.specs.Images.{EstimatesSignedInImage}
use Rattle.any_sketch.specs.Items.{ItemValue, value_of}
use Rattle.any_sketch.specs.declared.any_error.AnyError.{AnyError}
use Rattle.datasketches_c.specs.Calls.{IsWritten}
use Rattle.datasketches_c.specs.ItemArguments.{item_kind_numbered}
use Rattle.datasketches_c.proofs.ItemLemmas.{on_given}
use Rattle.datasketches_c.proofs.image_lookups.ds_count_min_i64_image_estimate.Goals as goal

-- what holds of the given item
pub returns-in-Ok-clause-estimate : goal.returns-in-Ok-clause-estimate
returns-in-Ok-clause-estimate c =
    let call = c.write in
    let tells = c.image_estimate_signed.ensures in
    let written = call.ensures in
    let Tells : Result ℤ AnyError → Type 0 = EstimatesSignedInImage c.args.seed c.args.image.now (value_of c.in-Ok.given) in
    let Said : ℤ → ItemValue → Type 0 = λ z given. IsWritten c.args.estimate.now call.new.place z (EstimatesSignedInImage c.args.seed c.args.image.now given) in
    on_given (item_kind_numbered c.args.item.now.kind) c.args.item.now (call.new.place ≡ c.args.estimate.now) c.in-Ok.given call.result call.type_inv Said c.in-Ok.ensures
    (record { answer = written.answer; number = written.number; holds = subst Tells (sym written.holds) (record { told = tells.told; reads = tells.reads; accepted = tells.accepted; refused = tells.refused }); written = written.written; untouched = written.untouched })
