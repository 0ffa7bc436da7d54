use Rattle.std.proofs.Common.{ℤ}
use Rattle.any_sketch.specs.Images.{TellsContainedInImage}
use Rattle.any_sketch.specs.Items.{ItemValue}
use Rattle.datasketches_c.specs.Calls.{IsAnswer}
use Rattle.datasketches_c.specs.ItemArguments.{item_kind_numbered}
use Rattle.datasketches_c.proofs.ItemLemmas.{on_given}
use Rattle.datasketches_c.proofs.image_lookups.ds_bloom_image_contains.Goals as goal

-- what holds of the given item
pub returns-in-Ok : goal.returns-in-Ok
returns-in-Ok c =
    let call = c.code_of_answer in
    let tells = c.image_contains.ensures in
    let Said : ℤ → ItemValue → Type 0 = λ z given. IsAnswer z (TellsContainedInImage c.args.image.now given) in
    on_given (item_kind_numbered c.args.item.now.kind) c.args.item.now (Unit {0}) c.in-Ok.given call.result call.type_inv Said c.in-Ok.ensures
    (record { answer = c.image_contains.result; number = call.ensures; holds = record { told = tells.told; reads = tells.reads; accepted = tells.accepted; refused = tells.refused } })
