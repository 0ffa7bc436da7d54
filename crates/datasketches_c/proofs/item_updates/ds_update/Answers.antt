use Rattle.std.proofs.Common.{◌≡◌, ℤ, refl, rules}
use Rattle.any_sketch.specs.Updates.{Updates}
use Rattle.any_sketch.specs.Items.{ItemValue}
use Rattle.datasketches_c.specs.Calls.{ChangesSketch, IsDone}
use Rattle.datasketches_c.specs.ItemArguments.{item_kind_numbered}
use Rattle.datasketches_c.proofs.ItemLemmas.{on_given, on_refused}
use Rattle.datasketches_c.proofs.item_updates.ds_update.Goals as goal

-- what holds of the given item
pub returns-in-Ok : goal.returns-in-Ok
returns-in-Ok c =
    let call = c.update_given in
    let Said : ℤ → ItemValue → Type 0 = λ z given. ChangesSketch c.args.handle.now.value call.new.handle.value z (λ s t. IsDone z (Updates s given c.args.weight t)) in
    on_given (item_kind_numbered c.args.item.now.kind) c.args.item.now (call.new.handle.value ≡ c.args.handle.now.value) c.in-Ok.given call.result call.type_inv Said c.in-Ok.ensures call.ensures

-- the argument has an error
pub returns-in-Err : goal.returns-in-Err
returns-in-Err c =
    let Said : ℤ → ItemValue → Type 0 = λ z given. ChangesSketch c.args.handle.now.value c.args.handle.now.value z (λ s t. IsDone z (Updates s given c.args.weight t)) in
    on_refused (item_kind_numbered c.args.item.now.kind) c.args.item.now (c.args.handle.now.value ≡ c.args.handle.now.value) c.in-Err.refusal (search rules) Said c.in-Err.ensures refl
