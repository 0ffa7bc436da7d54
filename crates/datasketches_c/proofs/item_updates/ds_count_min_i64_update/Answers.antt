use Rattle.std.proofs.Common.{◌≡◌, ℤ, of_z, refl, rules, subst, to_z, w64}
use Rattle.any_sketch.specs.Updates.{UpdatesSigned}
use Rattle.any_sketch.specs.Items.{ItemValue, value_of}
use Rattle.datasketches_c.specs.Calls.{ChangesSketch, IsDone}
use Rattle.datasketches_c.specs.ItemArguments.{item_kind_numbered}
use Rattle.datasketches_c.proofs.ItemLemmas.{on_given, on_refused}
use Rattle.datasketches_c.proofs.item_updates.ds_count_min_i64_update.Goals as goal

-- what holds of the given item, where the weight is handed on
pub returns-in-Ok : goal.returns-in-Ok
returns-in-Ok c =
    let call = c.update_signed_given in
    let old = c.args.handle.now.value in
    let weight : to_z w64 (of_z w64 c.args.weight) ≡ c.args.weight = search rules in
    let Said : ℤ → ItemValue → Type 0 = λ z given. ChangesSketch old call.new.handle.value z (λ s t. IsDone z (UpdatesSigned s given c.args.weight t)) in
    let Added : ℤ → Type 0 = λ w. ChangesSketch old call.new.handle.value call.result (λ s t. IsDone call.result (UpdatesSigned s (value_of c.in-Ok.given) w t)) in
    on_given (item_kind_numbered c.args.item.now.kind) c.args.item.now (call.new.handle.value ≡ old) c.in-Ok.given call.result call.type_inv Said c.in-Ok.ensures (subst Added weight call.ensures)

-- the argument has an error
pub returns-in-Err : goal.returns-in-Err
returns-in-Err c =
    let Said : ℤ → ItemValue → Type 0 = λ z given. ChangesSketch c.args.handle.now.value c.args.handle.now.value z (λ s t. IsDone z (UpdatesSigned s given c.args.weight t)) in
    on_refused (item_kind_numbered c.args.item.now.kind) c.args.item.now (c.args.handle.now.value ≡ c.args.handle.now.value) c.in-Err.refusal (search rules) Said c.in-Err.ensures refl
