use Rattle.std.proofs.Common.{◌≡◌, ℤ, refl, rules, length}
use Rattle.any_sketch.specs.Batches.{UpdatesAllWeighted}
use Rattle.any_sketch.specs.ManyItems.{ManyItems}
use Rattle.datasketches_c.specs.Calls.{ChangesSketch, IsDone}
use Rattle.datasketches_c.specs.ItemsArguments.{OnPlaces, items_kind_numbered}
use Rattle.datasketches_c.proofs.ManyItemsLemmas.{on_given, on_refused}
use Rattle.datasketches_c.proofs.batch_updates.ds_update_all_weighted.Goals as goal

-- what holds of the given items
pub returns-in-Ok : goal.returns-in-Ok
returns-in-Ok c =
    let call = c.weigh_given in
    let Said : ℤ → ManyItems → Type 0 = λ z given. OnPlaces (length c.args.weights.now) given z (call.new.handle.value ≡ c.args.handle.now.value) (ChangesSketch c.args.handle.now.value call.new.handle.value z (λ s t. IsDone z (UpdatesAllWeighted s given c.args.weights.now t))) in
    on_given (items_kind_numbered c.args.items.now.kind) c.args.items.now (call.new.handle.value ≡ c.args.handle.now.value) c.in-Ok.given call.result call.type_inv Said c.in-Ok.ensures (record { no_room = call.ensures.no_room; placed = call.ensures.call })

-- the argument has an error
pub returns-in-Err : goal.returns-in-Err
returns-in-Err c =
    let Said : ℤ → ManyItems → Type 0 = λ z given. OnPlaces (length c.args.weights.now) given z (c.args.handle.now.value ≡ c.args.handle.now.value) (ChangesSketch c.args.handle.now.value c.args.handle.now.value z (λ s t. IsDone z (UpdatesAllWeighted s given c.args.weights.now t))) in
    on_refused (items_kind_numbered c.args.items.now.kind) c.args.items.now (c.args.handle.now.value ≡ c.args.handle.now.value) c.in-Err.refusal (search rules) Said c.in-Err.ensures refl
