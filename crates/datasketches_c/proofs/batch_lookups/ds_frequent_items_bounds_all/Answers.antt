use Rattle.std.proofs.Common.{◌≡◌, ℤ, refl, rules, length}
use Rattle.any_sketch.specs.Batches.{BoundsAll}
use Rattle.any_sketch.specs.ManyItems.{ManyItems}
use Rattle.datasketches_c.specs.Calls.{IsDone, ReadsSketch}
use Rattle.datasketches_c.specs.ItemsArguments.{OnPlaces, items_kind_numbered}
use Rattle.datasketches_c.proofs.ManyItemsLemmas.{on_given, on_refused}
use Rattle.datasketches_c.proofs.batch_lookups.ds_frequent_items_bounds_all.Goals as goal

-- what holds of the given items
pub returns-in-Ok-clause-bounds : goal.returns-in-Ok-clause-bounds
returns-in-Ok-clause-bounds c =
    let call = c.bounds_given in
    let Said : ℤ → ManyItems → Type 0 = λ z given. OnPlaces (length c.args.bounds.now) given z (call.new.bounds ≡ c.args.bounds.now) (ReadsSketch c.args.handle.now.value z (λ s. IsDone z (BoundsAll s given c.args.bounds.now call.new.bounds))) in
    on_given (items_kind_numbered c.args.items.now.kind) c.args.items.now (call.new.bounds ≡ c.args.bounds.now) c.in-Ok.given call.result call.type_inv Said c.in-Ok.ensures (record { no_room = call.ensures.no_room; placed = call.ensures.bounds })

-- the argument has an error
pub returns-in-Err-clause-bounds : goal.returns-in-Err-clause-bounds
returns-in-Err-clause-bounds c =
    let Said : ℤ → ManyItems → Type 0 = λ z given. OnPlaces (length c.args.bounds.now) given z (c.args.bounds.now ≡ c.args.bounds.now) (ReadsSketch c.args.handle.now.value z (λ s. IsDone z (BoundsAll s given c.args.bounds.now c.args.bounds.now))) in
    on_refused (items_kind_numbered c.args.items.now.kind) c.args.items.now (c.args.bounds.now ≡ c.args.bounds.now) c.in-Err.refusal (search rules) Said c.in-Err.ensures refl
