use Rattle.std.proofs.Common.{◌≡◌, ℤ, refl, rules, length}
use Rattle.any_sketch.specs.Batches.{TellsAllContainedInImage}
use Rattle.any_sketch.specs.ManyItems.{ManyItems}
use Rattle.datasketches_c.specs.Calls.{IsDone}
use Rattle.datasketches_c.specs.ItemsArguments.{OnPlaces, items_kind_numbered}
use Rattle.datasketches_c.proofs.ManyItemsLemmas.{on_given, on_refused}
use Rattle.datasketches_c.proofs.batch_lookups.ds_bloom_image_contains_all.Goals as goal

-- what holds of the given items
pub returns-in-Ok-clause-results : goal.returns-in-Ok-clause-results
returns-in-Ok-clause-results c =
    let call = c.image_contains_given in
    let Said : ℤ → ManyItems → Type 0 = λ z given. OnPlaces (length c.args.results.now) given z (call.new.results ≡ c.args.results.now) (IsDone z (TellsAllContainedInImage c.args.image.now given c.args.results.now call.new.results)) in
    on_given (items_kind_numbered c.args.items.now.kind) c.args.items.now (call.new.results ≡ c.args.results.now) c.in-Ok.given call.result call.type_inv Said c.in-Ok.ensures (record { no_room = call.ensures.no_room; placed = call.ensures.results })

-- the argument has an error
pub returns-in-Err-clause-results : goal.returns-in-Err-clause-results
returns-in-Err-clause-results c =
    let Said : ℤ → ManyItems → Type 0 = λ z given. OnPlaces (length c.args.results.now) given z (c.args.results.now ≡ c.args.results.now) (IsDone z (TellsAllContainedInImage c.args.image.now given c.args.results.now c.args.results.now)) in
    on_refused (items_kind_numbered c.args.items.now.kind) c.args.items.now (c.args.results.now ≡ c.args.results.now) c.in-Err.refusal (search rules) Said c.in-Err.ensures refl
