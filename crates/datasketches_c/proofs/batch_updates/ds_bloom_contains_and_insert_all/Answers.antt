use Rattle.std.proofs.Common.{◌≡◌, ℤ, refl, rules, length}
use Rattle.any_sketch.specs.Batches.{ContainsAndInsertsAll}
use Rattle.any_sketch.specs.ManyItems.{ManyItems}
use Rattle.datasketches_c.specs.Calls.{ChangesSketch, IsDone}
use Rattle.datasketches_c.specs.ItemsArguments.{OnPlaces, items_kind_numbered}
use Rattle.datasketches_c.proofs.ManyItemsLemmas.{on_given, on_refused}
use Rattle.datasketches_c.proofs.batch_updates.ds_bloom_contains_and_insert_all.Goals as goal

-- what holds of the given items
pub returns-in-Ok-clause-call : goal.returns-in-Ok-clause-call
returns-in-Ok-clause-call c =
    let call = c.contains_and_insert_given in
    let Said : ℤ → ManyItems → Type 0 = λ z given. OnPlaces (length c.args.results.now) given z ((call.new.handle.value ≡ c.args.handle.now.value) × (call.new.results ≡ c.args.results.now)) (ChangesSketch c.args.handle.now.value call.new.handle.value z (λ s t. IsDone z (ContainsAndInsertsAll s given c.args.results.now call.new.results t))) in
    on_given (items_kind_numbered c.args.items.now.kind) c.args.items.now ((call.new.handle.value ≡ c.args.handle.now.value) × (call.new.results ≡ c.args.results.now)) c.in-Ok.given call.result call.type_inv Said c.in-Ok.ensures (record { no_room = λ few. let none = call.ensures.no_room few in (none.0, (none.1, none.2)); placed = call.ensures.call })

-- the argument has an error
pub returns-in-Err-clause-call : goal.returns-in-Err-clause-call
returns-in-Err-clause-call c =
    let Said : ℤ → ManyItems → Type 0 = λ z given. OnPlaces (length c.args.results.now) given z ((c.args.handle.now.value ≡ c.args.handle.now.value) × (c.args.results.now ≡ c.args.results.now)) (ChangesSketch c.args.handle.now.value c.args.handle.now.value z (λ s t. IsDone z (ContainsAndInsertsAll s given c.args.results.now c.args.results.now t))) in
    on_refused (items_kind_numbered c.args.items.now.kind) c.args.items.now ((c.args.handle.now.value ≡ c.args.handle.now.value) × (c.args.results.now ≡ c.args.results.now)) c.in-Err.refusal (search rules) Said c.in-Err.ensures (refl, refl)
