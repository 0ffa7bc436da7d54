use Rattle.std.proofs.Common.{◌≡◌, ℤ, refl, rules, length}
use Rattle.any_sketch.specs.Batches.{EstimatesAll}
use Rattle.any_sketch.specs.ManyItems.{ManyItems}
use Rattle.datasketches_c.specs.Calls.{IsDone, ReadsSketch}
use Rattle.datasketches_c.specs.ItemsArguments.{OnPlaces, items_kind_numbered}
use Rattle.datasketches_c.proofs.ManyItemsLemmas.{on_given, on_refused}
use Rattle.datasketches_c.proofs.batch_lookups.ds_count_min_u64_estimate_all.Goals as goal

-- what holds of the given items
pub returns-in-Ok-clause-estimates : goal.returns-in-Ok-clause-estimates
returns-in-Ok-clause-estimates c =
    let call = c.estimate_given in
    let Said : ℤ → ManyItems → Type 0 = λ z given. OnPlaces (length c.args.estimates.now) given z (call.new.estimates ≡ c.args.estimates.now) (ReadsSketch c.args.handle.now.value z (λ s. IsDone z (EstimatesAll s given c.args.estimates.now call.new.estimates))) in
    on_given (items_kind_numbered c.args.items.now.kind) c.args.items.now (call.new.estimates ≡ c.args.estimates.now) c.in-Ok.given call.result call.type_inv Said c.in-Ok.ensures (record { no_room = call.ensures.no_room; placed = call.ensures.estimates })

-- the argument has an error
pub returns-in-Err-clause-estimates : goal.returns-in-Err-clause-estimates
returns-in-Err-clause-estimates c =
    let Said : ℤ → ManyItems → Type 0 = λ z given. OnPlaces (length c.args.estimates.now) given z (c.args.estimates.now ≡ c.args.estimates.now) (ReadsSketch c.args.handle.now.value z (λ s. IsDone z (EstimatesAll s given c.args.estimates.now c.args.estimates.now))) in
    on_refused (items_kind_numbered c.args.items.now.kind) c.args.items.now (c.args.estimates.now ≡ c.args.estimates.now) c.in-Err.refusal (search rules) Said c.in-Err.ensures refl
