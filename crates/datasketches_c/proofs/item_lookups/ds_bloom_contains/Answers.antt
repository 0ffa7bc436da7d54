use Rattle.std.proofs.Common.{◌≡◌, ℤ, refl, rules}
use Rattle.any_sketch.specs.Filters.{TellsContained}
use Rattle.any_sketch.specs.Items.{ItemValue}
use Rattle.datasketches_c.specs.Calls.{IsAnswer, ReadsSketch}
use Rattle.datasketches_c.specs.ItemArguments.{item_kind_numbered}
use Rattle.datasketches_c.proofs.ItemLemmas.{on_given, on_refused}
use Rattle.datasketches_c.proofs.item_lookups.ds_bloom_contains.Goals as goal

-- what holds of the given item
pub returns-in-Ok-clause-answer : goal.returns-in-Ok-clause-answer
returns-in-Ok-clause-answer c =
    let call = c.contains_given in
    let Said : ℤ → ItemValue → Type 0 = λ z given. ReadsSketch c.args.handle.now.value z (λ s. IsAnswer z (TellsContained s given)) in
    on_given (item_kind_numbered c.args.item.now.kind) c.args.item.now (call.new.handle.value ≡ c.args.handle.now.value) c.in-Ok.given call.result call.type_inv Said c.in-Ok.ensures call.ensures.answer

-- the argument has an error
pub returns-in-Err-clause-answer : goal.returns-in-Err-clause-answer
returns-in-Err-clause-answer c =
    let Said : ℤ → ItemValue → Type 0 = λ z given. ReadsSketch c.args.handle.now.value z (λ s. IsAnswer z (TellsContained s given)) in
    on_refused (item_kind_numbered c.args.item.now.kind) c.args.item.now (c.args.handle.now.value ≡ c.args.handle.now.value) c.in-Err.refusal (search rules) Said c.in-Err.ensures refl
