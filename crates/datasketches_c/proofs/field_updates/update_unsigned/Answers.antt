use Rattle.std.proofs.Common.{◌≡◌, ℕ, ℤ, pos, refl}
use Rattle.any_sketch.specs.Batches.{UpdatesAllWeighted}
use Rattle.sketch_text.specs.Decimals.{number_in}
use Rattle.sketch_text.specs.RecordItems.{ItemsValue}
use Rattle.datasketches_c.specs.Calls.{IsDone}
use Rattle.datasketches_c.specs.FieldUpdates.{OnRead, all_strings}
use Rattle.datasketches_c.proofs.AnswerLemmas.{handed_on}
use Rattle.datasketches_c.proofs.FieldLemmas.{items_read, record_refused}
use Rattle.datasketches_c.proofs.field_updates.update_unsigned.Goals as goal

pub returns-in-Ok : goal.returns-in-Ok
returns-in-Ok c =
    let call = c.update_all_weighted in
    let code = c.code_of in
    let Said : ℤ → ItemsValue ℕ → Type 0 = λ z found. IsDone z (UpdatesAllWeighted c.args.sketch.now (all_strings found.items) found.weights call.new.self) in
    handed_on (λ z. OnRead number_in 1 c.args.chosen c.args.bytes.now z c.args.read.now c.note.new.read (call.new.self ≡ c.args.sketch.now) (Said z)) code.result code.type_inv
    (items_read number_in 1 c.args.chosen c.args.bytes.now c.args.read.now c.note.new.read code.result c.in-Ok.found (call.new.self ≡ c.args.sketch.now) (Said code.result)
    c.in-Ok.ensures.items c.note.ensures.num_records c.note.ensures.num_items c.note.ensures.kept
    (record { answer = call.result; number = code.ensures; holds = rw (c.items.ensures, c.weights.ensures.weights) at call.ensures }))

pub returns-in-Err : goal.returns-in-Err
returns-in-Err c =
    let Said : ℤ → ItemsValue ℕ → Type 0 = λ z found. IsDone z (UpdatesAllWeighted c.args.sketch.now (all_strings found.items) found.weights c.args.sketch.now) in
    handed_on (λ z. OnRead number_in 1 c.args.chosen c.args.bytes.now z c.args.read.now c.refused.new.read (c.args.sketch.now ≡ c.args.sketch.now) (Said z)) c.refused.result c.refused.type_inv
    (record_refused number_in 1 c.args.chosen c.args.bytes.now c.args.read.now c.refused.new.read c.refused.result c.in-Err.bad (c.args.sketch.now ≡ c.args.sketch.now) (Said c.refused.result)
    c.in-Err.ensures.err c.refused.ensures.number c.refused.ensures.offset c.refused.ensures.kept c.refused.ensures.untouched refl)
