use Rattle.std.proofs.Common.{◌≡◌, ◌∙◌, ap, length, refl, subst, inr, take}
use Rattle.sketch_frequencies.specs.declared.error_type.ErrorType.{ErrorType}
use Rattle.datasketches_c.specs.FrequentRows.{AreRows, error_type}
use Rattle.datasketches_c.specs.FrequentStringRows.{LeavesStringRows, StringBuffers, WritesStringRows}
use Rattle.datasketches_c.specs.FrequentStrings.{strings_eq}
use Rattle.datasketches_c.proofs.AnswerLemmas.{handed_on, number_handed_on}
use Rattle.datasketches_c.proofs.Refusals.{refused_as}
use Rattle.datasketches_c.proofs.StringReports.{string_rows_counted, string_rows_left, strings_reported}
use Rattle.datasketches_c.proofs.frequent_string.write_string_rows.Goals as goal

-- there was no memory for the rows
pub returns-in-Err-clause-left : goal.returns-in-Err-clause-left
returns-in-Err-clause-left c = string_rows_left (record { bytes = c.args.bytes.now; offsets = c.args.offsets.now; bounds = c.args.bounds.now }) c.args.count.now c.args.num_bytes.now _

-- the rows were found, and copied where there was room
pub returns-in-Some-clause-rows : goal.returns-in-Some-clause-rows
returns-in-Some-clause-rows c =
    let kind : ErrorType = error_type c.args.no_false_negatives in
    let old : StringBuffers = record { bytes = c.args.bytes.now; offsets = c.args.offsets.now; bounds = c.args.bounds.now } in
    let new : StringBuffers = record { bytes = c.copy_rows.new.bytes; offsets = c.copy_rows.new.offsets; bounds = c.copy_rows.new.bounds } in
    let found = c.in-Ok.ensures in
    let are : AreRows strings_eq kind c.args.threshold c.args.sketch.now c.in-Ok.rows.items =
    subst (λ (k : ErrorType). AreRows strings_eq k c.args.threshold c.args.sketch.now c.in-Ok.rows.items) c.error_type_of.ensures
    (record { exact = found.exact; descending = found.descending; none_missing = found.none_missing; none_below = found.none_below }) in
    let all : c.deref.result.now ≡ c.in-Ok.rows.items = c.deref.ensures.value in
    let first : c.first_rows-first.result.now ≡ take c.args.limit c.in-Ok.rows.items = c.first_rows-first.ensures ∙ ap (take c.args.limit) all in
    handed_on (WritesStringRows kind c.args.threshold c.args.limit c.args.sketch.now old new (length c.first_rows-first.result.now) c.in-Some.length) c.copy_rows.result c.copy_rows.type_inv
    (strings_reported kind c.args.threshold c.args.limit c.args.sketch.now c.in-Ok.rows.items c.first_rows-first.result.now old new (length c.first_rows-first.result.now) c.in-Some.length c.copy_rows.result are first refl c.copy_rows.ensures.report)

pub returns-in-Some-clause-left : goal.returns-in-Some-clause-left
returns-in-Some-clause-left c =
    let old : StringBuffers = record { bytes = c.args.bytes.now; offsets = c.args.offsets.now; bounds = c.args.bounds.now } in
    let new : StringBuffers = record { bytes = c.copy_rows.new.bytes; offsets = c.copy_rows.new.offsets; bounds = c.copy_rows.new.bounds } in
    let copied = c.copy_rows.ensures in
    handed_on (LeavesStringRows old new c.args.count.now (length c.first_rows-first.result.now) c.args.num_bytes.now c.in-Some.length) c.copy_rows.result c.copy_rows.type_inv
    (string_rows_counted old new c.args.count.now (length c.first_rows-first.result.now) c.args.num_bytes.now c.in-Some.length c.copy_rows.result copied.no_room copied.done copied.untouched)

-- there was no memory for the rows, or they have too many bytes
pub returns-in-Err-clause-rows : goal.returns-in-Err-clause-rows
returns-in-Err-clause-rows c = inr (refused_as c.in-Err.error _ _ _ c.refusal_number-in-Err.type_inv c.fault.ensures c.refusal_number-in-Err.ensures c.in-Err.ensures.err)

pub returns-in_default-clause-rows : goal.returns-in_default-clause-rows
returns-in_default-clause-rows c = inr (number_handed_on c.refusal_number.result c.refusal_number.ensures)

pub returns-in_default-clause-left : goal.returns-in_default-clause-left
returns-in_default-clause-left c = string_rows_left (record { bytes = c.args.bytes.now; offsets = c.args.offsets.now; bounds = c.args.bounds.now }) c.args.count.now c.args.num_bytes.now _
