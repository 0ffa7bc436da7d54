use Rattle.std.proofs.Common.{rules}
use Rattle.std.proofs.lemmas.Bool.{false≢true}
use mir.Syntax.{w32}
use mir.Val.{of_z, to_z}
use Rattle.datasketches_c.specs.ItemsArguments.{IsFirstError}
use Rattle.datasketches_c.specs.declared.items_argument.ItemsKind.TheVariants.{Offsets, Offsets32, Strings}
use Rattle.datasketches_c.proofs.Refusals.{refused_for}
use Rattle.datasketches_c.proofs.items_argument.given_rows.Goals as goal

-- the strings are not valid, with offsets of 64 and of 32 bits, and as slices
pub returns-in-Err : goal.returns-in-Err
returns-in-Err c =
    let error : IsFirstError Offsets c.args.items.now (to_z w32 (of_z w32 c.refusal_number.result)) = record {
      not_valid = λ ends utf8. false≢true (c.in-Err.ensures.succeeds (record { ends = ends; utf8 = utf8 }));
      not_offsets = λ bad. refused_for c.in-Err.error _ _ _ c.refusal_number.type_inv c.fault.ensures c.refusal_number.ensures (c.in-Err.ensures.bad_offsets bad);
      not_utf8 = λ ends. refused_for c.in-Err.error _ _ _ c.refusal_number.type_inv c.fault.ensures c.refusal_number.ensures
          (c.in-Err.ensures.invalid_utf8 ends (λ utf8. false≢true (c.in-Err.ensures.succeeds (record { ends = ends; utf8 = utf8 }))));
    } in search rules

pub returns-in-Err-new : goal.returns-in-Err-new
returns-in-Err-new c =
    let refused = c.in-Err-new in
    let number = c.refusal_number-in-Err-new in
    let error : IsFirstError Offsets32 c.args.items.now (to_z w32 (of_z w32 number.result)) = record {
      not_valid = λ ends utf8. false≢true (refused.ensures.succeeds (record { ends = ends; utf8 = utf8 }));
      not_offsets = λ bad. refused_for refused.error _ _ _ number.type_inv c.fault-in-Err-new.ensures number.ensures (refused.ensures.bad_offsets bad);
      not_utf8 = λ ends. refused_for refused.error _ _ _ number.type_inv c.fault-in-Err-new.ensures number.ensures
          (refused.ensures.invalid_utf8 ends (λ utf8. false≢true (refused.ensures.succeeds (record { ends = ends; utf8 = utf8 }))));
    } in search rules

pub returns-in-Err-new-2 : goal.returns-in-Err-new-2
returns-in-Err-new-2 c =
    let refused = c.in-Err-new-2 in
    let number = c.refusal_number-in-Err-new-2 in
    let error : IsFirstError Strings c.args.items.now (to_z w32 (of_z w32 number.result)) = record {
      not_valid = λ _ utf8. false≢true (refused.ensures.succeeds utf8);
      not_offsets = λ bad. absurd (bad tt);
      not_utf8 = λ _. refused_for refused.error _ _ _ number.type_inv c.fault-in-Err-new-2.ensures number.ensures
          (refused.ensures.invalid_utf8 (λ utf8. false≢true (refused.ensures.succeeds utf8)));
    } in search rules
