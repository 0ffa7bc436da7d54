-- Calls for many items, from what they do for given items.
use Rattle.std.proofs.Common.{◌<◌, ℤ, Option, None, Some, inl, inr, subst}
use lib.Signed.{mag}
use mir.Syntax.{w32}
use mir.Val.{of_z, to_z}
use Rattle.std.specs.Prelude.{Ok, Err}
use Rattle.any_sketch.specs.ManyItems.{ManyItems, many}
use Rattle.any_sketch.specs.declared.many_items.AnyItems.{AnyItems}
use Rattle.datasketches_c.specs.ItemsArguments.{GivesItems, OnItemsOfAny}
use Rattle.datasketches_c.specs.declared.items_argument.ItemsArgument.{ItemsArgument}
use Rattle.datasketches_c.specs.declared.items_argument.ItemsKind.{ItemsKind}
use Rattle.datasketches_c.proofs.AnswerLemmas.{handed_on}

module _ (kind : Option ItemsKind) (a : ItemsArgument) (unchanged : Type 0) where
  -- what holds of the items holds of the argument
  pub items_said : (kind : Option ItemsKind) (items : AnyItems) (result : ℤ) (said : ManyItems → Type 0) → GivesItems kind a (Ok items) → said (many items)
      → OnItemsOfAny a result unchanged said kind
  items_said None items result said gives holds = absurd gives
  items_said (Some kind) items result said gives holds =
      record {
        bad_bitmap = λ bad. absurd (bad gives.0);
        bad_offsets = λ _ bad. absurd (bad gives.1);
        invalid_utf8 = λ _ _ bad. absurd (bad gives.2);
        items = λ _ _ _. subst said gives.3 holds;
      }

  -- the same of a result that is handed on
  pub on_given : (items : AnyItems) (result : ℤ) → mag result < 2147483648 → (said : ℤ → ManyItems → Type 0) → GivesItems kind a (Ok items) → said result (many items)
      → OnItemsOfAny a (to_z w32 (of_z w32 result)) unchanged (said (to_z w32 (of_z w32 result))) kind
  on_given items result small said gives holds =
      handed_on (λ z. OnItemsOfAny a z unchanged (said z) kind) result small (items_said kind items result (said result) gives holds)

  refused_said : (kind : Option ItemsKind) (refusal : ℤ) (said : ManyItems → Type 0) → GivesItems kind a (Err refusal) → unchanged → OnItemsOfAny a refusal unchanged said kind
  refused_said None refusal said gives kept = (gives, kept)
  refused_said (Some kind) refusal said (inl bitmap) kept = record {
    bad_bitmap = λ _. (bitmap.1, kept);
    bad_offsets = λ good _. absurd (bitmap.0 good);
    invalid_utf8 = λ good _ _. absurd (bitmap.0 good);
    items = λ good _ _. absurd (bitmap.0 good);
  }
  refused_said (Some kind) refusal said (inr rows) kept = record {
    bad_bitmap = λ bad. absurd (bad rows.0);
    bad_offsets = λ _ bad. (rows.1.not_offsets bad, kept);
    invalid_utf8 = λ _ ends _. (rows.1.not_utf8 ends, kept);
    items = λ _ ends utf8. absurd (rows.1.not_valid ends utf8);
  }

  -- the argument's first error is handed on
  pub on_refused : (refusal : ℤ) → mag refusal < 2147483648 → (said : ℤ → ManyItems → Type 0) → GivesItems kind a (Err refusal) → unchanged
      → OnItemsOfAny a (to_z w32 (of_z w32 refusal)) unchanged (said (to_z w32 (of_z w32 refusal))) kind
  on_refused refusal small said gives kept =
      handed_on (λ z. OnItemsOfAny a z unchanged (said z) kind) refusal small (refused_said kind refusal (said refusal) gives kept)
