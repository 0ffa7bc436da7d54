-- Calls for one item, from what they do for a given item.
use Rattle.std.proofs.Common.{◌<◌, ℤ, Option, None, Some, subst}
use lib.Signed.{mag}
use mir.Syntax.{w32}
use mir.Val.{of_z, to_z}
use Rattle.std.specs.Prelude.{Ok, Err}
use Rattle.any_sketch.specs.Items.{ItemValue, value_of}
use Rattle.any_sketch.specs.declared.item.Item.{Item}
use Rattle.datasketches_c.specs.ItemArguments.{GivesItem, OnItemOfAny}
use Rattle.datasketches_c.specs.declared.item_argument.ItemArgument.{ItemArgument}
use Rattle.datasketches_c.specs.declared.item_argument.ItemKind.{ItemKind}
use Rattle.datasketches_c.proofs.AnswerLemmas.{handed_on}

module _ (kind : Option ItemKind) (a : ItemArgument) (unchanged : Type 0) where
  item_said : (kind : Option ItemKind) (item : Item) (result : ℤ) (said : ItemValue → Type 0) → GivesItem kind a (Ok item) → said (value_of item)
      → OnItemOfAny a result unchanged said kind
  item_said None item result said gives holds = absurd gives
  item_said (Some kind) item result said gives holds = record { invalid_utf8 = λ bad. absurd (bad gives.0); item = λ _. subst said gives.1 holds }

  -- what holds of the item holds of the argument, where the result is handed on
  pub on_given : (item : Item) (result : ℤ) → mag result < 2147483648 → (said : ℤ → ItemValue → Type 0) → GivesItem kind a (Ok item) → said result (value_of item)
      → OnItemOfAny a (to_z w32 (of_z w32 result)) unchanged (said (to_z w32 (of_z w32 result))) kind
  on_given item result small said gives holds =
      handed_on (λ z. OnItemOfAny a z unchanged (said z) kind) result small (item_said kind item result (said result) gives holds)

  refused_said : (kind : Option ItemKind) (refusal : ℤ) (said : ItemValue → Type 0) → GivesItem kind a (Err refusal) → unchanged → OnItemOfAny a refusal unchanged said kind
  refused_said None refusal said gives kept = (gives, kept)
  refused_said (Some kind) refusal said gives kept = record { invalid_utf8 = λ _. (gives.1, kept); item = λ utf8. absurd (gives.0 utf8) }

  -- the argument's error is handed on
  pub on_refused : (refusal : ℤ) → mag refusal < 2147483648 → (said : ℤ → ItemValue → Type 0) → GivesItem kind a (Err refusal) → unchanged
      → OnItemOfAny a (to_z w32 (of_z w32 refusal)) unchanged (said (to_z w32 (of_z w32 refusal))) kind
  on_refused refusal small said gives kept =
      handed_on (λ z. OnItemOfAny a z unchanged (said z) kind) refusal small (refused_said kind refusal (said refusal) gives kept)
