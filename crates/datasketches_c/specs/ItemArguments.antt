-- One item as an argument of calls: its kinds and numbers in C, what it is, and the error of an argument.
use Rattle.std.specs.Int.{cast_signed, w64}
use Rattle.std.specs.Ordering.{int_eq}
use Rattle.std.specs.Prelude.{◌≡◌, ℤ, pos, Option, Some, None, Result, MatchResult, if◌then◌else◌}
use Rattle.std.specs.Str.{IsUtf8}
use Rattle.any_sketch.specs.Items.{ItemValue, value_of}
use Rattle.any_sketch.specs.Items.ItemValue.{unsigned, signed, string, fed_as_given}
use Rattle.any_sketch.specs.declared.item.Item.{Item}
use Rattle.sketch_base.specs.declared.fault.Fault.TheVariants.{InvalidUtf8}
use Rattle.datasketches_c.specs.Numbers.{bad_argument, refusal_number}
use Rattle.datasketches_c.specs.declared.item_argument.ItemArgument.{ItemArgument}
use Rattle.datasketches_c.specs.declared.item_argument.ItemKind.{ItemKind}
use Rattle.datasketches_c.specs.declared.item_argument.ItemKind.TheVariants.{U64, I64, String, Fed}

-- the kind of a number of C's `DS_ITEM_U64` .., if it is one
abbrev pub item_kind_numbered : ℤ → Option ItemKind
item_kind_numbered number =
    if int_eq number (pos 0) then Some U64 else if int_eq number (pos 1) then Some I64
    else if int_eq number (pos 2) then Some String else if int_eq number (pos 3) then Some Fed else None

-- the item of an argument of this kind
abbrev pub item_of : ItemKind → ItemArgument → ItemValue
item_of U64 a = unsigned a.number
item_of I64 a = signed (cast_signed w64 a.number)
item_of String a = string a.bytes.now
item_of Fed a = fed_as_given a.bytes.now

-- the string of the kind is UTF-8, if it has one
abbrev pub HasUtf8 : ItemKind → ItemArgument → Type 0
HasUtf8 String a = IsUtf8 a.bytes.now
HasUtf8 kind a = Unit {0}

module _ (a : ItemArgument) (result : ℤ) (unchanged : Type 0) (said : ItemValue → Type 0) where
  -- the statement holds of the item. If it is a string that is not UTF-8, the result is `InvalidUtf8`, and all is unchanged
  pub record OnItemOf (kind : ItemKind) : Type 0 where
    pub invalid_utf8 : ¬ HasUtf8 kind a → (result ≡ refusal_number InvalidUtf8) × unchanged
    pub item : HasUtf8 kind a → said (item_of kind a)

  abbrev pub OnItemOfAny : Option ItemKind → Type 0
  OnItemOfAny None = (result ≡ bad_argument) × unchanged
  OnItemOfAny (Some kind) = OnItemOf kind

  -- the same of an argument of any kind. If its kind is not known, the result is `bad_argument`
  abbrev pub OnItem : Type 0
  OnItem = OnItemOfAny (item_kind_numbered a.kind)

-- this is the item of an argument of the kind, or the number of the argument's error
abbrev pub GivesItem : Option ItemKind → ItemArgument → Result Item ℤ → Type 0
GivesItem None a found = MatchResult found (λ item. ⊥) (λ refusal. refusal ≡ bad_argument)
GivesItem (Some kind) a found =
    MatchResult found (λ item. HasUtf8 kind a × (value_of item ≡ item_of kind a))
    (λ refusal. ¬ HasUtf8 kind a × (refusal ≡ refusal_number InvalidUtf8))
