-- Many items as an argument of calls: their kinds and numbers in C, what they are, and the first error of an argument.
use Rattle.std.specs.Ordering.{int_eq}
use Rattle.std.specs.Prelude.{◌≡◌, ◌≢◌, ◌⊎◌, ℕ, ℤ, ◌-◌, ◌≤◌, pos, Bool, List, [], ◌∷◌, drop, length, map, All, Option, Some, None, Result, MatchResult, if◌then◌else◌}
use Rattle.std.specs.Str.{IsUtf8}
use Rattle.std.specs.Str.Lines.{lines}
use Rattle.sketch_base.specs.Split.{words_of}
use Rattle.sketch_base.specs.Strings.{AreOffsets, strings_at, strings_of}
use Rattle.sketch_base.specs.Validity.{bits_of}
use Rattle.sketch_base.specs.declared.fault.Fault.TheVariants.{InvalidUtf8}
use Rattle.any_sketch.specs.ManyItems.{ManyItems, Rows, many, num_rows, rows_in}
use Rattle.any_sketch.specs.ManyItems.Rows.{u64s, i64s, strings, fed_as_given}
use Rattle.any_sketch.specs.declared.many_items.AnyItems.{AnyItems}
use Rattle.any_sketch.specs.declared.many_items.AnyRows.{AnyRows}
use Rattle.datasketches_c.specs.Numbers.{bad_argument, bad_offsets, no_room, refusal_number}
use Rattle.datasketches_c.specs.declared.items_argument.ItemsArgument.{ItemsArgument}
use Rattle.datasketches_c.specs.declared.items_argument.ItemsKind.{ItemsKind}
use Rattle.datasketches_c.specs.declared.items_argument.ItemsKind.TheVariants.{U64, I64, Offsets, Offsets32, Strings, Words, Lines, Fed}

-- the bits of the rows, which begin at a bit of the bitmap. Without a bitmap all rows are valid
abbrev pub bits_from : (bitmap : List ℕ) → (first_bit : ℕ) → Option (List Bool)
bits_from [] first_bit = None
bits_from (byte ∷ bytes) first_bit = Some (drop first_bit (bits_of (byte ∷ bytes)))

-- the kind of a number of C's `DS_ITEMS_U64` .., if it is one
abbrev pub items_kind_numbered : ℤ → Option ItemsKind
items_kind_numbered number =
    if int_eq number (pos 0) then Some U64 else if int_eq number (pos 1) then Some I64
    else if int_eq number (pos 2) then Some Offsets else if int_eq number (pos 3) then Some Offsets32
    else if int_eq number (pos 4) then Some Strings else if int_eq number (pos 5) then Some Words
    else if int_eq number (pos 6) then Some Lines else if int_eq number (pos 7) then Some Fed else None

-- the rows of an argument of this kind
abbrev pub rows_of : ItemsKind → ItemsArgument → Rows
rows_of U64 a = u64s a.u64s.now
rows_of I64 a = i64s a.i64s.now
rows_of Offsets a = strings (strings_of a.bytes.now a.offsets.now)
rows_of Offsets32 a = strings (strings_of a.bytes.now a.offsets32.now)
rows_of Strings a = strings (strings_at a.strings.now)
rows_of Words a = strings (words_of a.bytes.now)
rows_of Lines a = strings (lines a.bytes.now)
rows_of Fed a = fed_as_given (map (λ item. item.now) a.fed.now)

-- the items of an argument of this kind
abbrev pub items_of : ItemsKind → ItemsArgument → ManyItems
items_of kind a = record { rows = rows_of kind a; validity = bits_from a.validity.now a.first_bit }

-- the number of rows that a bitmap of the kind has bits for, if the kind may have a bitmap
abbrev pub rows_with_bits : ItemsKind → ItemsArgument → Option ℕ
rows_with_bits U64 a = Some (length a.u64s.now)
rows_with_bits I64 a = Some (length a.i64s.now)
rows_with_bits Offsets a = Some (length a.offsets.now - 1)
rows_with_bits Offsets32 a = Some (length a.offsets32.now - 1)
rows_with_bits Strings a = Some (length a.strings.now)
rows_with_bits Fed a = Some (length a.fed.now)
rows_with_bits kind a = None

-- there are bits for this number of rows, or there is no bitmap
abbrev pub HasBits : Option ℕ → Option (List Bool) → Type 0
HasBits rows None = Unit {0}
HasBits None (Some bits) = ⊥
HasBits (Some count) (Some bits) = count ≤ length bits

-- the kind may have a bitmap, and it has a bit for each row, or there is none
abbrev pub HasValidity : ItemsKind → ItemsArgument → Type 0
HasValidity kind a = HasBits (rows_with_bits kind a) (bits_from a.validity.now a.first_bit)

-- the offsets of the kind are valid, if it has offsets
abbrev pub HasOffsets : ItemsKind → ItemsArgument → Type 0
HasOffsets Offsets a = AreOffsets a.bytes.now a.offsets.now
HasOffsets Offsets32 a = AreOffsets a.bytes.now a.offsets32.now
HasOffsets kind a = Unit {0}

-- the strings of the kind are UTF-8, or the string that its words or lines are cut from
abbrev pub HasUtf8 : ItemsKind → ItemsArgument → Type 0
HasUtf8 Offsets a = All IsUtf8 (strings_of a.bytes.now a.offsets.now)
HasUtf8 Offsets32 a = All IsUtf8 (strings_of a.bytes.now a.offsets32.now)
HasUtf8 Strings a = All IsUtf8 (strings_at a.strings.now)
HasUtf8 Words a = IsUtf8 a.bytes.now
HasUtf8 Lines a = IsUtf8 a.bytes.now
HasUtf8 kind a = Unit {0}

-- the first error of the rows of an argument is `refusal`
pub record IsFirstError (kind : ItemsKind) (a : ItemsArgument) (refusal : ℤ) : Type 0 where
  pub not_valid : HasOffsets kind a → ¬ HasUtf8 kind a
  pub not_offsets : ¬ HasOffsets kind a → refusal ≡ bad_offsets
  pub not_utf8 : HasOffsets kind a → refusal ≡ refusal_number InvalidUtf8

module _ (a : ItemsArgument) (result : ℤ) (unchanged : Type 0) (said : ManyItems → Type 0) where
  -- the statement holds of the items. If the argument has an error, the result is the first one, and all is unchanged
  pub record OnItemsOf (kind : ItemsKind) : Type 0 where
    pub bad_bitmap : ¬ HasValidity kind a → (result ≡ bad_argument) × unchanged
    pub bad_offsets : HasValidity kind a → ¬ HasOffsets kind a → (result ≡ bad_offsets) × unchanged
    pub invalid_utf8 :
        HasValidity kind a → HasOffsets kind a → ¬ HasUtf8 kind a → (result ≡ refusal_number InvalidUtf8) × unchanged
    pub items : HasValidity kind a → HasOffsets kind a → HasUtf8 kind a → said (items_of kind a)

  abbrev pub OnItemsOfAny : Option ItemsKind → Type 0
  OnItemsOfAny None = (result ≡ bad_argument) × unchanged
  OnItemsOfAny (Some kind) = OnItemsOf kind

  -- the same of an argument of any kind. If its kind is not known, the result is `bad_argument`
  abbrev pub OnItems : Type 0
  OnItems = OnItemsOfAny (items_kind_numbered a.kind)

-- the statement holds if there is a place for each row. Otherwise the result is `no_room`, and all is unchanged
pub record OnPlaces (places : ℕ) (items : ManyItems) (result : ℤ) (unchanged said : Type 0) : Type 0 where
  pub no_room : places ≢ num_rows items.rows → (result ≡ no_room) × unchanged
  pub placed : places ≡ num_rows items.rows → said

-- these are the rows of a valid argument of the kind, or this is the argument's first error
abbrev pub GivesRows : ItemsKind → ItemsArgument → Result AnyRows ℤ → Type 0
GivesRows kind a found =
    MatchResult found (λ rows. HasOffsets kind a × HasUtf8 kind a × (rows_in rows ≡ rows_of kind a)) (IsFirstError kind a)

-- these are the items of a valid argument of the kind, or this is the argument's first error
abbrev pub GivesItems : Option ItemsKind → ItemsArgument → Result AnyItems ℤ → Type 0
GivesItems None a found = MatchResult found (λ items. ⊥) (λ refusal. refusal ≡ bad_argument)
GivesItems (Some kind) a found =
    MatchResult found
    (λ items. HasValidity kind a × HasOffsets kind a × HasUtf8 kind a × (many items ≡ items_of kind a))
    (λ refusal. (¬ HasValidity kind a × (refusal ≡ bad_argument)) ⊎ (HasValidity kind a × IsFirstError kind a refusal))
