-- Many items of one type: rows, of which some may be null, and what they are for a sketch.
use Rattle.std.specs.Hash as fed
use Rattle.std.specs.Global.{Global}
use Rattle.std.specs.Ordering.{int_eq}
use Rattle.std.specs.Prelude.{◌≡◌, ℕ, ℤ, Bool, List, length, map, nat_eq, Option, Result}
use Rattle.std.specs.Str.Lines.{lines}
use Rattle.std.specs.declared.string.String.{String}
use Rattle.counter_table.specs.StringKeys.{names_string}
use Rattle.sketch_base.specs.Hashes.{fed_bytes}
use Rattle.sketch_base.specs.Split.{words_of}
use Rattle.any_sketch.specs.Kinds.{LacksCall}
use Rattle.any_sketch.specs.ValidRows.{of_valid}
use Rattle.any_sketch.specs.declared.any_error.AnyError.{AnyError}
use Rattle.any_sketch.specs.declared.many_items.AnyItems.{AnyItems}
use Rattle.any_sketch.specs.declared.many_items.AnyRows.{AnyRows}
use Rattle.any_sketch.specs.declared.many_items.AnyRows.TheVariants as any

-- the rows of a column: numbers, the bytes of strings, or items given by the bytes that a hash feeds
pub data Rows : Type 0 where
  u64s : List ℕ → Rows
  i64s : List ℤ → Rows
  strings : List (List ℕ) → Rows
  fed_as_given : List (List ℕ) → Rows

-- many items: rows, with a bit for each that says whether it is valid if some may be null. The items are the valid rows
pub record ManyItems : Type 0 where
  pub rows : Rows
  pub validity : Option (List Bool)

abbrev pub num_rows : Rows → ℕ
num_rows (u64s rows) = length rows
num_rows (i64s rows) = length rows
num_rows (strings rows) = length rows
num_rows (fed_as_given rows) = length rows

-- the bytes that the hash of each row feeds
abbrev pub fed_rows : Rows → List (List ℕ)
fed_rows (u64s rows) = map (fed_bytes fed.u64) rows
fed_rows (i64s rows) = map (fed_bytes fed.i64) rows
fed_rows (strings rows) = map (fed_bytes fed.str) rows
fed_rows (fed_as_given rows) = rows

-- the bytes that the hash of each item feeds
abbrev pub fed_items : ManyItems → List (List ℕ)
fed_items items = of_valid items.validity (fed_rows items.rows)

-- the number of items
abbrev pub num_valid : Rows → Option (List Bool) → ℕ
num_valid (u64s rows) validity = length (of_valid validity rows)
num_valid (i64s rows) validity = length (of_valid validity rows)
num_valid (strings rows) validity = length (of_valid validity rows)
num_valid (fed_as_given rows) validity = length (of_valid validity rows)

abbrev pub num_items : ManyItems → ℕ
num_items items = num_valid items.rows items.validity

module _ {V : Type 0} where
  -- The statement holds of which numbers the items without a sign name, if they are such. Otherwise the sketch does not take them, and all
  -- is unchanged.
  abbrev pub OnU64Rows : Rows → Option (List Bool) → Result V AnyError → (unchanged : Type 0) → (List (ℕ → Bool) → Type 0) → Type 0
  OnU64Rows (u64s rows) validity result unchanged said = said (of_valid validity (map nat_eq rows))
  OnU64Rows rows validity result unchanged said = LacksCall result × unchanged

  abbrev pub OnU64s : ManyItems → Result V AnyError → (unchanged : Type 0) → (List (ℕ → Bool) → Type 0) → Type 0
  OnU64s items = OnU64Rows items.rows items.validity

  -- the same of numbers with a sign
  abbrev pub OnI64Rows : Rows → Option (List Bool) → Result V AnyError → (unchanged : Type 0) → (List (ℤ → Bool) → Type 0) → Type 0
  OnI64Rows (i64s rows) validity result unchanged said = said (of_valid validity (map int_eq rows))
  OnI64Rows rows validity result unchanged said = LacksCall result × unchanged

  abbrev pub OnI64s : ManyItems → Result V AnyError → (unchanged : Type 0) → (List (ℤ → Bool) → Type 0) → Type 0
  OnI64s items = OnI64Rows items.rows items.validity

  -- the same of strings
  abbrev pub OnStringRows :
      Rows → Option (List Bool) → Result V AnyError → (unchanged : Type 0) → (List (String Global → Bool) → Type 0) → Type 0
  OnStringRows (strings rows) validity result unchanged said = said (of_valid validity (map names_string rows))
  OnStringRows rows validity result unchanged said = LacksCall result × unchanged

  abbrev pub OnStrings : ManyItems → Result V AnyError → (unchanged : Type 0) → (List (String Global → Bool) → Type 0) → Type 0
  OnStrings items = OnStringRows items.rows items.validity

-- the rows as lists
abbrev pub rows_in : AnyRows → Rows
rows_in (any.U64 rows) = u64s rows.now
rows_in (any.I64 rows) = i64s rows.now
rows_in (any.Offsets rows) = strings rows
rows_in (any.Offsets32 rows) = strings rows
rows_in (any.Strings rows) = strings rows
rows_in (any.Words text) = strings (words_of text.now)
rows_in (any.Lines text) = strings (lines text.now)
rows_in (any.Fed rows) = fed_as_given (map (λ item. item.now) rows.0.now)

-- the items as lists
abbrev pub many : AnyItems → ManyItems
many items = record { rows = rows_in items.rows; validity = items.validity }
