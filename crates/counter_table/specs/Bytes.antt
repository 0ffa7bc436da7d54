-- How many bytes a table takes, by a fixed formula.
use Rattle.std.specs.Prelude.{ℕ, ◌+◌, ◌-◌, ◌*◌, ◌^◌, min}
use Rattle.std.specs.Mem.{type_size}
use Rattle.std.specs.contracts.option.Option as option
use prog.Memory.{capped}
use denote.RattleType.{RattleType}

-- the bytes of an `Option` of an item
abbrev pub option_bytes : RattleType → ℕ
option_bytes item = capped (type_size (option.the_row item))

-- for each slot, the bytes of an `Option` of its item and 12 more, or `usize::MAX` if the sum exceeds it
abbrev pub slots_bytes : (option size : ℕ) → ℕ
slots_bytes option size = min (size * min (option + 12) (2 ^ 64 - 1)) (2 ^ 64 - 1)

-- the bytes of a table for items of this type
unfoldable pub table_bytes : RattleType → ℕ → ℕ
table_bytes item size = slots_bytes (option_bytes item) size
