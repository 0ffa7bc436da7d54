-- Strings as keys of items of type `String`.
use Rattle.std.specs.Prelude.{ℕ, Bool, List}
use Rattle.std.specs.Global.{Global}
use Rattle.std.specs.Str.{bytes_eq}
use Rattle.std.specs.String.{string_bytes}
use Rattle.std.specs.declared.string.String.{String}

-- a string names the items of its bytes
abbrev pub names_string : List ℕ → String Global → Bool
names_string bytes item = bytes_eq bytes (string_bytes item)
