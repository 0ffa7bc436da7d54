-- How strings are compared.
use Rattle.std.specs.Prelude.{Bool}
use Rattle.std.specs.Global.{Global}
use Rattle.std.specs.String.{string_eq}
use Rattle.std.specs.declared.string.String.{String}

-- strings are compared by their bytes
abbrev pub strings_eq : String Global → String Global → Bool
strings_eq = string_eq
