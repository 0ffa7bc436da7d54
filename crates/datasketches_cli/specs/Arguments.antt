-- The arguments that the program takes.
use Rattle.std.specs.Prelude.{ℕ, List, ◌||◌, if◌then◌else◌, codes}
use Rattle.std.specs.Str.{bytes_eq}
use Rattle.datasketches_cli.specs.declared.arguments.Request.{Request}
use Rattle.datasketches_cli.specs.declared.arguments.Request.TheVariants.{Help, Version, Unknown}

-- what an argument asks for
abbrev pub request_named : List ℕ → Request
request_named word =
    if bytes_eq word (codes "--help") || bytes_eq word (codes "-h") then Help
    else if bytes_eq word (codes "--version") || bytes_eq word (codes "-V") then Version
    else Unknown
