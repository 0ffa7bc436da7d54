use Rattle.std.proofs.Common.{take}
use Rattle.std.specs.List.{All}
use Rattle.std.specs.Str.{IsUtf8}
use Rattle.sketch_base.specs.Strings.{strings_at}
use Rattle.sketch_base.proofs.byte_strings.are_utf8.Given as goal

-- the strings so far are UTF-8
abbrev pub invariant-each : goal.invariant-each
invariant-each l = All IsUtf8 (take l.i (strings_at l.items))
