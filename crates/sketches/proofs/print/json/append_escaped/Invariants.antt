use Rattle.std.proofs.Common.{◌≡◌, ◌++◌, take}
use Rattle.sketches.specs.Json.{json_escaped}
use Rattle.sketches.proofs.print.json.append_escaped.Given as goal

abbrev pub invariant-loop-byte : goal.invariant-loop-byte
invariant-loop-byte l = l.out.items ≡ l.initial.out.items ++ json_escaped (take l.byte-index l.bytes)
