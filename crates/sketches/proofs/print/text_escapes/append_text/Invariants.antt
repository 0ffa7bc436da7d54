use Rattle.std.proofs.Common.{◌≡◌, ◌++◌, take}
use Rattle.sketches.specs.TextEscapes.{text_escaped}
use Rattle.sketches.proofs.print.text_escapes.append_text.Given as goal

abbrev pub invariant-loop-byte : goal.invariant-loop-byte
invariant-loop-byte l = l.out.items ≡ l.initial.out.items ++ text_escaped (take l.byte-index l.item)
