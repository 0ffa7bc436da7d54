use Rattle.std.proofs.Common.{◌≡◌, length, take}
use Rattle.std.specs.List.{concat}
use Rattle.datasketches_c.specs.FrequentStringRows.{row_strings}
use Rattle.datasketches_c.proofs.frequent_string.num_bytes_of.Given as goal

-- the bytes of the strings so far
abbrev pub invariant-each : goal.invariant-each
invariant-each l = l.total ≡ length (concat (take l.i (row_strings l.rows)))
