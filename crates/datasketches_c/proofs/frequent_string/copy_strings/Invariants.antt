use Rattle.std.proofs.Common.{◌≡◌, ◌+◌, length, take}
use Rattle.std.specs.List.{concat}
use Rattle.datasketches_c.specs.FrequentStringRows.{row_strings}
use Rattle.datasketches_c.specs.Strings.{offsets_from}
use Rattle.datasketches_c.proofs.frequent_string.copy_strings.Given as goal

-- the strings so far are written, and their offsets
abbrev pub invariant-each : goal.invariant-each
invariant-each l = record {
  end : l.end ≡ length (concat (take l.i (row_strings l.rows)));
  bytes : take l.end l.bytes ≡ concat (take l.i (row_strings l.rows));
  offsets : take (l.i + 1) l.offsets ≡ take (l.i + 1) (offsets_from 0 (row_strings l.rows));
}
