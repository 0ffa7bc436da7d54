use Rattle.std.proofs.Common.{◌≡◌, map, take}
use Rattle.datasketches_c.specs.FrequentRows.{bounds_in}
use Rattle.datasketches_c.proofs.frequent_rows.copy_bounds.Given as goal

-- the bounds so far are written
abbrev pub invariant-each : goal.invariant-each
invariant-each g l = take l.i l.bounds ≡ map bounds_in (take l.i l.rows)
