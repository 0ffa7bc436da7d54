use Rattle.std.proofs.Common.{◌≡◌, map, take}
use Rattle.sketch_frequencies.specs.RowValue.{RowValue}
use Rattle.datasketches_c.proofs.frequent_rows.copy_items.Given as goal

-- the items so far are written
abbrev pub invariant-each : goal.invariant-each
invariant-each g l = take l.i l.items ≡ map (λ (row : RowValue g.row.T.Denot). row.item) (take l.i l.rows)
