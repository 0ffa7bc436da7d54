use Rattle.sketch_countmin.proofs.RowCounts.{grid_rows_counted}
use Rattle.sketch_countmin.proofs.grid.Grid.count_each.Goals as goal

pub rows-preserved : goal.rows-preserved
rows-preserved g c = grid_rows_counted _ c.rows.row _ _ _ c.rows.invariant c.count_in_row.ensures
