use Rattle.sketch_countmin.specs.Buckets.{buckets_by}
use Rattle.sketch_countmin.specs.Cells.{IsMinOf}
use Rattle.sketch_countmin.proofs.row_cells.RowCellsReadRows.min_of_each.Given as goal

abbrev pub invariant-loop-row : goal.invariant-loop-row
invariant-loop-row g l = IsMinOf l.self.rows.buckets (g.C.CellList.list l.self.cells) (buckets_by l.self.rows.buckets l.self.rows.seeds.now (g.R.Rehashable.bytes l.bytes)) l.row (g.T.CountMinValue.number l.least)
