use Rattle.std.proofs.Common.{arith, subst, ◌≡◌, length}
use Rattle.sketch_countmin.specs.Buckets.{buckets_by}
use Rattle.sketch_countmin.specs.Cells.{IsMinOf}
use Rattle.sketch_countmin.proofs.RowSteps.{least_first, least_more}
use Rattle.sketch_countmin.proofs.row_cells.RowCellsReadRows.min_of_each.Goals as goal

pub loop-row-init : goal.loop-row-init
loop-row-init g c =
    least_first g.T.CountMinValue.number c.args.self.now.rows.buckets (buckets_by c.args.self.now.rows.buckets c.args.self.now.rows.seeds.now (g.R.Rehashable.bytes c.args.bytes.now)) (g.C.CellList.list c.args.self.now.cells) c.index-first.result c.cell-least.result c.index-first.ensures.index c.cell-least.ensures

pub loop-row-preserved : goal.loop-row-preserved
loop-row-preserved g c =
    least_more g.T.CountMinValue.number g.T.Ord.cmp c.args.self.now.rows.buckets (buckets_by c.args.self.now.rows.buckets c.args.self.now.rows.seeds.now (g.R.Rehashable.bytes c.args.bytes.now)) c.loop-row.row (g.C.CellList.list c.args.self.now.cells) c.loop-row.least g.met.T.CountMinValue.ordered c.loop-row.invariant
    c.index-index.result c.cell-cell.result c.min-least.result c.index-index.ensures.index c.cell-cell.ensures c.min-least.ensures

pub returns : goal.returns
returns g c =
    let all : c.loop-row.row ≡ length c.args.self.now.rows.seeds.now = omega (arith, c.args.self.now.rows.some) in
    subst (λ (n : _). IsMinOf c.args.self.now.rows.buckets (g.C.CellList.list c.args.self.now.cells) (buckets_by c.args.self.now.rows.buckets c.args.self.now.rows.seeds.now (g.R.Rehashable.bytes c.args.bytes.now)) n (g.T.CountMinValue.number c.loop-row.least)) all c.loop-row.invariant
