use Rattle.std.proofs.Common.{sym, subst, ℕ}
use Rattle.sketch_countmin.specs.Buckets.{buckets_by}
use Rattle.sketch_countmin.specs.Cells.{IsMinOf}
use Rattle.sketch_countmin.proofs.RowSteps.{least_first, least_more}
use Rattle.sketch_countmin.proofs.row_cells.RowCellsReadRows.min_of_four.Goals as goal

pub returns : goal.returns
returns g c =
    let num = g.T.CountMinValue.number in
    let d : ℕ = c.args.self.now.rows.buckets in
    let cells = g.C.CellList.list c.args.self.now.cells in
    let bucket = buckets_by d c.args.self.now.rows.seeds.now (g.R.Rehashable.bytes c.args.bytes.now) in
    let more = least_more num g.T.Ord.cmp d bucket in
    let ordered = g.met.T.CountMinValue.ordered in
    let one : IsMinOf d cells bucket 1 (num c.cell-one.result) = least_first num d bucket cells c.index-first.result c.cell-one.result c.index-first.ensures.index c.cell-one.ensures in
    let two : IsMinOf d cells bucket 2 (num c.min-two.result) = more 1 cells c.cell-one.result ordered one c.index-second.result c.cell.result c.min-two.result c.index-second.ensures.index c.cell.ensures c.min-two.ensures in
    let three : IsMinOf d cells bucket 3 (num c.min-three.result) = more 2 cells c.min-two.result ordered two c.index-third.result c.cell-2.result c.min-three.result c.index-third.ensures.index c.cell-2.ensures c.min-three.ensures in
    let four : IsMinOf d cells bucket 4 (num c.min.result) = more 3 cells c.min-three.result ordered three c.index-fourth.result c.cell-3.result c.min.result c.index-fourth.ensures.index c.cell-3.ensures c.min.ensures in
    subst (λ (n : ℕ). IsMinOf d cells bucket n (num c.min.result)) (sym c.requires.four) four
