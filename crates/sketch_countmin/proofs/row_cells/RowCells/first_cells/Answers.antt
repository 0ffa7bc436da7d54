use Rattle.std.proofs.Common.{arith, ap, ◌∙◌, ◌≡◌, List, ℕ, [], map, length, get_or}
use Rattle.sketch_base.specs.Hashes.{fed_bytes}
use Rattle.sketch_countmin.specs.Buckets.{buckets_by}
use Rattle.sketch_countmin.specs.Cells.{flat_at}
use Rattle.sketch_countmin.proofs.RowCounts.{read_item}
use Rattle.sketch_countmin.proofs.Estimates.{estimates_more}
use borrow.Author.Rules.{scaled_Fits}
use Rattle.sketch_countmin.proofs.row_cells.RowCells.first_cells.Goals as goal

pub loop-i-preserved : goal.loop-i-preserved
loop-i-preserved g c =
    let number = g.T.CountMinValue.number in
    let fed = fed_bytes g.I.Hash.hash_input in
    let rows = c.args.self.now.rows in
    let cell = λ (bytes : List ℕ). flat_at rows.buckets (g.C.CellList.list c.args.self.now.cells) 0 (buckets_by rows.buckets rows.seeds.now bytes 0) in
    estimates_more number (λ j z. z ≡ cell (get_or (map fed c.args.items.now) j [])) c.loop-i.cells c.loop-i.i c.item_cell.result
    (omega (arith, c.loop-i-test.true, c.loop-i.auto.cells, c.requires.same)) c.loop-i.invariant
    (c.item_cell.ensures ∙ ap cell (read_item fed c.args.items.now c.loop-i.i c.index-items-i.result c.loop-i-test.true c.index-items-i.is))

pub offset_bounds-cells-i : goal.offset_bounds-cells-i
offset_bounds-cells-i g c = scaled_Fits c.loop-i.i (length c.args.cells.now) _ (omega (arith, c.loop-i-test.true, c.requires.same)) (search)
