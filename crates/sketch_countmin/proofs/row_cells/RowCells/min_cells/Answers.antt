use Rattle.std.proofs.Common.{arith, subst, ◌≡◌, ℕ, [], map, length, get_or, pos}
use Rattle.sketch_base.specs.Hashes.{fed_bytes}
use Rattle.sketch_countmin.specs.Buckets.{buckets_by}
use Rattle.sketch_countmin.specs.Cells.{IsMinOf}
use Rattle.sketch_countmin.proofs.RowSteps.{least_lesser, least_at_first}
use Rattle.sketch_countmin.proofs.row_cells.RowCells.min_cells.Goals as goal

pub loop-row-init : goal.loop-row-init
loop-row-init g c = λ i lt. least_at_first _ _ _ _ (c.first_cells.ensures i lt)

pub loop-row-preserved : goal.loop-row-preserved
loop-row-preserved g c = λ i lt. least_lesser _ _ _ _ _ _ (c.loop-row.invariant i lt) (c.lesser_cells.ensures i lt)

pub returns : goal.returns
returns g c = λ i lt.
    let all : c.loop-row.row ≡ length c.args.self.now.rows.seeds.now = omega (arith, c.loop-row-test.false, c.loop-row.auto.row-end) in
    subst (λ (n : ℕ). IsMinOf c.args.self.now.rows.buckets (g.C.CellList.list c.args.self.now.cells) (buckets_by c.args.self.now.rows.buckets c.args.self.now.rows.seeds.now (get_or (map (fed_bytes g.I.Hash.hash_input) c.args.items.now) i [])) n (get_or (map g.T.CountMinValue.number c.loop-row.least) i (pos 0))) all
    (c.loop-row.invariant i lt)
