use Rattle.std.proofs.Common.{arith, sym, ◌≡◌, length, map}
use Rattle.std.proofs.lemmas.List.{length-map}
use Rattle.sketch_countmin.proofs.RowSteps.{read_cell}
use Rattle.sketch_countmin.proofs.Places.{room_for_cell, cell_added, cells_all_added}
use Rattle.sketch_countmin.proofs.cells.add_all.Goals as goal

pub add_at-requires-clause-bounds : goal.add_at-requires-clause-bounds
add_at-requires-clause-bounds g c = omega (arith, c.requires.same, c.loop-index.auto.counts, c.loop-index-test.true)

pub add_at-requires-clause-room : goal.add_at-requires-clause-room
add_at-requires-clause-room g c =
    room_for_cell g.T.CountMinValue.number _ c.loop-index.index _ c.loop-index.counts c.args.other.now c.index-other-index.result c.loop-index.invariant c.loop-index-test.true c.index-other-index.is c.requires.room

pub loop-index-preserved : goal.loop-index-preserved
loop-index-preserved g c =
    cell_added c.loop-index.index _ _ (map g.T.CountMinValue.number c.loop-index.counts) _ (g.T.CountMinValue.number c.index-other-index.result) c.loop-index.invariant
    (omega (arith, length-map c.loop-index.counts g.T.CountMinValue.number, c.requires.same, c.loop-index.auto.counts, c.loop-index-test.true))
    (sym (read_cell g.T.CountMinValue.number c.args.other.now c.loop-index.index c.index-other-index.result c.loop-index-test.true c.index-other-index.is)) c.add_at.ensures

pub returns : goal.returns
returns g c =
    let end : c.loop-index.index ≡ length c.args.other.now = omega arith in
    cells_all_added g.T.CountMinValue.number c.loop-index.index _ _ c.args.other.now c.loop-index.invariant end
