use Rattle.std.proofs.Common.{◌<◌, ◌≤◌, length, arith}
use borrow.Author.Rules.{scaled_Fits}
use Rattle.sketch_base.specs.Batches.{written_all}
use Rattle.sketch_frequencies.specs.RowValue.{RowValue}
use Rattle.datasketches_c.proofs.AnswerLemmas.{place_written}
use Rattle.datasketches_c.proofs.frequent_rows.copy_items.Goals as goal

pub offset_bounds-rows-i : goal.offset_bounds-rows-i
offset_bounds-rows-i g c = omega arith

-- the items have room
pub offset_bounds-items-i : goal.offset_bounds-items-i
offset_bounds-items-i g c =
    let room : c.each.i < length c.args.items.now = omega arith in
    scaled_Fits c.each.i (length c.args.items.now) _ room (search)

pub each-preserved : goal.each-preserved
each-preserved g c =
    let room : c.each.i < length c.each.items = omega arith in
    place_written (λ (row : RowValue g.row.T.Denot). row.item) c.args.rows.now c.each.items c.each.i c.index-rows-i.result c.item.result.now c.each-test.true room c.index-rows-i.is c.item.ensures c.each.invariant

pub returns : goal.returns
returns g c =
    let full : length c.each.items ≤ c.each.i = omega arith in
    written_all (λ (row : RowValue g.row.T.Denot). row.item) c.args.rows.now c.each.items c.each.i c.each-test.false full c.each.invariant
