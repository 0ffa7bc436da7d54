use Rattle.std.proofs.Common.{arith, ap, sym, ◌∙◌, ◌≡◌, ◌<◌, ℕ, List, [], map, length, get_or, pos, refl}
use Rattle.sketch_base.specs.Hashes.{fed_bytes}
use Rattle.sketch_countmin.specs.Buckets.{buckets_by}
use Rattle.sketch_countmin.specs.Cells.{flat_at, IsLesser}
use Rattle.sketch_countmin.proofs.RowSteps.{read_cell, lesser_here}
use Rattle.sketch_countmin.proofs.RowCounts.{read_item}
use Rattle.sketch_countmin.proofs.Estimates.{estimates_more, behind_stay}
use borrow.Author.Rules.{scaled_Fits}
use Rattle.sketch_countmin.proofs.row_cells.RowCells.lesser_cells.Goals as goal

pub loop-i-init : goal.loop-i-init
loop-i-init g c = record { done = λ j lt. absurd (omega arith); rest = λ j _. refl }

pub loop-i-preserved : goal.loop-i-preserved
loop-i-preserved g c =
    let number = g.T.CountMinValue.number in
    let fed = fed_bytes g.I.Hash.hash_input in
    let rows = c.args.self.now.rows in
    let cell = λ (bytes : List ℕ). flat_at rows.buckets (g.C.CellList.list c.args.self.now.cells) c.args.row (buckets_by rows.buckets rows.seeds.now bytes c.args.row) in
    let n : ℕ = c.loop-i.i in
    let more : n < length c.loop-i.least = omega (arith, c.loop-i-test.true, c.loop-i.auto.least, c.requires.same) in
    let old : number c.index-least-i.result ≡ get_or (map number c.args.least.now) n (pos 0) =
    sym (read_cell number c.loop-i.least n c.index-least-i.result more c.index-least-i.is) ∙ c.loop-i.invariant.rest n (omega arith) in
    let here : number c.item_cell-cell.result ≡ cell (get_or (map fed c.args.items.now) n []) =
    c.item_cell-cell.ensures ∙ ap cell (read_item fed c.args.items.now n c.index-items-i.result c.loop-i-test.true c.index-items-i.is) in
    record {
      done = estimates_more number (λ j z. IsLesser (get_or (map number c.args.least.now) j (pos 0)) (cell (get_or (map fed c.args.items.now) j [])) z) c.loop-i.least n c.min.result more c.loop-i.invariant.done
          (lesser_here number g.T.Ord.cmp c.index-least-i.result c.item_cell-cell.result c.min.result _ _ g.met.T.CountMinValue.ordered old here c.min.ensures);
      rest = λ j le. behind_stay number c.loop-i.least n c.min.result j le ∙ c.loop-i.invariant.rest j (omega arith);
    }

pub offset_bounds-least-i : goal.offset_bounds-least-i
offset_bounds-least-i g c = scaled_Fits c.loop-i.i (length c.args.least.now) _ (omega (arith, c.loop-i-test.true, c.requires.same)) (search)

pub bounds-least-i-in-loop-i : goal.bounds-least-i-in-loop-i
bounds-least-i-in-loop-i g c = omega (arith, c.loop-i-test.true, c.loop-i.auto.least, c.requires.same)

pub offset_bounds-least-i-in-loop-i : goal.offset_bounds-least-i-in-loop-i
offset_bounds-least-i-in-loop-i g c = scaled_Fits c.loop-i.i (length c.args.least.now) _ (omega (arith, c.loop-i-test.true, c.requires.same)) (search)
