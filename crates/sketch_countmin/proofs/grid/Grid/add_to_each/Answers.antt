use Rattle.std.proofs.Common.{arith, refl, subst, ◌∙◌, ◌≡◌, ℕ, ◌+◌, ◌≤◌, map, length, ◌+ℤ◌, unsigned_abs}
use Rattle.sketch_countmin.specs.Buckets.{buckets_by}
use Rattle.sketch_countmin.specs.Cells.{RowsAdded, cell_in}
use Rattle.sketch_countmin.proofs.Grids.{slice_size, of_slice, item_written}
use Rattle.sketch_countmin.proofs.Places.{room_behind, row_added}
use Rattle.sketch_countmin.proofs.RowSteps.{rows_none}
use Rattle.sketch_countmin.proofs.grid.Grid.add_to_each.Goals as goal

pub loop-row-init : goal.loop-row-init
loop-row-init g c = rows_none _ _ _ _

pub loop-row-preserved : goal.loop-row-preserved
loop-row-preserved g c =
    let number = g.T.CountMinValue.number in
    let bucket = buckets_by c.self.inside.buckets c.deref.result.now (g.R.Rehashable.bytes c.args.bytes.now) in
    row_added number _ _ bucket c.loop-row.row (c.loop-row.row + 1) _ _ _ c.loop-row.counts c.add_at.new.counts c.loop-row.invariant refl
    c.index-index.ensures.bucket c.index-index.ensures.index c.index-index.ensures.inside
    (c.loop-row.auto.counts ∙ slice_size number _ _ _ c.self.inside.counts _ c.self.invariant c.deref.ensures.value c.as_mut_slice-counts.ensures.value) c.add_at.ensures

pub returns : goal.returns
returns g c =
    let number = g.T.CountMinValue.number in
    let d : ℕ = c.self.inside.buckets in
    let bucket = buckets_by d c.deref.result.now (g.R.Rehashable.bytes c.args.bytes.now) in
    let counts = c.as_mut_slice-counts.result.now in
    let all : c.loop-row.row ≡ length c.deref.result.now = omega arith in
    item_written number _ (number c.args.weight) _ _ _ d c.self.inside.counts counts _ c.self.view_is c.deref.ensures.value c.as_mut_slice-counts.ensures.value c.as_mut_slice-counts.ensures.len c.loop-row.auto.counts
    (subst (λ (n : ℕ). RowsAdded d (number c.args.weight) bucket n (map number counts) (map number c.loop-row.counts)) all c.loop-row.invariant)

pub add_at-requires-clause-room : goal.add_at-requires-clause-room
add_at-requires-clause-room g c =
    let number = g.T.CountMinValue.number in
    let bucket = buckets_by c.self.inside.buckets c.deref.result.now (g.R.Rehashable.bytes c.args.bytes.now) in
    room_behind _ _ _ bucket c.loop-row.row c.index-index.result _ _ c.loop-row.invariant c.index-index.ensures.index
    (of_slice number (λ _ cells. (k : ℕ) → unsigned_abs (cell_in cells k +ℤ number c.args.weight) ≤ g.T.CountMinValue.greatest) _ _ _ _ _ c.self.view_is c.as_mut_slice-counts.ensures.value c.requires.room)
