use Rattle.std.proofs.Common.{arith, sym, ap, subst, ◌∙◌, ◌≡◌, ℕ, ◌*◌, List, map, length, ℤ}
use Rattle.sketch_countmin.specs.Buckets.{buckets_by}
use Rattle.sketch_countmin.specs.Cells.{RowsAdded}
use Rattle.sketch_countmin.specs.Grid.{GridState}
use Rattle.sketch_countmin.proofs.Grids.{slice_size, item_written}
use Rattle.sketch_countmin.proofs.Places.{row_added}
use Rattle.sketch_countmin.proofs.RowSteps.{rows_none}
use Rattle.sketch_countmin.proofs.grid.Grid.add_to_four.Goals as goal

pub returns : goal.returns
returns g c =
    let num = g.T.CountMinValue.number in
    let d : ℕ = c.self.inside.buckets in
    let w : ℤ = num c.args.weight in
    let bucket = buckets_by d c.deref.result.now (g.R.Rehashable.bytes c.args.bytes.now) in
    let counts = c.as_mut_slice-counts.result.now in
    let old : List ℤ = map num counts in
    let size : ℕ = length c.deref.result.now * d in
    let long : length counts ≡ size = slice_size num _ _ _ c.self.inside.counts _ c.self.invariant c.deref.ensures.value c.as_mut_slice-counts.ensures.value in
    let long-1 : length c.add_at.new.counts ≡ size = c.add_at.auto.counts ∙ long in
    let long-2 : length c.add_at-2.new.counts ≡ size = c.add_at-2.auto.counts ∙ long-1 in
    let long-3 : length c.add_at-3.new.counts ≡ size = c.add_at-3.auto.counts ∙ long-2 in
    let one : RowsAdded d w bucket 1 old (map num c.add_at.new.counts) = row_added num d w bucket 0 1 c.index-first.result size old counts c.add_at.new.counts (rows_none d w bucket old) (omega arith) c.index-first.ensures.bucket c.index-first.ensures.index c.index-first.ensures.inside long c.add_at.ensures in
    let two : RowsAdded d w bucket 2 old (map num c.add_at-2.new.counts) = row_added num d w bucket 1 2 c.index-second.result size old c.add_at.new.counts c.add_at-2.new.counts one (omega arith) c.index-second.ensures.bucket c.index-second.ensures.index c.index-second.ensures.inside long-1 c.add_at-2.ensures in
    let three : RowsAdded d w bucket 3 old (map num c.add_at-3.new.counts) = row_added num d w bucket 2 3 c.index-third.result size old c.add_at-2.new.counts c.add_at-3.new.counts two (omega arith) c.index-third.ensures.bucket c.index-third.ensures.index c.index-third.ensures.inside long-2 c.add_at-3.ensures in
    let four : RowsAdded d w bucket 4 old (map num c.add_at-4.new.counts) = row_added num d w bucket 3 4 c.index-fourth.result size old c.add_at-3.new.counts c.add_at-4.new.counts three (omega arith) c.index-fourth.ensures.bucket c.index-fourth.ensures.index c.index-fourth.ensures.inside long-3 c.add_at-4.ensures in
    let long-4 : length c.add_at-4.new.counts ≡ length counts = c.add_at-4.auto.counts ∙ (long-3 ∙ sym long) in
    let rows : length c.deref.result.now ≡ 4 = ap length c.deref.ensures.value ∙ (ap (λ (grid : GridState). length grid.row_seeds) c.self.view_is ∙ c.requires.four) in
    item_written num _ w _ _ _ d c.self.inside.counts counts _ c.self.view_is c.deref.ensures.value c.as_mut_slice-counts.ensures.value c.as_mut_slice-counts.ensures.len long-4
    (subst (λ (n : ℕ). RowsAdded d w bucket n old (map num c.add_at-4.new.counts)) (sym rows) four)
