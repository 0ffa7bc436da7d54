use Rattle.std.proofs.Common.{map}
use Rattle.sketch_countmin.specs.Buckets.{buckets_by}
use Rattle.sketch_countmin.specs.Cells.{RowsAdded}
use Rattle.sketch_countmin.proofs.grid.Grid.add_to_each.Given as goal

abbrev pub invariant-loop-row : goal.invariant-loop-row
invariant-loop-row g l = RowsAdded l.rows.buckets (g.T.CountMinValue.number l.weight) (buckets_by l.rows.buckets l.rows.seeds.now (g.R.Rehashable.bytes l.bytes)) l.row (map g.T.CountMinValue.number l.initial.counts) (map g.T.CountMinValue.number l.counts)
