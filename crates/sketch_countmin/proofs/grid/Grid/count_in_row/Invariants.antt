use Rattle.std.proofs.Common.{map, take, slice_index}
use Rattle.sketch_base.specs.Hashes.{fed_bytes}
use Rattle.sketch_countmin.specs.Buckets.{bucket_by}
use Rattle.sketch_countmin.specs.Cells.{RowCounted}
use Rattle.sketch_countmin.proofs.grid.Grid.count_in_row.Given as goal

abbrev pub invariant-loop-item : goal.invariant-loop-item
invariant-loop-item g l = RowCounted l.rows.buckets (bucket_by l.rows.buckets (slice_index l.rows.seeds.now l.row)) (take l.item-index (map (fed_bytes g.I.Hash.hash_input) l.items)) l.row (map g.T.CountMinValue.number l.initial.counts) (map g.T.CountMinValue.number l.counts)
