use Rattle.std.proofs.Common.{ℕ, ◌<◌, [], map, length, get_or, pos}
use Rattle.sketch_base.specs.Hashes.{fed_bytes}
use Rattle.sketch_countmin.specs.Buckets.{buckets_by}
use Rattle.sketch_countmin.specs.Cells.{IsMinOf}
use Rattle.sketch_countmin.proofs.row_cells.RowCells.min_cells.Given as goal

abbrev pub invariant-loop-row : goal.invariant-loop-row
invariant-loop-row g l = (i : ℕ) → i < length l.items → IsMinOf l.self.rows.buckets (g.C.CellList.list l.self.cells) (buckets_by l.self.rows.buckets l.self.rows.seeds.now (get_or (map (fed_bytes g.I.Hash.hash_input) l.items) i [])) l.row (get_or (map g.T.CountMinValue.number l.least) i (pos 0))
