use Rattle.std.proofs.Common.{◌≡◌, ℕ, ◌<◌, [], map, get_or, pos}
use Rattle.sketch_base.specs.Hashes.{fed_bytes}
use Rattle.sketch_countmin.specs.Buckets.{buckets_by}
use Rattle.sketch_countmin.specs.Cells.{flat_at}
use Rattle.sketch_countmin.proofs.row_cells.RowCells.first_cells.Given as goal

abbrev pub invariant-loop-i : goal.invariant-loop-i
invariant-loop-i g l = (j : ℕ) → j < l.i → get_or (map g.T.CountMinValue.number l.cells) j (pos 0) ≡ flat_at l.self.rows.buckets (g.C.CellList.list l.self.cells) 0 (buckets_by l.self.rows.buckets l.self.rows.seeds.now (get_or (map (fed_bytes g.I.Hash.hash_input) l.items) j []) 0)
