use Rattle.std.proofs.Common.{◌≡◌, ℕ, ◌<◌, map, get_or, pos}
use Rattle.sketch_countmin.proofs.cells.same_cells.Given as goal

abbrev pub invariant-loop-index : goal.invariant-loop-index
invariant-loop-index g l = (k : ℕ) → k < l.index → get_or (map g.T.CountMinValue.number l.first) k (pos 0) ≡ get_or (map g.T.CountMinValue.number l.second) k (pos 0)
