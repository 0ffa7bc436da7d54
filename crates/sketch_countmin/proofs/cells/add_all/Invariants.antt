use Rattle.std.proofs.Common.{map}
use Rattle.sketch_countmin.specs.Cells.{CellsAdded}
use Rattle.sketch_countmin.proofs.cells.add_all.Given as goal

abbrev pub invariant-loop-index : goal.invariant-loop-index
invariant-loop-index g l = CellsAdded l.index (map g.T.CountMinValue.number l.initial.counts) (map g.T.CountMinValue.number l.other) (map g.T.CountMinValue.number l.counts)
