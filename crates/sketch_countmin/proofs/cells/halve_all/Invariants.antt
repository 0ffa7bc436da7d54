use Rattle.std.proofs.Common.{◌≡◌, ◌++◌, map, take, drop}
use Rattle.sketch_countmin.specs.Values.{halved}
use Rattle.sketch_countmin.proofs.cells.halve_all.Given as goal

abbrev pub invariant-loop-value : goal.invariant-loop-value
invariant-loop-value g l = map g.T.CountMinValue.number l.counts ≡ map halved (take l.value-index (map g.T.CountMinValue.number l.initial.counts)) ++ drop l.value-index (map g.T.CountMinValue.number l.initial.counts)
