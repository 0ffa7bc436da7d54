use Rattle.std.proofs.Common.{ℤ, ◌≡◌, ◌++◌, map, take, drop, pos}
use Rattle.sketch_countmin.proofs.cells.clear_all.Given as goal

abbrev pub invariant-loop-value : goal.invariant-loop-value
invariant-loop-value g l = map g.T.CountMinValue.number l.counts ≡ map (λ (x : ℤ). pos 0) (take l.value-index (map g.T.CountMinValue.number l.initial.counts)) ++ drop l.value-index (map g.T.CountMinValue.number l.initial.counts)
