use Rattle.std.proofs.Common.{arith, ◌∙◌}
use Rattle.sketch_countmin.specs.Values.{halved}
use Rattle.sketch_countmin.proofs.CellMaps.{map_more_here, mapped_all}
use Rattle.sketch_countmin.proofs.cells.halve_all.Goals as goal

pub loop-value-preserved : goal.loop-value-preserved
loop-value-preserved g c =
    map_more_here g.T.CountMinValue.number halved c.loop-value.counts c.args.counts.now c.loop-value.value-index c.value-item.result c.halve.result
    (omega (arith, c.loop-value-test.true, c.loop-value.auto.counts)) c.loop-value.auto.counts c.value-item.is c.halve.ensures c.loop-value.invariant

pub returns : goal.returns
returns g c = c.loop-value.invariant ∙ mapped_all g.T.CountMinValue.number halved c.args.counts.now c.loop-value.value-index c.loop-value-test.false
