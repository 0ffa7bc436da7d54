use Rattle.std.proofs.Common.{arith, ap, pos, ◌∙◌}
use Rattle.sketch_countmin.proofs.CellMaps.{map_more_here, mapped_all, mapped_to_one}
use Rattle.sketch_countmin.proofs.cells.clear_all.Goals as goal

pub loop-value-preserved : goal.loop-value-preserved
loop-value-preserved g c =
    let number = g.T.CountMinValue.number in
    map_more_here number (λ _. pos 0) c.loop-value.counts c.args.counts.now c.loop-value.value-index c.value-item.result c.ZERO.result
    (omega (arith, c.loop-value-test.true, c.loop-value.auto.counts)) c.loop-value.auto.counts c.value-item.is (ap number c.ZERO.ensures ∙ g.met.T.CountMinValue.zero_is) c.loop-value.invariant

pub returns : goal.returns
returns g c =
    let number = g.T.CountMinValue.number in
    c.loop-value.invariant ∙ (mapped_all number (λ _. pos 0) c.args.counts.now c.loop-value.value-index c.loop-value-test.false ∙ mapped_to_one number (pos 0) c.args.counts.now)
