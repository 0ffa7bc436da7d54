use Rattle.std.proofs.Common.{ℕ, ap, ◌∙◌, arith, get_or, length}
use Rattle.sketch_countmin.specs.Values.{scaled}
use Rattle.sketch_countmin.proofs.CellMaps.{map_more_here, mapped_all}
use Rattle.sketch_countmin.proofs.Decays.{scaled_whole}
use borrow.Author.Rules.{scaled_Fits}
use Rattle.sketch_countmin.proofs.cells.scale_all.Goals as goal

pub loop-value-preserved : goal.loop-value-preserved
loop-value-preserved g c =
    map_more_here g.T.CountMinValue.number (scaled c.args.numerator c.args.denominator) c.loop-value.counts c.args.counts.now c.loop-value.value-index c.value-item.result c.scale_by.result
    (omega (arith, c.loop-value-test.true, c.loop-value.auto.counts)) c.loop-value.auto.counts c.value-item.is (c.scale_by.ensures ∙ ap (λ (f : ℕ × ℕ). scaled f.0 f.1 (g.T.CountMinValue.number (get_or c.loop-value.counts c.loop-value.value-index c.value-item.result))) c.new-fraction.ensures) c.loop-value.invariant

pub returns-then-numerator-denominator : goal.returns-then-numerator-denominator
returns-then-numerator-denominator g c =
    scaled_whole g.T.CountMinValue.number g.met.T.UnsignedCountMinValue.unsigned c.args.numerator c.args.denominator c.requires.positive c.if-numerator-denominator.true c.args.counts.now

pub returns : goal.returns
returns g c = c.loop-value.invariant ∙ mapped_all g.T.CountMinValue.number (scaled c.args.numerator c.args.denominator) c.args.counts.now c.loop-value.value-index c.loop-value-test.false

pub offset_bounds-counts-value-index : goal.offset_bounds-counts-value-index
offset_bounds-counts-value-index g c = scaled_Fits c.loop-value.value-index (length c.args.counts.now) _ c.loop-value-test.true (search)
