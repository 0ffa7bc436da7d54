use Rattle.std.proofs.Common.{◌<◌, length, arith, refl}
use Rattle.datasketches_c.specs.FrequentRows.{bounds_in}
use Rattle.datasketches_c.proofs.AnswerLemmas.{place_written}
use Rattle.datasketches_c.proofs.frequent_rows.copy_bounds.Goals as goal

pub each-preserved : goal.each-preserved
each-preserved g c =
    let room : c.each.i < length c.each.bounds = omega arith in
    place_written bounds_in c.args.rows.now c.each.bounds c.each.i c.index-rows-i.result _ c.each-test.true room c.index-rows-i.is (rw (c.lower_bound.ensures, c.estimate.ensures, c.upper_bound.ensures) refl) c.each.invariant
