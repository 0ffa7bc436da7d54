use Rattle.std.proofs.Common.{arith, ◌≡◌, ◌+◌, ◌<◌, ◌≤◌, ◌∙◌, length, sum, refl}
use Rattle.sketch_frequencies.specs.Image.{active_at, weights_at}
use Rattle.sketch_frequencies.proofs.ImageWeights.{length-weights_at, sum_next, sum_take-le, over_total, over_error, weights_pass, sum_whole}
use Rattle.sketch_frequencies.proofs.image.check_weights.Goals as goal

pub loop-i-preserved : goal.loop-i-preserved
loop-i-preserved c =
    let ws = weights_at c.args.image.now in
    let here : c.loop-i.i < length ws = omega (arith, c.loop-i-test.true, c.requires.fields.active, length-weights_at c.args.image.now) in
    record {
      sum = omega (arith, c.loop-i.invariant.sum, c.weight_at-weight.ensures, sum_next ws c.loop-i.i here);
      within = omega (arith, c.loop-i.invariant.within, c.if-weight-total.false);
    }

pub returns-then-weight-total-clause-err : goal.returns-then-weight-total-clause-err
returns-then-weight-total-clause-err c =
    let image = c.args.image.now in
    let ws = weights_at image in
    let here : c.loop-i.i < length ws = omega (arith, c.loop-i-test.true, c.requires.fields.active, length-weights_at image) in
    rw c.invalid_data.ensures (refl, over_total image (omega (arith, c.loop-i.invariant.sum, c.loop-i.invariant.within, c.weight_at-weight.ensures, sum_next ws c.loop-i.i here, sum_take-le ws (c.loop-i.i + 1), c.requires.fields.total, c.if-weight-total.true)))

pub returns-then-numbers-total-clause-err : goal.returns-then-numbers-total-clause-err
returns-then-numbers-total-clause-err c =
    let image = c.args.image.now in
    let le : active_at image ≤ c.loop-i.i = omega (arith, c.loop-i-test.false, c.requires.fields.active) in
    let sum_is : c.loop-i.sum ≡ sum (weights_at image) = c.loop-i.invariant.sum ∙ sum_whole image c.loop-i.i le in
    let f = c.requires.fields in
    rw c.invalid_data-then-numbers-total.ensures (refl, over_error image (omega (arith, sum_is, c.loop-i.invariant.within, f.total)) (omega (arith, sum_is, c.loop-i.invariant.within, f.total, f.error, c.if-numbers-total.true)))

pub returns-clause-sum : goal.returns-clause-sum
returns-clause-sum c =
    let image = c.args.image.now in
    let le : active_at image ≤ c.loop-i.i = omega (arith, c.loop-i-test.false, c.requires.fields.active) in
    let sum_is : c.loop-i.sum ≡ sum (weights_at image) = c.loop-i.invariant.sum ∙ sum_whole image c.loop-i.i le in
    omega (arith, sum_is, c.loop-i.invariant.within, c.if-numbers-total.false)

pub returns-clause-checks : goal.returns-clause-checks
returns-clause-checks c = weights_pass c.args.image.now (omega (arith, returns-clause-sum c, c.requires.fields.total, c.requires.fields.error))
