use Rattle.std.proofs.Common.{◌≡◌, ap, subst, arith}
use Rattle.sketch_frequencies.specs.State.{FrequentState, IsState}
use Rattle.sketch_frequencies.proofs.ManyMerges.{total_more, total_most, all_more}
use Rattle.sketch_frequencies.proofs.frequent_items_sketch.FrequentItemsSketch.total_with.Goals as goal

pub returns-then-other-total-clause-over : goal.returns-then-other-total-clause-over
returns-then-other-total-clause-over g c =
    let other = c.index-others-i.result in
    let is : c.other.inside.total ≡ other.now.total = ap (λ (s : FrequentState g.row.T.Denot). s.total) c.other.view_is in
    omega (arith, c.each.invariant.total, c.if-other-total.true, c.each.auto.total-fits, is, total_most c.args.others.now c.each.i other c.each-test.true c.index-others-i.is)

pub each-preserved : goal.each-preserved
each-preserved g c =
    let other = c.index-others-i.result in
    let eq = g.T.PartialEq.eq in
    let is : c.other.inside.total ≡ other.now.total = ap (λ (s : FrequentState g.row.T.Denot). s.total) c.other.view_is in
    record {
      total = omega (arith, c.each.invariant.total, is, total_more c.args.others.now c.each.i other c.each-test.true c.index-others-i.is);
      states = all_more (IsState eq) c.args.others.now c.each.i other c.each-test.true c.index-others-i.is c.each.invariant.states (subst (λ s. IsState eq s) c.other.view_is c.other.invariant);
    }
