use Rattle.std.proofs.Common.{sym, subst, arith}
use Rattle.sketch_frequencies.specs.ManyMerges.{states_of}
use Rattle.sketch_frequencies.specs.State.{IsState}
use Rattle.sketch_frequencies.proofs.ManyMerges.{HasMerged, has_merged_none, has_merged_more, joins_all_alike, states_all, states_more, states_some, total_more, total_most}
use Rattle.sketch_frequencies.proofs.SameStates.{same_state_refl}
use Rattle.sketch_frequencies.proofs.frequent_items_sketch.FrequentItemsSketch.absorb_all.Goals as goal

pub each-init : goal.each-init
each-init g c =
    record {
      merged = has_merged_none g.T.PartialEq.eq c.args.self.now c.args.self.now (same_state_refl g.met.T.Eq.laws c.args.self.now) (λ h s. s) (λ h keeps. keeps);
      total = omega arith;
      state = subst (λ s. IsState g.T.PartialEq.eq s) c.self.view_is c.self.invariant;
      greatest = λ at. at;
    }

pub absorb-requires : goal.absorb-requires
absorb-requires g c =
    omega (arith, c.each.invariant.total, c.requires.fits, total_most c.args.others.now c.each.i c.index-others-i.result c.each-test.true c.index-others-i.is)

pub each-preserved : goal.each-preserved
each-preserved g c =
    let eq = g.T.PartialEq.eq in
    let other = c.index-others-i.result in
    let e = c.in_ok-absorb.ensures in
    record {
      merged = subst (λ ss. HasMerged eq c.args.self.now ss c.absorb.new.self) (sym (states_more c.args.others.now c.each.i other c.each-test.true c.index-others-i.is)) (has_merged_more eq c.args.self.now c.each.self c.absorb.new.self _ other.now c.each.invariant.merged e.join e.stands e.budget);
      total = omega (arith, c.each.invariant.total, e.total, total_more c.args.others.now c.each.i other c.each-test.true c.index-others-i.is);
      state = c.absorb.ensures.state;
      greatest = λ at. e.greatest (c.each.invariant.greatest at);
    }

pub returns-clause-joins : goal.returns-clause-joins
returns-clause-joins g c =
    let eq = g.T.PartialEq.eq in
    let old = c.args.self.now in
    let whole = subst (λ ss. HasMerged eq old ss c.each.self) (states_all c.args.others.now c.each.i c.each-test.false) c.each.invariant.merged in
    joins_all_alike g.met.T.Eq.laws old whole.start c.each.self (states_of c.args.others.now) (subst (λ s. IsState eq s) c.self.view_is c.self.invariant) whole.same (states_some c.args.others.now c.requires.some) whole.joins

pub returns-clause-stands : goal.returns-clause-stands
returns-clause-stands g c =
    let whole = subst (λ ss. HasMerged g.T.PartialEq.eq c.args.self.now ss c.each.self) (states_all c.args.others.now c.each.i c.each-test.false) c.each.invariant.merged in
    whole.stands

pub returns-clause-budget : goal.returns-clause-budget
returns-clause-budget g c =
    let whole = subst (λ ss. HasMerged g.T.PartialEq.eq c.args.self.now ss c.each.self) (states_all c.args.others.now c.each.i c.each-test.false) c.each.invariant.merged in
    whole.budget
