use Rattle.std.proofs.Common.{All, IsTrue, true, false, refl, subst}
use Rattle.std.proofs.lemmas.Bool.{false≢true}
use Rattle.std.proofs.lemmas.List.{take_all}
use Rattle.std.proofs.lemmas.List.Elements.{All-more, All-map}
use Rattle.sketch_countmin.specs.State.{SameShape}
use Rattle.sketch_countmin.proofs.Chains.{one_other}
use Rattle.sketch_countmin.proofs.Tables.{state_shown}
use Rattle.sketch_countmin.proofs.count_min_sketch.CountMinSketch.has_shape_of_all.Goals as goal

pub returns-then-not-has_shape_of-clause-shape : goal.returns-then-not-has_shape_of-clause-shape
returns-then-not-has_shape_of-clause-shape g c = (
  λ (t : IsTrue false). absurd (false≢true t),
  λ all. c.if-not-has_shape_of.ensures.1 (one_other (SameShape c.args.self.now) c.args.others.now c.each.i c.index-others-i.result c.each-test.true c.index-others-i.is all),
)

pub returns-then-not-has_shape_of-clause-state : goal.returns-then-not-has_shape_of-clause-state
returns-then-not-has_shape_of-clause-state g c = state_shown _ _ _ _ _ _ _ c.self.view_is c.self.invariant

pub each-preserved : goal.each-preserved
each-preserved g c =
    All-more (λ other. SameShape c.args.self.now other.now) c.args.others.now c.each.i c.index-others-i.result c.each-test.true c.each.invariant
    (subst (λ other. SameShape c.args.self.now other.now) c.index-others-i.is (c.if-not-has_shape_of.ensures.0 refl))

pub returns-clause-shape : goal.returns-clause-shape
returns-clause-shape g c = (
  λ (t : IsTrue true). All-map (SameShape c.args.self.now) (λ other. other.now) c.args.others.now
      (subst (λ others. All (λ other. SameShape c.args.self.now other.now) others) (take_all c.each.i c.args.others.now c.each-test.false) c.each.invariant),
  λ all. refl,
)

pub returns-clause-state : goal.returns-clause-state
returns-clause-state g c = state_shown _ _ _ _ _ _ _ c.self.view_is c.self.invariant
