use Rattle.std.proofs.Common.{All, IsTrue, true, false, refl, subst}
use Rattle.std.proofs.lemmas.Bool.{false≢true}
use Rattle.std.proofs.lemmas.List.{take_all}
use Rattle.std.proofs.lemmas.List.Elements.{All-more, All-map}
use Rattle.sketch_bloom.specs.State.{IsCompatible}
use Rattle.sketch_bloom.proofs.Unions.{one_other}
use Rattle.sketch_bloom.proofs.bloom_filter.BloomFilter.is_compatible_with_all.Goals as goal

pub returns-then-not-is_compatible-clause-compatible : goal.returns-then-not-is_compatible-clause-compatible
returns-then-not-is_compatible-clause-compatible c = (
  λ (t : IsTrue false). absurd (false≢true t),
  λ all. c.if-not-is_compatible.ensures.1 (one_other (IsCompatible c.args.self.now) c.args.others.now c.each.i c.index-others-i.result c.each-test.true c.index-others-i.is all),
)

pub each-preserved : goal.each-preserved
each-preserved c =
    All-more (λ other. IsCompatible c.args.self.now other.now) c.args.others.now c.each.i c.index-others-i.result c.each-test.true c.each.invariant
    (subst (λ other. IsCompatible c.args.self.now other.now) c.index-others-i.is (c.if-not-is_compatible.ensures.0 refl))

pub returns-clause-compatible : goal.returns-clause-compatible
returns-clause-compatible c = (
  λ (t : IsTrue true). All-map (IsCompatible c.args.self.now) (λ other. other.now) c.args.others.now
      (subst (λ others. All (λ other. IsCompatible c.args.self.now other.now) others) (take_all c.each.i c.args.others.now c.each-test.false) c.each.invariant),
  λ all. refl,
)
