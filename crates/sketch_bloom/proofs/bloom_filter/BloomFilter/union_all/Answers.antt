use Rattle.std.proofs.Common.{◌≡◌, List, map, take, refl, sym, ap, ◌∙◌, subst}
use Rattle.std.proofs.lemmas.List.{take_all}
use Rattle.sketch_bloom.specs.History.{all_united_after}
use Rattle.sketch_bloom.specs.Stands.{StandsFor}
use Rattle.sketch_bloom.specs.State.{FilterState, IsCompatible, united, all_united}
use Rattle.sketch_bloom.proofs.Unions.{one_other, united_compatible, united_more, all_united_stands, ok_said}
use Rattle.sketch_bloom.proofs.bloom_filter.BloomFilter.union_all.Goals as goal
use Rattle.sketch_bloom.proofs.bloom_filter.BloomFilter.union_all.Goals.{After-each}

-- all are united
all : (c : After-each) → c.each.self ≡ all_united c.args.self.now (map (λ other. other.now) c.args.others.now)
all c = c.each.invariant.united ∙ ap (λ others. all_united c.args.self.now (map (λ other. other.now) others)) (take_all c.each.i c.args.others.now c.each-test.false)

pub each-preserved : goal.each-preserved
each-preserved c =
    let x = c.index-others-i.result in
    let before : List FilterState = map (λ other. other.now) (take c.each.i c.args.others.now) in
    let compatible : IsCompatible c.args.self.now x.now = one_other (IsCompatible c.args.self.now) c.args.others.now c.each.i x c.each-test.true c.index-others-i.is (c.if-not-is_compatible_with_all.ensures.compatible.0 refl) in
    let still : IsCompatible c.each.self x.now = subst (λ (s : FilterState). IsCompatible s x.now) (sym c.each.invariant.united) (united_compatible c.args.self.now before x.now compatible) in
    let one : c.combine.new.self ≡ united c.each.self x.now = ok_said c.combine.result _ (c.combine.ensures.accepted.1 still) c.combine.ensures.ok in
    record {
      united = one ∙ (ap (λ (s : FilterState). united s x.now) c.each.invariant.united ∙ sym (united_more c.args.self.now c.args.others.now c.each.i x c.each-test.true c.index-others-i.is));
      state = c.combine.ensures.state;
    }

pub returns-clause-stands : goal.returns-clause-stands
returns-clause-stands c = λ g hs e each.
    let others : List FilterState = map (λ other. other.now) c.args.others.now in
    subst (λ (s : FilterState). StandsFor s (all_united_after g hs)) (sym (all c)) (all_united_stands c.args.self.now others g hs e each)

pub returns-clause-ok : goal.returns-clause-ok
returns-clause-ok c = all c
