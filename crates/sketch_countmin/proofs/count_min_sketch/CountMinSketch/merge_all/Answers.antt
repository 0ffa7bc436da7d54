use Rattle.std.proofs.Common.{◌+◌, ◌≤◌, ℕ, List, Bor, map, refl, subst}
use Rattle.std.specs.Prelude.{sum_by}
use Rattle.std.proofs.lemmas.List.{take_all}
use Rattle.sketch_countmin.specs.State.{CountState, SameShape, Joins, JoinsEach}
use Rattle.sketch_countmin.proofs.Chains.{ok_said, one_other, joins_next, still_same, stands_joined_each}
use Rattle.sketch_countmin.proofs.Weights.{one_fits, one_more}
use Rattle.sketch_countmin.proofs.count_min_sketch.CountMinSketch.merge_all.Given as given
use Rattle.sketch_countmin.proofs.count_min_sketch.CountMinSketch.merge_all.Goals as goal
use Rattle.sketch_countmin.proofs.count_min_sketch.CountMinSketch.merge_all.Goals.{After-each}

-- all are added
all : (g : given.Over) (c : After-each g) → JoinsEach c.args.self.now (map (λ other. other.now) c.args.others.now) c.each.self
all g c = subst (λ (others : List (Bor CountState)). JoinsEach c.args.self.now (map (λ other. other.now) others) c.each.self) (take_all c.each.i c.args.others.now c.each-test.false) c.each.invariant.joined

pub each-preserved : goal.each-preserved
each-preserved g c =
    let others : List (Bor CountState) = c.args.others.now in
    let total : Bor CountState → ℕ = λ other. other.now.total in
    let i = c.each.i in
    let o = c.index-others-i.result in
    let same : SameShape c.args.self.now o.now = one_other (SameShape c.args.self.now) others i o c.each-test.true c.index-others-i.is (c.if-not-has_shape_of_all.ensures.shape.0 refl) in
    let still : SameShape c.each.self o.now = still_same c.args.self.now c.each.self o.now c.each.invariant.shape same in
    let fits : c.args.self.now.total + sum_by total others ≤ g.T.CountMinValue.greatest = c.if-not-has_room_for_totals.ensures.0 refl in
    let room : c.each.self.total + o.now.total ≤ g.T.CountMinValue.greatest = one_fits total others i o c.args.self.now.total c.each.self.total g.T.CountMinValue.greatest c.each-test.true c.index-others-i.is fits c.each.invariant.total in
    let one : Joins c.each.self o.now c.merge.new.self = ok_said c.merge.result _ (c.merge.ensures.succeeds still room) c.merge.ensures.joined in
    record {
      joined = joins_next others i o c.args.self.now c.each.self c.merge.new.self c.each-test.true c.index-others-i.is c.each.invariant.joined one;
      shape = still_same c.each.self c.merge.new.self c.args.self.now one.shape c.each.invariant.shape;
      total = one_more total others i o c.args.self.now.total c.each.self.total c.merge.new.self.total c.each-test.true c.index-others-i.is one.total c.each.invariant.total;
      state = c.merge.ensures.state;
    }

pub returns-clause-joined : goal.returns-clause-joined
returns-clause-joined g c = all g c

pub returns-clause-stands : goal.returns-clause-stands
returns-clause-stands g c = λ first hs is each.
    let others : List CountState = map (λ other. other.now) c.args.others.now in
    stands_joined_each c.args.self.now others c.each.self first hs (all g c) is each
