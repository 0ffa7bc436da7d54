use Rattle.std.proofs.Common.{◌+◌, ◌<◌, ℕ, Bor, IsTrue, false, arith}
use Rattle.std.specs.Prelude.{sum_by}
use Rattle.std.proofs.lemmas.Bool.{false≢true}
use Rattle.std.proofs.lemmas.Int.{ints}
use Rattle.sketch_countmin.specs.State.{CountState}
use Rattle.sketch_countmin.proofs.Weights.{one_over}
use Rattle.sketch_countmin.proofs.count_min_sketch.CountMinSketch.has_room_for_totals.Goals as goal

-- one is above the room that is left
pub returns-then-size-room : goal.returns-then-size-room
returns-then-size-room g c =
    let total : Bor CountState → ℕ = λ other. other.now.total in
    let others = c.args.others.now in
    let o = c.index-others-i.result in
    let more : c.each.room < o.now.total = omega (arith, ints, c.total_weight.ensures, c.to_number-size.ensures.value, c.to_number-size.ensures.narrow, c.if-size-room.true) in
    let over : g.T.CountMinValue.greatest < c.args.self.now.total + sum_by total others = one_over total others c.each.i o c.args.self.now.total c.each.room g.T.CountMinValue.greatest c.each-test.true c.index-others-i.is c.each.invariant more in
    (λ (t : IsTrue false). absurd (false≢true t), λ fits. absurd (omega (arith, over, fits)))
