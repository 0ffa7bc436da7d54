use Rattle.std.proofs.Common.{◌+◌, ◌<◌, ℕ, IsTrue, false, unsigned_abs, arith}
use Rattle.std.specs.Prelude.{sum_by}
use Rattle.std.proofs.lemmas.Bool.{false≢true}
use Rattle.std.proofs.lemmas.Int.{ints}
use Rattle.sketch_countmin.proofs.Tables.{state_shown}
use Rattle.sketch_countmin.proofs.Weights.{one_over}
use Rattle.sketch_countmin.proofs.count_min_sketch.CountMinSketch.has_room_for_weights.Goals as goal

-- one is above the room that is left
pub returns-then-size-room-clause-fits : goal.returns-then-size-room-clause-fits
returns-then-size-room-clause-fits g c =
    let size : g.row.T.Denot → ℕ = λ weight. unsigned_abs (g.T.CountMinValue.number weight) in
    let weights = c.args.weights.now in
    let w = c.index-weights-i.result in
    let more : c.each.room < size w = omega (arith, ints, c.unsigned_abs-size.ensures.value, c.to_number.ensures.value, c.to_number.ensures.narrow, c.if-size-room.true) in
    let over : g.T.CountMinValue.greatest < c.args.self.now.total + sum_by size weights = one_over size weights c.each.i w c.args.self.now.total c.each.room g.T.CountMinValue.greatest c.each-test.true c.index-weights-i.is c.each.invariant more in
    (λ (t : IsTrue false). absurd (false≢true t), λ fits. absurd (omega (arith, over, fits)))

pub returns-then-size-room-clause-state : goal.returns-then-size-room-clause-state
returns-then-size-room-clause-state g c = state_shown _ _ _ _ _ _ _ c.self.view_is c.self.invariant

pub returns-clause-state : goal.returns-clause-state
returns-clause-state g c = state_shown _ _ _ _ _ _ _ c.self.view_is c.self.invariant
