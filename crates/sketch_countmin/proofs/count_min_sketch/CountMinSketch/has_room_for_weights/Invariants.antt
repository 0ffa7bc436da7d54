use Rattle.std.proofs.Common.{◌≡◌, ◌+◌, take}
use Rattle.std.specs.Prelude.{sum_by, unsigned_abs}
use Rattle.sketch_countmin.proofs.count_min_sketch.CountMinSketch.has_room_for_weights.Given as goal

-- what is left for the other weights
abbrev pub invariant-each : goal.invariant-each
invariant-each g l =
    l.self.total + sum_by (λ (w : g.row.T.Denot). unsigned_abs (g.T.CountMinValue.number w)) (take l.i l.weights) + l.room ≡ g.T.CountMinValue.greatest
