use Rattle.std.proofs.Common.{◌≡◌, ◌+◌, take}
use Rattle.std.specs.Prelude.{sum_by}
use Rattle.sketch_countmin.proofs.count_min_sketch.CountMinSketch.has_room_for_totals.Given as goal

-- what is left for the other totals
abbrev pub invariant-each : goal.invariant-each
invariant-each g l = l.self.total + sum_by (λ other. other.now.total) (take l.i l.others) + l.room ≡ g.T.CountMinValue.greatest
