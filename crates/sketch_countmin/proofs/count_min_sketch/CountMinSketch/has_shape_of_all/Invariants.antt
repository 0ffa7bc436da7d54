use Rattle.std.proofs.Common.{take, All}
use Rattle.sketch_countmin.specs.State.{SameShape}
use Rattle.sketch_countmin.proofs.count_min_sketch.CountMinSketch.has_shape_of_all.Given as goal

-- the sketches so far have the shape
abbrev pub invariant-each : goal.invariant-each
invariant-each g l = All (λ other. SameShape l.self other.now) (take l.i l.others)
