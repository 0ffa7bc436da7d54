use Rattle.std.proofs.Common.{◌≡◌, ◌+◌, map, take}
use Rattle.std.specs.Prelude.{sum_by}
use Rattle.sketch_countmin.specs.State.{SameShape, JoinsEach, IsCountState}
use Rattle.sketch_countmin.proofs.count_min_sketch.CountMinSketch.merge_all.Given as goal

-- the sketches so far are added
abbrev pub invariant-each : goal.invariant-each
invariant-each g l = record {
  joined : JoinsEach l.fn.self (map (λ other. other.now) (take l.i l.others)) l.self;
  shape : SameShape l.self l.fn.self;
  total : l.self.total ≡ l.fn.self.total + sum_by (λ other. other.now.total) (take l.i l.others);
  state : IsCountState g.T.CountMinValue.greatest l.self;
}
