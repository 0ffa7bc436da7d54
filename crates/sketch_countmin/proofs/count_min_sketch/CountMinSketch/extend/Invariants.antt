use Rattle.std.proofs.Common.{map}
use Rattle.sketch_countmin.specs.State.{IsCountState, CountsAll}
use Rattle.sketch_countmin.proofs.count_min_sketch.CountMinSketch.extend.Given as goal

-- the items so far are counted
abbrev pub invariant-loop-item : goal.invariant-loop-item
invariant-loop-item g l = record {
  counted : CountsAll l.fn.self (map g.R.Item.bytes l.yielded) l.self;
  state : IsCountState g.T.CountMinValue.greatest l.self;
}
