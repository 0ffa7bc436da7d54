use Rattle.std.proofs.Common.{length}
use Rattle.sketch_countmin.specs.State.{IsCountState}
use Rattle.sketch_countmin.proofs.ItemSequences.{HasCounted}
use Rattle.sketch_countmin.proofs.count_min_sketch.CountMinSketch.update_each.Given as goal

-- the items before those that are left are counted
abbrev pub invariant-each : goal.invariant-each
invariant-each g l = record {
  counted : HasCounted l.fn.self (g.I.Items.list l.fn.items) (g.I.Items.list l.items) l.self;
  state : IsCountState g.T.CountMinValue.greatest l.self;
}

abbrev pub decreases-each : goal.decreases-each
decreases-each g l = length (g.I.Items.list l.items)
