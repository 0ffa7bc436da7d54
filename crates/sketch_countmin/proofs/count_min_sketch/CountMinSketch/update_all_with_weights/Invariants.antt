use Rattle.std.proofs.Common.{◌≡◌, ◌+◌, map, take, drop, length}
use Rattle.std.specs.List.{zip}
use Rattle.std.specs.Prelude.{sum_by, unsigned_abs}
use Rattle.sketch_countmin.specs.State.{CountsEach, IsCountState}
use Rattle.sketch_countmin.proofs.count_min_sketch.CountMinSketch.update_all_with_weights.Given as goal

-- the items so far are counted
abbrev pub invariant-each : goal.invariant-each
invariant-each g l = record {
  rest : drop l.i (g.I.Items.list l.fn.items) ≡ g.I.Items.list l.items;
  counted : CountsEach l.fn.self (take l.i (zip (g.I.Items.list l.fn.items) (map g.T.CountMinValue.number l.weights))) l.self;
  total : l.self.total ≡ l.fn.self.total + sum_by (λ (w : g.row.T.Denot). unsigned_abs (g.T.CountMinValue.number w)) (take l.i l.weights);
  state : IsCountState g.T.CountMinValue.greatest l.self;
}

abbrev pub decreases-each : goal.decreases-each
decreases-each g l = length (g.I.Items.list l.items)
