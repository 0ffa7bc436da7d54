use Rattle.std.proofs.Common.{◌≡◌, ℕ, ◌<◌, [], map, drop, length, get_or, pos}
use Rattle.sketch_countmin.specs.State.{IsMinCell}
use Rattle.sketch_countmin.proofs.count_min_sketch.CountMinSketch.estimate_each.Given as goal

-- the estimates so far are those of the items
abbrev pub invariant-each : goal.invariant-each
invariant-each g l = record {
  rest : drop l.i (g.I.Items.list l.fn.items) ≡ g.I.Items.list l.items;
  size : length l.estimates ≡ length l.fn.estimates;
  least : (k : ℕ) → k < l.i → IsMinCell l.self (get_or (g.I.Items.list l.fn.items) k [])
      (get_or (map g.T.CountMinValue.number l.estimates) k (pos 0));
}

abbrev pub decreases-each : goal.decreases-each
decreases-each g l = length (g.I.Items.list l.items)
