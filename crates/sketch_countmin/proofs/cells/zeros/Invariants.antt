use Rattle.std.proofs.Common.{◌≡◌, ◌≤◌, ◌-◌, map, replicate, pos, vec_len}
use Rattle.sketch_countmin.proofs.cells.zeros.Given as goal

abbrev pub invariant-loop-counts : goal.invariant-loop-counts
invariant-loop-counts g l = record {
  zeros : map g.T.CountMinValue.number l.counts.items ≡ replicate (vec_len l.counts) (pos 0);
  size : vec_len l.counts ≤ l.size;
}

abbrev pub decreases-loop-counts : goal.decreases-loop-counts
decreases-loop-counts g l = l.size - vec_len l.counts
