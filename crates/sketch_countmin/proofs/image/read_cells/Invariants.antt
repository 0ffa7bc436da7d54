use Rattle.std.proofs.Common.{◌≡◌, ◌+◌, ◌-◌, ◌*◌, ◌≤◌, ◌++◌, map, drop, vec_len, vec_capacity}
use Rattle.sketch_base.specs.Checks.{first_failing}
use Rattle.sketch_countmin.specs.Image.{numbers_in, cells_checks}
use Rattle.sketch_countmin.proofs.image.read_cells.Given as goal

-- the cells read so far and those that are still to be read are all of them, the first fault of all is one of those that
-- are still to be read, and there is room for them
abbrev pub invariant-loop-i : goal.invariant-loop-i
invariant-loop-i g l = record {
  cells : map g.T.CountMinValue.number l.counts.items ++ numbers_in g.T.CountMinValue.least (l.num_cells - l.i) (drop (24 + 8 * l.i) l.image)
      ≡ numbers_in g.T.CountMinValue.least l.num_cells (drop 24 l.image);
  fault : first_failing (cells_checks g.T.CountMinValue.least g.T.CountMinValue.greatest l.total (numbers_in g.T.CountMinValue.least l.num_cells (drop 24 l.image)))
      ≡ first_failing (cells_checks g.T.CountMinValue.least g.T.CountMinValue.greatest l.total (numbers_in g.T.CountMinValue.least (l.num_cells - l.i) (drop (24 + 8 * l.i) l.image)));
  count : vec_len l.counts ≡ l.i;
  room : l.num_cells ≤ vec_capacity l.counts;
}
