use Rattle.std.proofs.Common.{◌≡◌, ℕ, ◌<◌, length, slice_index}
use Rattle.sketch_countmin.specs.Buckets.{row_seed}
use Rattle.sketch_countmin.proofs.count_min_view.row_seeds_of.Given as goal

-- the seeds of the rows so far are there
abbrev pub invariant-rows : goal.invariant-rows
invariant-rows l = record {
  size : length l.seeds ≡ 255;
  seeds : (r : ℕ) → r < l.row → slice_index l.seeds r ≡ row_seed r l.seed;
}
