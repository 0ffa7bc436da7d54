use Rattle.std.proofs.Common.{◌≡◌, ℕ, ◌<◌, slice_index, vec_len}
use Rattle.sketch_countmin.specs.Buckets.{row_seed}
use Rattle.sketch_countmin.proofs.rows.row_seeds.Given as goal

abbrev pub invariant-loop-row : goal.invariant-loop-row
invariant-loop-row l = record {
  size : vec_len l.seeds ≡ l.row;
  seeds : (r : ℕ) → r < l.row → slice_index l.seeds.items r ≡ row_seed r l.seed;
}
