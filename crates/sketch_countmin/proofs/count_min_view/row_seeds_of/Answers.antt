use Rattle.std.proofs.Common.{arith, ap, ℕ, ◌∙◌, length-set}
use Rattle.sketch_countmin.proofs.RowSteps.{seeds_set}
use Rattle.sketch_countmin.proofs.count_min_view.row_seeds_of.Goals as goal

pub rows-preserved : goal.rows-preserved
rows-preserved c = record {
  size = length-set c.rows.seeds c.rows.row c.murmur3_of_u64.result.0 ∙ c.rows.invariant.size;
  seeds = seeds_set c.rows.seeds c.rows.row c.args.seed c.murmur3_of_u64.result.0 (omega (arith, c.rows.invariant.size)) c.rows.invariant.seeds (ap (λ (h : ℕ × ℕ). h.0) c.murmur3_of_u64.ensures);
}
