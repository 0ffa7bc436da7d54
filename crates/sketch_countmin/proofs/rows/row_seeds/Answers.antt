use Rattle.std.proofs.Common.{arith, ap, ℕ}
use Rattle.sketch_countmin.proofs.RowSteps.{seeds_more}
use Rattle.sketch_countmin.proofs.rows.row_seeds.Goals as goal

pub loop-row-preserved : goal.loop-row-preserved
loop-row-preserved c = record {
  size = omega (arith, c.in_ok-push.ensures.len, c.loop-row.invariant.size);
  seeds = seeds_more c.loop-row.seeds.items c.push.new.self.items c.loop-row.row c.args.seed c.murmur3_of_u64.result.0 (omega (arith, c.loop-row.seeds.ok, c.loop-row.invariant.size)) c.loop-row.invariant.seeds (ap (λ (h : ℕ × ℕ). h.0) c.murmur3_of_u64.ensures) c.in_ok-push.ensures.items;
}
