use Rattle.std.proofs.Common.{◌<◌, [], get_or, arith}
use Rattle.any_sketch.proofs.count_batches.estimate_items.Goals as goal

-- what the law says of each least cell
pub returns-clause-each : goal.returns-clause-each
returns-clause-each g c =
    let s = c.args.sketch.now in
    let some : 0 < s.buckets = omega (arith, c.num_hashes.ensures.state.some_buckets) in
    let law = c.min_cell_bounds.ensures in
    record {
      each = λ i there.
          let bytes = get_or (g.I.Items.list c.args.items) i [] in
          let least = c.estimate_all.ensures.least i there in
          record {
            least = least;
            encloses = λ h is above. law.encloses s h bytes _ some is above least;
            raised = λ h is exact. law.raised s h bytes _ some is exact least;
          };
    }
