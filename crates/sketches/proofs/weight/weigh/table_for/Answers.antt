use Rattle.std.proofs.lemmas.Result.{err_from_is_err_and}
use Rattle.sketches.specs.KeyWeights.{IsTableFor}
use Rattle.sketches.proofs.ItemWeights.{table_failed, table_made}
use Rattle.sketches.proofs.weight.weigh.table_for.Goals as goal

pub returns-in_err-sketch-clause-failed : goal.returns-in_err-sketch-clause-failed
returns-in_err-sketch-clause-failed c =
    let e = err_from_is_err_and c.from_residual-in_err-sketch.result c.from_residual-in_err-sketch.ensures.1 in
    let b = c.in_ok-num_buckets.ensures in
    let h = c.in_ok-num_hashes.ensures in
    let sizes : IsTableFor c.args.parts c.args.questions c.in_ok-num_hashes.num_hashes c.in_ok-num_buckets.num_buckets = record { enough_buckets = b.enough; least_buckets = b.least; enough_hashes = h.enough; least_hashes = h.least } in
    rw (e.1, e.2) (table_failed c.args.parts c.args.questions c.in_ok-num_hashes.num_hashes c.in_ok-num_buckets.num_buckets c.args.seed _ sizes h.allowed b.allowed.0 (rw c.usable_seed.ensures at c.in_err-sketch.ensures.refused))

pub returns-clause-made : goal.returns-clause-made
returns-clause-made c =
    let b = c.in_ok-num_buckets.ensures in
    let h = c.in_ok-num_hashes.ensures in
    let sizes : IsTableFor c.args.parts c.args.questions c.in_ok-num_hashes.num_hashes c.in_ok-num_buckets.num_buckets = record { enough_buckets = b.enough; least_buckets = b.least; enough_hashes = h.enough; least_hashes = h.least } in
    let s = c.in_ok-sketch.ensures in
    table_made c.args.parts c.args.questions c.args.seed c.in_ok-num_hashes.num_hashes c.in_ok-num_buckets.num_buckets c.in_ok-sketch.sketch sizes b.allowed.0 (rw c.usable_seed.ensures at s.ok) (rw c.usable_seed.ensures at s.stands)
