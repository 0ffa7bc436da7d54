use Rattle.sketch_bloom.specs.State.{intersected}
use Rattle.datasketches.proofs.FilterJoins.{filter_joined, filter_refused}
use Rattle.datasketches.proofs.joining.IntersectJoining.join.Goals as goal

pub returns-in_err-intersect-clause-own : goal.returns-in_err-intersect-clause-own
returns-in_err-intersect-clause-own g c =
    let e = c.in_err-intersect.ensures in
    rw (c.in-Bloom.is, c.in-Bloom-sketch.is) (filter_refused intersected _ _ _ c.from_residual.result _ c.from_residual.ensures.1 e.refused e.accepted e.err)

pub returns-clause-own : goal.returns-clause-own
returns-clause-own g c =
    let e = c.in_ok-intersect.ensures in
    rw (c.in-Bloom.is, c.in-Bloom-sketch.is) (filter_joined intersected _ _ _ e.accepted e.ok)
