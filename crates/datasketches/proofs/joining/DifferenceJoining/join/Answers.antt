use Rattle.sketch_bloom.specs.State.{subtracted}
use Rattle.datasketches.proofs.FilterJoins.{filter_joined, filter_refused}
use Rattle.datasketches.proofs.joining.DifferenceJoining.join.Goals as goal

pub returns-in_err-difference-clause-own : goal.returns-in_err-difference-clause-own
returns-in_err-difference-clause-own g c =
    let e = c.in_err-difference.ensures in
    rw (c.in-Bloom.is, c.in-Bloom-sketch.is) (filter_refused subtracted _ _ _ c.from_residual.result _ c.from_residual.ensures.1 e.refused e.accepted e.err)

pub returns-clause-own : goal.returns-clause-own
returns-clause-own g c =
    let e = c.in_ok-difference.ensures in
    rw (c.in-Bloom.is, c.in-Bloom-sketch.is) (filter_joined subtracted _ _ _ e.accepted e.ok)
