use Rattle.std.proofs.Common.{arith}
use Rattle.datasketches.specs.Histories.{joined}
use Rattle.datasketches.specs.Joining.{Joins}
use Rattle.datasketches.proofs.Steps.{does_with, front_joined, back_joined}
use Rattle.datasketches.proofs.named_sketches.join_at.Goals as goal

pub returns-then-into-other : goal.returns-then-into-other
returns-then-into-other g c =
    let eq = g.T.PartialEq.eq in let e = c.join.ensures in
    front_joined eq g.J.Joining.join _ _ _ _ _ _ _ _ _ c.split_at_mut-front.ensures.value c.split_at_mut-front.ensures.front_len c.if-into-other.true c.requires.other_below c.index-front-into.is c.index-back-0.is
    (does_with eq (Joins eq g.J.Joining.join _) (joined g.J.Joining.join) _ _ _ _ e.own e.carries e.refused)

pub returns-else-into-other : goal.returns-else-into-other
returns-else-into-other g c =
    let eq = g.T.PartialEq.eq in let e = c.join-else-into-other.ensures in
    back_joined eq g.J.Joining.join _ _ _ _ _ _ _ _ _ c.split_at_mut-front-else-into-other.ensures.value c.split_at_mut-front-else-into-other.ensures.front_len (omega (arith, c.requires.apart, c.if-into-other.false)) c.requires.into_below c.index-back-0-else-into-other.is c.index-front-other.is
    (does_with eq (Joins eq g.J.Joining.join _) (joined g.J.Joining.join) _ _ _ _ e.own e.carries e.refused)
