use Rattle.datasketches.proofs.Saving.{combined, sketches_changed}
use Rattle.datasketches.proofs.session.Session.join.Goals as goal

pub returns : goal.returns
returns g c = combined _ g.T.PartialEq.eq g.T.Hash.hash_input g.T.FrequentItemValue.codec g.T.FrequentItemValue.content g.J.Joining.join c.args.into.now c.args.other.now _ c.args.self.now _ _ c.self.view_is c.join.ensures.joins (sketches_changed c.join.ensures.hasher)
