use Rattle.std.proofs.Common.{sym}
use Rattle.datasketches.proofs.Saving.{altered_by_key, sketches_changed}
use Rattle.datasketches.proofs.session.Session.add_by_key.Goals as goal

pub returns : goal.returns
returns g c = λ x is.
    let e = c.add_by_key.ensures in
    altered_by_key _ g.T.PartialEq.eq g.T.Hash.hash_input g.T.FrequentItemValue.codec g.T.FrequentItemValue.content c.args.name.now (g.K.ItemKey.names c.args.item) c.args.weight _ c.args.self.now _ _ c.in-Some.sketch.now c.add_by_key.new.self c.self.view_is (sym c.in-Some.ensures.value) (e.added x is) e.carries e.refused
    (rw c.in-Some.is at (c.get_mut.follows.holds c.add_by_key.new.self)).put (sketches_changed (rw c.in-Some.is at (c.get_mut.follows.holds c.add_by_key.new.self)).hasher)
