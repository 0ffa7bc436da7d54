use Rattle.std.proofs.Common.{refl, sym}
use Rattle.datasketches.specs.Actions.Change.{Halve}
use Rattle.datasketches.proofs.Saving.{altered, altered_none, sketches_changed}
use Rattle.datasketches.proofs.session.Session.halve.Goals as goal

pub returns : goal.returns
returns g c =
    altered _ g.T.PartialEq.eq g.T.Hash.hash_input g.T.FrequentItemValue.codec g.T.FrequentItemValue.content Halve c.args.name.now _ c.args.self.now _ _ c.in-Some.sketch.now c.halve.new.self c.self.view_is (sym c.in-Some.ensures.value) c.halve.ensures
    (rw c.in-Some.is at (c.get_mut.follows.holds c.halve.new.self)).put (sketches_changed (rw c.in-Some.is at (c.get_mut.follows.holds c.halve.new.self)).hasher)

pub returns-in_default : goal.returns-in_default
returns-in_default g c =
    altered_none _ g.T.PartialEq.eq g.T.Hash.hash_input g.T.FrequentItemValue.codec g.T.FrequentItemValue.content Halve c.args.name.now _ c.args.self.now _ c.self.view_is (rw c.get_mut.follows.holds-at-none refl) (sym c.in_default.ensures.value)
