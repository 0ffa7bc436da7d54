use mir.Facts.{to_z-of_z}
use Rattle.std.proofs.Common.{refl, sym}
use Rattle.datasketches.specs.Actions.Change.{AddSigned}
use Rattle.datasketches.proofs.Saving.{altered, altered_none, sketches_changed}
use Rattle.datasketches.proofs.session.Session.add_signed.Goals as goal

pub returns : goal.returns
returns g c = λ x is.
    let weight = to_z-of_z c.ranges.weight in
    altered _ g.T.PartialEq.eq g.T.Hash.hash_input g.T.FrequentItemValue.codec g.T.FrequentItemValue.content (AddSigned x c.args.weight) c.args.name.now _ c.args.self.now _ _ c.in-Some.sketch.now c.add_signed.new.self c.self.view_is (sym c.in-Some.ensures.value) (rw weight at (c.add_signed.ensures x is))
    (rw c.in-Some.is at (c.get_mut.follows.holds c.add_signed.new.self)).put (sketches_changed (rw c.in-Some.is at (c.get_mut.follows.holds c.add_signed.new.self)).hasher)

pub returns-in_default : goal.returns-in_default
returns-in_default g c =
    λ x is. altered_none _ g.T.PartialEq.eq g.T.Hash.hash_input g.T.FrequentItemValue.codec g.T.FrequentItemValue.content (AddSigned x c.args.weight) c.args.name.now _ c.args.self.now _ c.self.view_is (rw c.get_mut.follows.holds-at-none refl) (sym c.in_default.ensures.value)
