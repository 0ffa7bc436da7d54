use Rattle.std.proofs.Common.{refl}
use Rattle.datasketches.proofs.Saving.{free, taken, saves, saves_taken, image_hashed}
use Rattle.datasketches.proofs.session.Session.save.Goals as goal

pub returns-then-contains_name : goal.returns-then-contains_name
returns-then-contains_name g c = saves_taken _ g.T.PartialEq.eq g.T.Hash.hash_input g.T.FrequentItemValue.codec g.T.FrequentItemValue.content c.args.name.now c.args.image.now _ c.args.self.now c.in-Some.sketch.now c.self.view_is c.in-Some.ensures (taken _ _ c.if-contains_name.true c.contains_name.ensures)

pub keep-requires : goal.keep-requires
keep-requires g c = record { free = free _ _ c.if-contains_name.false c.contains_name.ensures }

pub returns : goal.returns
returns g c =
    let e = c.save-saved.ensures in
    saves _ g.T.PartialEq.eq g.T.Hash.hash_input g.T.FrequentItemValue.codec g.T.FrequentItemValue.content c.args.name.now c.args.image.now _ c.args.self.now _ c.in-Some.sketch.now _ _ c.self.view_is c.in-Some.ensures (free _ _ c.if-contains_name.false c.contains_name.ensures) e.written e.refused c.keep.ensures.kept (λ name. refl) (image_hashed c.keep.ensures.hasher)
