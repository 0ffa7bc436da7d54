use Rattle.datasketches.proofs.Saving.{free, taken, creates, creates_taken, sketches_changed}
use Rattle.datasketches.proofs.session.Session.create.Goals as goal

pub returns-then-contains_name : goal.returns-then-contains_name
returns-then-contains_name g c = creates_taken _ g.T.PartialEq.eq g.T.Hash.hash_input g.T.FrequentItemValue.codec g.T.FrequentItemValue.content (g.S.NewSketch.shape c.args.sizes) c.args.name.now _ c.args.self.now c.self.view_is (taken _ _ c.if-contains_name.true c.contains_name.ensures)

pub keep-requires : goal.keep-requires
keep-requires g c = record { free = free _ _ c.if-contains_name.false c.contains_name.ensures }

pub returns : goal.returns
returns g c =
    let e = c.create-made.ensures in
    creates _ g.T.PartialEq.eq g.T.Hash.hash_input g.T.FrequentItemValue.codec g.T.FrequentItemValue.content (g.S.NewSketch.shape c.args.sizes) c.args.name.now _ c.args.self.now _ _ _ c.self.view_is (free _ _ c.if-contains_name.false c.contains_name.ensures) e.ok e.stands e.accepted e.refused c.keep.ensures.kept (sketches_changed c.keep.ensures.hasher)
