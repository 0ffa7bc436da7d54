use Rattle.datasketches.proofs.Saving.{free, taken, restores, restores_taken, sketches_changed}
use Rattle.datasketches.proofs.session.Session.restore.Goals as goal

pub returns-then-contains_name : goal.returns-then-contains_name
returns-then-contains_name g c = restores_taken _ g.T.PartialEq.eq g.T.Hash.hash_input g.T.FrequentItemValue.codec g.T.FrequentItemValue.content c.args.image.now c.args.name.now _ c.args.self.now c.in_ok-saved.saved.now c.self.view_is c.in_ok-saved.ensures.found (taken _ _ c.if-contains_name.true c.contains_name.ensures)

pub keep-requires : goal.keep-requires
keep-requires g c = record { free = free _ _ c.if-contains_name.false c.contains_name.ensures }

pub returns : goal.returns
returns g c =
    restores _ g.T.PartialEq.eq g.T.Hash.hash_input g.T.FrequentItemValue.codec g.T.FrequentItemValue.content c.args.image.now c.args.name.now _ c.args.self.now _ c.in_ok-saved.saved.now _ _ c.self.view_is
    c.in_ok-saved.ensures.found (free _ _ c.if-contains_name.false c.contains_name.ensures) (rw (c.kind.ensures, c.bytes.ensures) at c.restore-read.ensures.read) (rw (c.kind.ensures, c.bytes.ensures) at c.restore-read.ensures.stands) c.restore-read.ensures.keyed (rw (c.kind.ensures, c.bytes.ensures) at c.restore-read.ensures.refused) c.keep.ensures.kept (sketches_changed c.keep.ensures.hasher)
