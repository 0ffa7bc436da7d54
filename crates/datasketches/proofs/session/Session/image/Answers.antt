use Rattle.datasketches.proofs.Saving.{shows}
use Rattle.datasketches.proofs.session.Session.image.Goals as goal

pub returns : goal.returns
returns g c =
    shows _ g.T.PartialEq.eq g.T.Hash.hash_input g.T.FrequentItemValue.codec g.T.FrequentItemValue.content c.args.name.now c.args.self.now c.in_ok-saved_image.field-0.now c.in_ok-copy_bytes.field-0 c.in_ok-saved_image.ensures.found c.in_ok-copy_bytes.ensures.copy
