use Rattle.sketch_base.specs.Hashes.{fed_bytes}
use Rattle.uses.proofs.Takedowns.{says, refuses_still}
use Rattle.uses.proofs.takedown.TakedownList.is_refused.Goals as goal

pub returns-clause-denoted : goal.returns-clause-denoted
returns-clause-denoted g c =
    rw (← c.self.view_is) (says c.self.inside.refused (fed_bytes g.T.Hash.hash_input c.args.item.now) c.contains.result c.contains.ensures)

pub returns-clause-still : goal.returns-clause-still
returns-clause-still g c =
    rw (← c.self.view_is) (refuses_still c.self.inside.refused (fed_bytes g.T.Hash.hash_input c.args.item.now) c.contains.result c.contains.ensures)
