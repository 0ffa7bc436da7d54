use Rattle.sketch_base.specs.Hashes.{fed_bytes}
use Rattle.uses.proofs.Takedowns.{follows_inserted}
use Rattle.uses.proofs.takedown.TakedownList.refuse.Goals as goal

pub returns-clause-follows : goal.returns-clause-follows
returns-clause-follows g c =
    rw (← c.self.view_is)
    (follows_inserted c.self.inside.refused c.insert.new.self (fed_bytes g.T.Hash.hash_input c.args.item) c.insert.ensures.insertion c.insert.ensures.stands)
