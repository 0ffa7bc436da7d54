use Rattle.uses.proofs.Groups.{sums_more_either}
use Rattle.uses.proofs.group_by.GroupSums.add.Goals as goal

pub returns-clause-sums : goal.returns-clause-sums
returns-clause-sums g c =
    let update = c.update_with_count in
    rw (← c.self.view_is)
    (sums_more_either g.G.PartialEq.eq c.self.inside.sketch update.new.self c.args.group c.args.weight update.result
    update.ensures.zero update.ensures.stands update.ensures.budget)
