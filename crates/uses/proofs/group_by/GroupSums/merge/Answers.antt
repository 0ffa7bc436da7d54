use Rattle.uses.proofs.Groups.{sums_both_either}
use Rattle.uses.proofs.group_by.GroupSums.merge.Goals as goal

pub returns-clause-sums : goal.returns-clause-sums
returns-clause-sums g c =
    rw (← c.self.view_is, ← c.other.view_is)
    (sums_both_either g.G.PartialEq.eq c.self.inside.sketch c.other.inside.sketch c.merge.new.self c.merge.result c.merge.ensures.stands c.merge.ensures.budget)
