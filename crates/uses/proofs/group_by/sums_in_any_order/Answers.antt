use Rattle.uses.proofs.Groups.{sums_any_order}
use Rattle.uses.proofs.group_by.sums_in_any_order.Goals as goal

pub returns : goal.returns
returns g c = sums_any_order g.G.PartialEq.eq
