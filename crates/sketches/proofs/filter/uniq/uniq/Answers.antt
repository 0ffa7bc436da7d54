use Rattle.std.proofs.Common.{inr}
use Rattle.sketches.proofs.filter.uniq.uniq.Goals as goal

pub returns-in-Err-clause-front : goal.returns-in-Err-clause-front
returns-in-Err-clause-front g c = inr (c.in_ok-filter.filter, c.in_ok-filter.ensures.made, c.in-Err.ensures.front)
