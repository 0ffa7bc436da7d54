use Rattle.counter_table.proofs.LookupHomes.{before_masked}
use Rattle.counter_table.proofs.indices.before.Goals as goal

pub returns : goal.returns
returns c = before_masked _ _ _ c.requires.size
