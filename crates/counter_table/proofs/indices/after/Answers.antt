use Rattle.counter_table.proofs.LookupHomes.{after_masked}
use Rattle.counter_table.proofs.indices.after.Goals as goal

pub returns : goal.returns
returns c = after_masked _ _ _ c.requires.size
