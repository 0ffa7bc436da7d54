use Rattle.counter_table.proofs.LookupHomes.{next_masked}
use Rattle.counter_table.proofs.indices.next.Goals as goal

pub returns : goal.returns
returns c = next_masked _ _ c.requires.size
