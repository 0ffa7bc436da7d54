use Rattle.counter_table.proofs.LookupHomes.{masked}
use Rattle.counter_table.proofs.fingerprints.home.Goals as goal

pub returns : goal.returns
returns c = masked _ _ c.requires
