use Rattle.std.proofs.Common.{length}
use Rattle.counter_table.specs.Indices.{entry_at}
use Rattle.counter_table.proofs.WalkSteps.{given_few}
use Rattle.counter_table.proofs.reverse_purge_item_iter.ReversePurgeItemIter.slots_read.Goals as goal

pub returns-clause-at_least : goal.returns-clause-at_least
returns-clause-at_least g c = rw (← c.self.view_is) (given_few (entry_at c.self.inside.slots.now) (length c.self.inside.slots.now) c.self.inside.stride c.self.inside.probed)

pub returns-clause-at_most : goal.returns-clause-at_most
returns-clause-at_most g c = rw (← c.self.view_is) c.self.invariant.0.within
