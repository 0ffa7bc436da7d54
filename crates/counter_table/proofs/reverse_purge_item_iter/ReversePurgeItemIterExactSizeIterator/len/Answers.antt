use Rattle.std.proofs.Common.{ap, length, ◌∙◌}
use Rattle.counter_table.proofs.reverse_purge_item_iter.ReversePurgeItemIterExactSizeIterator.len.Goals as goal

pub returns : goal.returns
returns g c = record { finite = tt; value = c.self.invariant.1 ∙ ap (λ walk. length walk.rest) c.self.view_is }
