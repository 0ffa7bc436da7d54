use Rattle.counter_table.proofs.WalkEntries.{collected}
use Rattle.counter_table.proofs.reverse_purge_item_hash_map.ReversePurgeItemHashMap.active_entries.Goals as goal

pub returns-clause-ok : goal.returns-clause-ok
returns-clause-ok g c = rw c.in_ok-found.was at (collected c.args.self.now.entries c.iter.result c.collect.result c.iter.ensures.entries c.collect.ensures.ran)
