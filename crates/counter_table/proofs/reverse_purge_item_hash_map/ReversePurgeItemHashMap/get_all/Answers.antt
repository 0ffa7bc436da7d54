use Rattle.counter_table.proofs.reverse_purge_item_hash_map.ReversePurgeItemHashMap.get_all.Goals as goal

pub counts_of-requires : goal.counts_of-requires
counts_of-requires g c = record { slots = c.self.invariant.slots_ok; same = c.requires }
