use Rattle.std.proofs.Common.{sym}
use Rattle.counter_table.proofs.LookupProbes.{key_found_of}
use Rattle.counter_table.proofs.reverse_purge_item_hash_map.ReversePurgeItemHashMap.look_up_hashed.Goals as goal

pub returns : goal.returns
returns g c =
    sym (key_found_of g.T.Hash.hash_input (g.met.K.ItemKey.respects_hash c.args.key) (g.met.K.ItemKey.respects_eq c.args.key) c.self.inside.table c.self.invariant.slots_ok c.args.self.now c.self.view_is _ _ _ c.find_hashed.ensures.probe)

pub find_hashed-requires : goal.find_hashed-requires
find_hashed-requires g c = record { slots = c.self.invariant.slots_ok; hash = rw (← c.self.view_is) at c.requires }
