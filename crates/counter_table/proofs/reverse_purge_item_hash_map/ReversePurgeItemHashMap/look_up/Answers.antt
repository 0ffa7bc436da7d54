use Rattle.std.proofs.Common.{sym}
use Rattle.counter_table.proofs.LookupProbes.{answers_of}
use Rattle.counter_table.proofs.reverse_purge_item_hash_map.ReversePurgeItemHashMap.look_up.Goals as goal

pub returns : goal.returns
returns g c =
    let a = answers_of g.met.T.Eq.laws g.met.T.Hash.respects_eq c.self.inside.table c.self.invariant.slots_ok c.args.self.now c.self.view_is c.args.item.now _ _ _ c.find.ensures.probe in
    sym a.looked_up

pub find-requires : goal.find-requires
find-requires g c = c.self.invariant.slots_ok
