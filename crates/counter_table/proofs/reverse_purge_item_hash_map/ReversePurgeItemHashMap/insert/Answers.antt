use Rattle.std.proofs.Common.{ap, arith, ◌∙◌}
use Rattle.counter_table.proofs.InsertionCounts.{counted_more}
use Rattle.counter_table.proofs.reverse_purge_item_hash_map.ReversePurgeItemHashMap.insert.Goals as goal

pub insert-requires : goal.insert-requires
insert-requires g c = record { slots = c.self.invariant.slots_ok; absent = rw (← c.self.view_is) at c.requires.absent; room = rw (← c.self.view_is) at c.requires.room }

pub invariant_of-self : goal.invariant_of-self
invariant_of-self g c = counted_more c.self.invariant c.insert.ensures.slots c.args.item c.args.amount (rw (← c.self.view_is) at c.requires.absent) c.insert.ensures.entries

pub returns : goal.returns
returns g c =
    let p = c.insert.ensures in
    record { entries = rw (← c.self.view_is) p.entries; size = p.size ∙ ap (λ t. t.size) c.self.view_is; key = p.key ∙ ap (λ t. t.key) c.self.view_is; purges = ap (λ t. t.purges) c.self.view_is; distinct = p.slots.distinct }

pub overflow_add-self : goal.overflow_add-self
overflow_add-self g c = omega (arith, c.self.invariant.active_is, c.self.invariant.slots_ok.room, c.self.invariant.slots_ok.size.limit)
