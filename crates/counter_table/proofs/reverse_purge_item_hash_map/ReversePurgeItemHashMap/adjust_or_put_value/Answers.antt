use Rattle.std.proofs.Common.{ap, arith, ◌∙◌, not}
use Rattle.counter_table.proofs.InsertionCounts.{counted_kept, counted_more}
use Rattle.counter_table.proofs.reverse_purge_item_hash_map.ReversePurgeItemHashMap.adjust_or_put_value.Goals as goal

pub invariant_of-self : goal.invariant_of-self
invariant_of-self g c = counted_more c.self.invariant c.put.ensures.slots c.args.item c.args.adjust_amount (c.put.ensures.tracked ∙ ap not c.if-put.true) c.put.ensures.entries

pub invariant_of-self-else-put : goal.invariant_of-self-else-put
invariant_of-self-else-put g c = counted_kept c.self.invariant c.put.ensures.slots c.args.item c.args.adjust_amount (c.put.ensures.tracked ∙ ap not c.if-put.false) c.put.ensures.entries

pub put-requires : goal.put-requires
put-requires g c = record { slots = c.self.invariant.slots_ok; room = rw (← c.self.view_is) at c.requires.room; fits = rw (← c.self.view_is) at c.requires.fits }

pub overflow_add-self : goal.overflow_add-self
overflow_add-self g c = omega (arith, c.self.invariant.active_is, c.self.invariant.slots_ok.room, c.self.invariant.slots_ok.size.limit)

pub returns-then-put : goal.returns-then-put
returns-then-put g c =
    let p = c.put.ensures in
    record { entries = rw (← c.self.view_is) p.entries; size = p.size ∙ ap (λ t. t.size) c.self.view_is; key = p.key ∙ ap (λ t. t.key) c.self.view_is; purges = ap (λ t. t.purges) c.self.view_is; distinct = p.slots.distinct }

pub returns-else-put : goal.returns-else-put
returns-else-put g c =
    let p = c.put.ensures in
    record { entries = rw (← c.self.view_is) p.entries; size = p.size ∙ ap (λ t. t.size) c.self.view_is; key = p.key ∙ ap (λ t. t.key) c.self.view_is; purges = ap (λ t. t.purges) c.self.view_is; distinct = p.slots.distinct }
