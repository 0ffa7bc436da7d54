use Rattle.std.proofs.Common.{ap, ◌∙◌}
use Rattle.counter_table.specs.Slots.{table_of}
use Rattle.counter_table.proofs.InsertionCounts.{counted_adjusted}
use Rattle.counter_table.proofs.reverse_purge_item_hash_map.ReversePurgeItemHashMap.adjust_by_key.Goals as goal

pub invariant_of-self : goal.invariant_of-self
invariant_of-self g c =
    let a = c.adjust.ensures in
    counted_adjusted c.self.invariant a.slots (g.met.K.ItemKey.respects_eq c.args.key) c.args.adjust_amount c.adjust.result a.tracked a.present (λ f. ap (λ t. t.slots) (a.absent f))

pub adjust-requires : goal.adjust-requires
adjust-requires g c = record { slots = c.self.invariant.slots_ok; fits = rw (← c.self.view_is) at c.requires }

pub returns : goal.returns
returns g c =
    let a = c.adjust.ensures in
    record {
      tracked = rw (← c.self.view_is) a.tracked;
      present = λ t x is. rw (← c.self.view_is) (a.present t x is);
      absent = λ f. ap (λ t. table_of t.key c.self.inside.purges t.slots) (a.absent f) ∙ c.self.view_is;
      key = a.key ∙ ap (λ t. t.key) c.self.view_is;
      purges = ap (λ t. t.purges) c.self.view_is;
      size = a.size ∙ ap (λ t. t.size) c.self.view_is;
      distinct = a.slots.distinct;
    }
