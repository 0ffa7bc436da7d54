use Rattle.std.proofs.Common.{arith, ap, sym, [], ◌∙◌, ◌≤◌, ◌^◌, length}
use Rattle.counter_table.specs.TableHashes.{hash_in}
use Rattle.counter_table.proofs.InsertionCounts.{table_is, table_size_of}
use Rattle.counter_table.proofs.GrowthMoves.{IsSlots-free}
use Rattle.counter_table.proofs.reverse_purge_item_hash_map.ReversePurgeItemHashMap.clear.Goals as goal

pub clear-requires : goal.clear-requires
clear-requires g c = record { within = rw (← c.self.view_is) at c.requires.within }

pub invariant_of-self : goal.invariant_of-self
invariant_of-self g c =
    let free = c.clear.ensures in
    let limit : c.args.size ≤ 2 ^ 30 = omega (arith, ap (λ t. t.size) c.self.view_is, c.requires.within, c.self.invariant.slots_ok.size.limit) in
    record {
      slots_ok = IsSlots-free g.T.PartialEq.eq (hash_in c.clear.new.self.key g.T.Hash.hash_input) _ free.free (table_size_of _ c.args.size free.size c.requires.power limit);
      active_is = sym (ap length free.free);
    }

pub returns : goal.returns
returns g c = table_is _ c.args.size c.clear.ensures.free c.clear.ensures.size ∙ ap (λ key. record { entries = []; size = c.args.size; key = key; purges = c.self.inside.purges }) (c.clear.ensures.key ∙ ap (λ t. t.key) c.self.view_is) ∙ ap (λ purges. record { entries = []; size = c.args.size; key = c.args.self.now.key; purges = purges }) (ap (λ t. t.purges) c.self.view_is)
