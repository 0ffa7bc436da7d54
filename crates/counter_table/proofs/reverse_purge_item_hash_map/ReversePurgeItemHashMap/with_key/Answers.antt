use Rattle.std.proofs.Common.{ap, sym, [], ◌∙◌, length}
use Rattle.counter_table.specs.TableHashes.{hash_in}
use Rattle.counter_table.proofs.InsertionCounts.{table_is}
use Rattle.counter_table.proofs.GrowthMoves.{IsSlots-made, made_free}
use Rattle.counter_table.proofs.reverse_purge_item_hash_map.ReversePurgeItemHashMap.with_key.Goals as goal

pub invariant_of-result : goal.invariant_of-result
invariant_of-result g c = record {
  slots_ok = IsSlots-made g.T.PartialEq.eq (hash_in c.in_ok-table.table.key g.T.Hash.hash_input) _ _ (ap (λ t. t.slots) c.in_ok-table.ensures.ok) (record { power = c.requires.power; limit = c.requires.limit });
  active_is = sym (ap length (made_free _ _ (ap (λ t. t.slots) c.in_ok-table.ensures.ok)).0);
}

pub returns-clause-ok : goal.returns-clause-ok
returns-clause-ok g c = let free = made_free _ _ (ap (λ t. t.slots) c.in_ok-table.ensures.ok) in table_is _ _ free.0 free.1 ∙ ap (λ key. record { entries = []; size = c.args.map_size; key = key; purges = 0 }) (ap (λ t. t.key) c.in_ok-table.ensures.ok)
