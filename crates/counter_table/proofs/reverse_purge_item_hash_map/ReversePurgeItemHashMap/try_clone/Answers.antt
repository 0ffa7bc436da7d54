use Rattle.std.proofs.Common.{ap, sym, ◌∙◌}
use Rattle.counter_table.specs.TableHashes.{hash_in}
use Rattle.counter_table.proofs.TableHashing.{hashes_alike}
use Rattle.counter_table.proofs.CloneSlots.{IsSlots-clones, cloned_length, cloned_map, cloned_size}
use Rattle.counter_table.proofs.reverse_purge_item_hash_map.ReversePurgeItemHashMap.try_clone.Goals as goal

pub invariant_of-result : goal.invariant_of-result
invariant_of-result g c =
    let eq = g.T.PartialEq.eq in
    let zip = c.in_ok-table.ensures.ok in
    record {
      slots_ok = rw c.in_ok-table.ensures.key (IsSlots-clones eq g.met.T.Eq.laws (hash_in c.self.inside.table.key g.T.Hash.hash_input) (hashes_alike c.self.inside.table.key g.met.T.Hash.respects_eq) _ _ zip c.self.invariant.slots_ok);
      active_is = c.self.invariant.active_is ∙ sym (cloned_length eq _ _ zip);
    }

pub returns-clause-entries : goal.returns-clause-entries
returns-clause-entries g c = rw (← ap (λ t. t.entries) c.self.view_is) (cloned_map g.T.PartialEq.eq _ _ c.in_ok-table.ensures.ok)

pub returns-clause-size : goal.returns-clause-size
returns-clause-size g c = cloned_size g.T.PartialEq.eq _ _ c.in_ok-table.ensures.ok ∙ ap (λ t. t.size) c.self.view_is

pub returns-clause-distinct : goal.returns-clause-distinct
returns-clause-distinct g c = (invariant_of-result g c).slots_ok.distinct

pub returns-clause-key : goal.returns-clause-key
returns-clause-key g c = c.in_ok-table.ensures.key ∙ ap (λ t. t.key) c.self.view_is

pub returns-clause-purges : goal.returns-clause-purges
returns-clause-purges g c = ap (λ t. t.purges) c.self.view_is
