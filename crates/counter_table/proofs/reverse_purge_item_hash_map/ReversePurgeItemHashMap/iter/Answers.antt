use Rattle.std.proofs.lemmas.List.Sorted.{IsPermutation-map}
use Rattle.std.proofs.lemmas.Map.Keys.{IsDistinct-IsPermutation}
use Rattle.std.proofs.Common.{ap, length, ◌∙◌}
use Rattle.counter_table.proofs.reverse_purge_item_hash_map.ReversePurgeItemHashMap.iter.Goals as goal

pub returns-clause-distinct : goal.returns-clause-distinct
returns-clause-distinct g c =
    let whole = rw c.slots.ensures at c.new.ensures.rest in
    IsDistinct-IsPermutation g.T.PartialEq.eq g.met.T.Eq.laws.symm _ _ (IsPermutation-map (λ e. e.0) _ _ whole) c.self.invariant.slots_ok.distinct

pub new-requires : goal.new-requires
new-requires g c =
    let lent = c.slots.ensures in
    record { size = rw lent c.self.invariant.slots_ok.size; active = rw lent c.self.invariant.active_is }

pub returns-clause-entries : goal.returns-clause-entries
returns-clause-entries g c = rw (c.slots.ensures, ap (λ t. t.entries) c.self.view_is) at c.new.ensures.rest

pub returns-clause-size : goal.returns-clause-size
returns-clause-size g c = c.new.ensures.size ∙ ap length c.slots.ensures ∙ ap (λ t. t.size) c.self.view_is
