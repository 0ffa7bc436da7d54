use Rattle.std.proofs.Common.{ap, subst, List}
use Rattle.std.specs.List.{AllZip, each_same}
use Rattle.counter_table.specs.Slots.{IsSameSlot}
use Rattle.counter_table.specs.declared.slot.Slot.{Slot}
use Rattle.counter_table.specs.TableHashes.{hash_in}
use Rattle.counter_table.proofs.TableHashing.{hashes_alike}
use Rattle.counter_table.proofs.LookupFingerprints.{fingerprints_cloned}
use Rattle.counter_table.proofs.slot_table.SlotTable.try_clone.Goals as goal

pub invariant_of-result : goal.invariant_of-result
invariant_of-result g c =
    let P : List (Slot g.row.T.Denot) → Type 0 = λ l. AllZip (IsSameSlot g.T.PartialEq.eq) l c.in_ok-slots.slots.items in
    rw (c.key-key.ensures, ← ap (λ t. t.key) c.self.view_is)
    (fingerprints_cloned (hash_in c.self.inside.key g.T.Hash.hash_input) (hashes_alike c.self.inside.key g.met.T.Hash.respects_eq) _ _ _ (subst P c.deref.ensures.value c.in_ok-slots.ensures.ok) (rw (each_same c.self.inside.fingerprints.items c.in_ok-fingerprints.fingerprints.items c.in_ok-fingerprints.ensures.cases.0) c.self.invariant))

pub returns-clause-ok : goal.returns-clause-ok
returns-clause-ok g c = rw (← (ap (λ t. t.slots) c.self.view_is), ← c.deref.ensures.value) c.in_ok-slots.ensures.ok
