use Rattle.std.proofs.Common.{ap, arith, refl, sym, ◌∙◌}
use Rattle.std.proofs.lemmas.List.Sorted.{IsPermutation-refl}
use Rattle.counter_table.specs.Slots.{Held, taken}
use Rattle.counter_table.specs.TableHashes.{hash_in}
use Rattle.counter_table.proofs.GrowthMoves.{IsSlots-free, next_of, entries_of-push_free, split_on, split_more}
use Rattle.std.proofs.lemmas.List.{append-nil, nil_from_length}
use Rattle.counter_table.proofs.slot_table.SlotTable.move_all.Goals as goal

pub loop-slot-init : goal.loop-slot-init
loop-slot-init g c = record {
  slots_ok = IsSlots-free g.T.PartialEq.eq (hash_in c.args.self.now.key g.T.Hash.hash_input) c.args.self.now.slots c.requires.free c.requires.size;
  entries = rw c.requires.free (IsPermutation-refl _);
  size = refl;
  key = refl;
  split = sym (ap (λ t. t.slots) c.old.view_is) ∙ sym c.into_iter-slot-iterator.ensures.into_iter_gives.0;
}

pub insert-requires-clause-absent : goal.insert-requires-clause-absent
insert-requires-clause-absent g c =
    let s : Held g.row.T.Denot = record { item = c.in-Taken.item; count = c.in-Taken.count; drift = c.in-Taken.drift } in
    let split = split_on _ _ _ _ c.in-Some.slot (taken s) c.loop-slot.invariant.split c.in-Some.ensures.steps.0 c.in-Taken.is in
    let n = next_of g.met.T.Eq.laws c.args.old.slots c.loop-slot.yielded _ c.loop-slot.self.slots s c.requires.distinct split c.loop-slot.invariant.entries in
    n.absent

pub insert-requires-clause-room : goal.insert-requires-clause-room
insert-requires-clause-room g c =
    let s : Held g.row.T.Denot = record { item = c.in-Taken.item; count = c.in-Taken.count; drift = c.in-Taken.drift } in
    let split = split_on _ _ _ _ c.in-Some.slot (taken s) c.loop-slot.invariant.split c.in-Some.ensures.steps.0 c.in-Taken.is in
    let n = next_of g.met.T.Eq.laws c.args.old.slots c.loop-slot.yielded _ c.loop-slot.self.slots s c.requires.distinct split c.loop-slot.invariant.entries in
    omega (arith, n.few, c.requires.room, c.loop-slot.invariant.size)

pub loop-slot-preserved-in-Taken : goal.loop-slot-preserved-in-Taken
loop-slot-preserved-in-Taken g c =
    let s : Held g.row.T.Denot = record { item = c.in-Taken.item; count = c.in-Taken.count; drift = c.in-Taken.drift } in
    let split = split_on _ _ _ _ c.in-Some.slot (taken s) c.loop-slot.invariant.split c.in-Some.ensures.steps.0 c.in-Taken.is in
    let n = next_of g.met.T.Eq.laws c.args.old.slots c.loop-slot.yielded _ c.loop-slot.self.slots s c.requires.distinct split c.loop-slot.invariant.entries in
    record {
      slots_ok = c.insert.ensures.slots;
      entries = rw c.in-Taken.is (n.moved _ c.insert.ensures.entries);
      size = c.insert.ensures.size ∙ c.loop-slot.invariant.size;
      key = c.insert.ensures.key ∙ c.loop-slot.invariant.key;
      split = split_more _ _ _ _ _ c.loop-slot.invariant.split c.in-Some.ensures.steps.0;
    }

pub loop-slot-preserved : goal.loop-slot-preserved
loop-slot-preserved g c = record {
  slots_ok = c.loop-slot.invariant.slots_ok;
  entries = rw (c.in_default.is, entries_of-push_free c.loop-slot.yielded) c.loop-slot.invariant.entries;
  size = c.loop-slot.invariant.size;
  key = c.loop-slot.invariant.key;
  split = split_more _ _ _ _ _ c.loop-slot.invariant.split c.in-Some.ensures.steps.0;
}

-- no slot is left
pub returns : goal.returns
returns g c =
    let left = c.loop-slot.slot-iterator.rest in
    let none = nil_from_length left.items (sym left.ok.0 ∙ c.in-None.ensures.steps.0) in
    record {
      slots = c.loop-slot.invariant.slots_ok;
      entries = rw (c.loop-slot.invariant.split, none, append-nil c.loop-slot.yielded) c.loop-slot.invariant.entries;
      size = c.loop-slot.invariant.size;
      key = c.loop-slot.invariant.key;
    }

pub insert-requires-clause-slots : goal.insert-requires-clause-slots
insert-requires-clause-slots g c = c.loop-slot.invariant.slots_ok
