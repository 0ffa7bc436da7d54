use Rattle.std.proofs.Common.{◌≡◌, ◌<◌, ◌∙◌, ap, arith, length, Some}
use Rattle.counter_table.specs.Slots.{Held, held, slot_at}
use Rattle.counter_table.specs.TableHashes.{hash_in}
use Rattle.counter_table.proofs.InsertionWrites.{slot_read}
use Rattle.counter_table.proofs.LookupFingerprints.{AddedAt, added_free, added_taken}
use Rattle.counter_table.proofs.slot_table.SlotTable.add_at.Given as given
use Rattle.counter_table.proofs.slot_table.SlotTable.add_at.Goals as goal
use Rattle.counter_table.proofs.slot_table.SlotTable.add_at.Goals.{in-Taken, in_default}

pub overflow_add-count : goal.overflow_add-count
overflow_add-count g c =
    let s : Held g.row.T.Denot = record { item = c.in-Taken.item; count = c.in-Taken.count; drift = c.in-Taken.drift } in
    let slots = c.self.inside.slots.items in
    let below : c.args.index < length slots = rw (ap (λ t. t.slots) c.self.view_is) c.requires.index in
    let at : slot_at slots c.args.index ≡ Some s = slot_read slots c.args.index _ _ below c.index_mut.ensures.value ∙ ap held c.in-Taken.is in
    omega (arith, c.requires.fits s (rw (ap (λ t. t.slots) c.self.view_is) at at))

-- the amount was added if the slot is taken
added : (g : given.Over) (c : goal.Joined-index_mut g) → AddedAt (hash_in c.self.inside.key g.T.Hash.hash_input) c.self.inside.slots.items c.args.index c.args.amount c.match-index_mut.self-inside.slots.items c.match-index_mut.self-inside.fingerprints.items
added g c =
    let slots = c.self.inside.slots.items in
    let below : c.args.index < length slots = rw (ap (λ t. t.slots) c.self.view_is) c.requires.index in
    let read = slot_read slots c.args.index _ _ below c.index_mut.ensures.value in
    elim c.match-index_mut.branch [
      | in-Taken w ↦
          let s : Held g.row.T.Denot = record { item = w.in-Taken.item; count = w.in-Taken.count; drift = w.in-Taken.drift } in
          rw w.self-inside-is (added_taken c.self.invariant c.args.index c.args.amount s (read ∙ ap held w.in-Taken.is))
      | in_default w ↦ rw w.self-inside-is (added_free c.self.invariant c.args.index c.args.amount _ c.index_mut.ensures.value (read ∙ ap held w.in_default.is))
    ]

-- the key is kept
kept : (g : given.Over) (c : goal.Joined-index_mut g) → c.match-index_mut.self-inside.key ≡ c.self.inside.key
kept g c = elim c.match-index_mut.branch [
  | in-Taken w ↦ ap (λ t. t.key) w.self-inside-is
  | in_default w ↦ ap (λ t. t.key) w.self-inside-is
]

pub invariant_of-self : goal.invariant_of-self
invariant_of-self g c = rw (kept g c) (added g c).are

pub returns : goal.returns
returns g c = rw (← c.self.view_is) (record { adds = (added g c).adds; size = (added g c).long; key = kept g c })
