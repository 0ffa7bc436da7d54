use Rattle.std.proofs.Common.{◌∙◌, ap, arith, length, refl}
use Rattle.std.proofs.lemmas.List.{length-set}
use Rattle.counter_table.specs.Fingerprints.{fingerprint_of}
use Rattle.counter_table.specs.declared.slot.Slot.TheVariants.{Taken}
use Rattle.counter_table.specs.TableHashes.{hash_in}
use Rattle.counter_table.proofs.InsertionWrites.{wrote_free_slot}
use Rattle.counter_table.proofs.LookupFingerprints.{fingerprints_set}
use Rattle.counter_table.proofs.LookupHomes.{remainder_below, some_size}
use Rattle.counter_table.proofs.LookupProbes.{free_slot_below}
use Rattle.counter_table.proofs.slot_table.SlotTable.fill.Goals as goal

pub index_mut-requires : goal.index_mut-requires
index_mut-requires g c =
    let below = free_slot_below (remainder_below _ (length c.args.self.now.slots) (some_size _ c.requires.slots.size)) c.requires.free in
    omega (arith, below, ap (λ t. length t.slots) c.self.view_is, c.self.inside.slots.ok.0)

pub index_mut-requires-2 : goal.index_mut-requires-2
index_mut-requires-2 g c =
    let below = free_slot_below (remainder_below _ (length c.args.self.now.slots) (some_size _ c.requires.slots.size)) c.requires.free in
    omega (arith, below, ap (λ t. length t.slots) c.self.view_is, c.self.invariant.long, c.self.inside.fingerprints.ok.0)

pub invariant_of-self : goal.invariant_of-self
invariant_of-self g c =
    let below = free_slot_below (remainder_below _ (length c.args.self.now.slots) (some_size _ c.requires.slots.size)) c.requires.free in
    fingerprints_set c.self.invariant c.args.index (Taken c.args.probed c.args.amount c.args.item) c.fingerprint.result _ _ (rw (ap (λ t. t.slots) c.self.view_is) below) (c.fingerprint.ensures ∙ ap fingerprint_of (rw (← c.self.view_is) at c.requires.hash)) refl refl

pub returns : goal.returns
returns g c =
    let wrote = wrote_free_slot g.met.T.Eq.laws (hash_in c.args.self.now.key g.T.Hash.hash_input) c.args.self.now.slots c.requires.slots c.args.item c.args.amount c.args.index c.args.probed c.requires.absent c.requires.room c.requires.free _ refl in
    rw (ap (λ t. t.slots) c.self.view_is, ap (λ t. t.key) c.self.view_is) (record { slots = wrote.slots_ok; entries = wrote.entries; size = length-set c.args.self.now.slots c.args.index (Taken c.args.probed c.args.amount c.args.item); key = refl })
