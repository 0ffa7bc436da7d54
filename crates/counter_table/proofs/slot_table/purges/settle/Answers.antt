use Rattle.std.proofs.Common.{◌≡◌, ◌<◌, ap, sym, ◌∙◌, arith, length, Some, get_or, refl, is_some, ◌-◌}
use Rattle.std.proofs.Math.ListN.{set}
use Rattle.std.proofs.lemmas.List.{get_or_default, length-set}
use Rattle.counter_table.specs.Homes.{home_in}
use Rattle.counter_table.specs.Slots.{held, slot_at}
use Rattle.counter_table.specs.declared.slot.Slot.TheVariants.{Free, Taken}
use Rattle.counter_table.specs.TableHashes.{hash_in}
use Rattle.counter_table.proofs.ArithmeticRing.{distance_is}
use Rattle.counter_table.proofs.LookupFingerprints.{fingerprints_freed, fingerprints_set, fingerprint_moves}
use Rattle.counter_table.proofs.LookupHomes.{some_size, remainder_below}
use Rattle.counter_table.proofs.LookupProbes.{free_slot_below}
use Rattle.counter_table.proofs.PurgeTurns.{room_without, settled, freed, stayed, home_back}
use Rattle.counter_table.proofs.slot_table.purges.settle.Given as given
use Rattle.counter_table.proofs.slot_table.purges.settle.Goals as goal
use borrow.Author.Rules.{scaled_Fits}
use Rattle.counter_table.proofs.slot_table.purges.settle.Goals.{Else-count-amount}

-- the slot that was taken out
taken_out : (g : given.Over) (c : Else-count-amount g) → slot_at c.args.slots.now c.args.index ≡ Some (record { item = c.in-Taken.item; count = c.in-Taken.count; drift = c.in-Taken.drift })
taken_out g c = ap held (get_or_default c.args.slots.now c.args.index Free c.index-slots-index.result c.requires.index ∙ sym c.replace.ensures.value ∙ c.in-Taken.is)

pub overflow_sub-drift : goal.overflow_sub-drift
overflow_sub-drift g c =
    omega (arith, c.requires.drift _ (taken_out g (goal.at.overflow_sub-drift g c).Else-count-amount))

pub before-home-requires-clause-back : goal.before-home-requires-clause-back
before-home-requires-clause-back g c =
    let n = length c.args.slots.now in
    let below = remainder_below (hash_in c.args.key.now g.T.Hash.hash_input c.in-Taken.item) n (some_size n c.requires.size) in
    let d = distance_is n _ c.args.index below c.requires.index in
    omega (arith, c.requires.drift _ (taken_out g (goal.at.before-home-requires-clause-back g c).Else-count-amount), d.below)

pub find_free_from-to-requires-clause-room : goal.find_free_from-to-requires-clause-room
find_free_from-to-requires-clause-room g c =
    rw (c.replace.ensures.after) (room_without c.args.slots.now c.args.index _ (taken_out g (goal.at.find_free_from-to-requires-clause-room g c).Else-count-amount))

pub find_free_from-to-requires-clause-home : goal.find_free_from-to-requires-clause-home
find_free_from-to-requires-clause-home g c =
    let n = length c.args.slots.now in
    let below = remainder_below (hash_in c.args.key.now g.T.Hash.hash_input c.in-Taken.item) n (some_size n c.requires.size) in
    rw (length-set c.args.slots.now c.args.index c.replace.new.dest) (home_back n _ c.args.index c.in-Taken.drift c.before-home.result below c.requires.index (c.requires.drift _ (taken_out g (goal.at.find_free_from-to-requires-clause-home g c).Else-count-amount)) c.before-home.ensures)

pub bounds-slots-to : goal.bounds-slots-to
bounds-slots-to g c =
    let n = length (set c.args.slots.now c.args.index c.replace.new.dest) in
    let long = length-set c.args.slots.now c.args.index c.replace.new.dest in
    let some : 0 < n = rw long (some_size _ c.requires.size) in
    free_slot_below (remainder_below _ n some) c.find_free_from-to.ensures

pub returns-else-count-amount-clause-slots : goal.returns-else-count-amount-clause-slots
returns-else-count-amount-clause-slots g c =
    let slots = c.args.slots.now in
    let p = c.args.index in
    let free_slot = rw (c.replace.ensures.after, length-set slots p Free) at c.find_free_from-to.ensures in
    rw (c.replace.ensures.after) (settled (home_in (hash_in c.args.key.now g.T.Hash.hash_input) (length slots)) slots p c.args.amount _ (taken_out g (goal.at.returns-else-count-amount-clause-slots g c).Else-count-amount) c.if-count-amount.false _ _ _ free_slot refl)

pub returns-then-count-amount-clause-slots : goal.returns-then-count-amount-clause-slots
returns-then-count-amount-clause-slots g c =
    let spent = ap held (get_or_default c.args.slots.now c.args.index Free c.index-slots-index.result c.requires.index ∙ sym c.replace.ensures.value ∙ c.in-Taken.is) in
    freed (home_in (hash_in c.args.key.now g.T.Hash.hash_input) (length c.args.slots.now)) c.args.slots.now c.args.index c.args.amount _ spent c.if-count-amount.true _ (ap (λ slot. set c.args.slots.now c.args.index slot) c.replace.ensures.after)

pub invariant_of-slices : goal.invariant_of-slices
invariant_of-slices g c = rw (c.replace.ensures.after) (fingerprints_freed c.requires.fingerprints c.args.index c.requires.index)

pub returns-in-Free-clause-fingerprints : goal.returns-in-Free-clause-fingerprints
returns-in-Free-clause-fingerprints g c = rw (c.replace.ensures.after) (fingerprints_freed c.requires.fingerprints c.args.index c.requires.index)

pub returns-then-count-amount-clause-fingerprints : goal.returns-then-count-amount-clause-fingerprints
returns-then-count-amount-clause-fingerprints g c = rw (c.replace.ensures.after) (fingerprints_freed c.requires.fingerprints c.args.index c.requires.index)

pub returns-else-count-amount-clause-fingerprints : goal.returns-else-count-amount-clause-fingerprints
returns-else-count-amount-clause-fingerprints g c =
    let slots = c.args.slots.now in
    let p = c.args.index in
    let q = c.find_free_from-to.result.index in
    let moving = get_or c.args.fingerprints.now p 0 in
    let probed = c.find_free_from-to.result.probed in
    let left = c.in-Taken.count - c.args.amount in
    let some : 0 < length (set slots p Free) = rw (length-set slots p Free) (some_size _ c.requires.size) in
    let free_slot = rw (c.replace.ensures.after) at c.find_free_from-to.ensures in
    rw (c.replace.ensures.after) (fingerprints_set (fingerprints_freed c.requires.fingerprints p c.requires.index) q (Taken probed left c.in-Taken.item) moving _ _
    (free_slot_below (remainder_below _ (length (set slots p Free)) some) free_slot)
    (fingerprint_moves c.requires.fingerprints p _ moving probed left (taken_out g (goal.at.returns-else-count-amount-clause-fingerprints g c).Else-count-amount) refl)
    refl refl)

pub overflow_cast-probed : goal.overflow_cast-probed
overflow_cast-probed g c = omega (arith, c.find_free_from-to.ensures.short, length-set c.args.slots.now c.args.index c.replace.new.dest, c.requires.size.limit)

pub bounds-fingerprints-to : goal.bounds-fingerprints-to
bounds-fingerprints-to g c =
    let slots = c.args.slots.now in
    let long = length-set slots c.args.index c.replace.new.dest in
    let some : 0 < length (set slots c.args.index c.replace.new.dest) = rw long (some_size _ c.requires.size) in
    omega (arith, free_slot_below (remainder_below _ _ some) c.find_free_from-to.ensures, long, c.requires.fingerprints.long, length-set c.args.fingerprints.now c.args.index 0)

-- the slice has room
pub offset_bounds-slots-to : goal.offset_bounds-slots-to
offset_bounds-slots-to g c =
    let slots = c.args.slots.now in
    let long = length-set slots c.args.index c.replace.new.dest in
    let some : 0 < length (set slots c.args.index c.replace.new.dest) = rw long (some_size _ c.requires.size) in
    let below : c.find_free_from-to.result.index < length slots = omega (arith, free_slot_below (remainder_below _ _ some) c.find_free_from-to.ensures, long) in
    scaled_Fits c.find_free_from-to.result.index (length slots) _ below (search)

-- the slot was free
pub returns-in-Free-clause-slots : goal.returns-in-Free-clause-slots
returns-in-Free-clause-slots g c =
    let stood = ap held (get_or_default c.args.slots.now c.args.index Free c.index-slots-index.result c.requires.index ∙ sym c.replace.ensures.value ∙ c.in-Free.is) in
    stayed (home_in (hash_in c.args.key.now g.T.Hash.hash_input) (length c.args.slots.now)) c.args.slots.now c.args.index c.args.amount (ap is_some stood) _ (ap (λ slot. set c.args.slots.now c.args.index slot) c.replace.ensures.after)

-- the slice has room
pub offset_bounds-slots-index : goal.offset_bounds-slots-index
offset_bounds-slots-index g c = scaled_Fits c.args.index (length c.args.slots.now) _ c.requires.index (search)
