use Rattle.std.proofs.Common.{◌≡◌, ℕ, ◌<◌, ◌≤◌, true, false, inl, inr, List, ap, sym, ◌∙◌, arith}
use Rattle.std.proofs.lemmas.Bool.{cases_eq, both_ways, not-false}
use Rattle.counter_table.specs.Slots.{is_taken}
use Rattle.counter_table.specs.declared.slot.Slot.{Slot}
use Rattle.counter_table.proofs.LookupReach.{free_from_few}
use Rattle.counter_table.proofs.slot_table.look_ups.last_free.Goals as goal

-- where the slot at p is taken, a free one from there down is below p
free_below : {T : Type 0} (slots : List (Slot T)) (p : ℕ) → is_taken slots p ≡ true → (f : ℕ) × (f ≤ p) × (is_taken slots f ≡ false) → (f : ℕ) × (f < p) × (is_taken slots f ≡ false)
free_below slots p there free_slot = elim (cases_eq free_slot.0 p) [
  | inl e ↦ absurd (both_ways _ (ap (is_taken slots) (sym e) ∙ free_slot.2) there)
  | inr n ↦ (free_slot.0, omega (arith, free_slot.1), free_slot.2)
]

pub loop-index-init : goal.loop-index-init
loop-index-init g c =
    let f = free_from_few c.args.slots.now c.requires in
    record { below = omega (arith, c.requires); free_slot = (f.index, omega (arith, f.below), f.free) }

pub loop-index-preserved : goal.loop-index-preserved
loop-index-preserved g c =
    let f = free_below _ _ (not-false _ (sym c.is_free.ensures ∙ c.loop-index-test.true)) c.loop-index.invariant.free_slot in
    record { below = omega (arith, c.loop-index.invariant.below); free_slot = (f.0, omega (arith, f.1), f.2) }

pub loop-index-smaller : goal.loop-index-smaller
loop-index-smaller g c =
    let f = free_below _ _ (not-false _ (sym c.is_free.ensures ∙ c.loop-index-test.true)) c.loop-index.invariant.free_slot in
    omega (arith, f.1)

pub overflow_sub-index-in-loop-index : goal.overflow_sub-index-in-loop-index
overflow_sub-index-in-loop-index g c =
    let f = free_below _ _ (not-false _ (sym c.is_free.ensures ∙ c.loop-index-test.true)) c.loop-index.invariant.free_slot in
    omega (arith, f.1)
