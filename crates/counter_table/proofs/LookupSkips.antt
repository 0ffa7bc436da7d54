-- Slots that a look-up passes several at a time, by their fingerprints.
use Rattle.std.proofs.Common.{◌≡◌, ℕ, zero, suc, ◌+◌, ◌<◌, ◌≤◌, Bool, false, refl, ap, sym, ◌∙◌, subst, arith, List, length, get_or}
use Rattle.std.specs.Prelude.{IsTrue}
use Rattle.counter_table.specs.declared.slot.Slot.{Slot}
use Rattle.counter_table.specs.Fingerprints.{fingerprint_of, AreFingerprints}
use Rattle.counter_table.specs.Homes.{ahead}
use Rattle.counter_table.specs.Probes.{IsPassed}
use Rattle.counter_table.specs.Slots.{slot_at}
use Rattle.counter_table.proofs.ArithmeticRing.{ahead_is}
use Rattle.counter_table.proofs.LookupFingerprints.{seen_other, seen_taken}
use Rattle.counter_table.proofs.LookupHomes.{ahead-more}
use Rattle.counter_table.proofs.LookupProbes.{IsPassed-below, IsPassed-more}
use Rattle.counter_table.proofs.LookupReach.{HasFree, taken_slot}

-- an index that does not wrap around
straight : (n index on : ℕ) → index + on < n → ahead n index on ≡ index + on
straight n index on less = let a = ahead_is n index on (omega arith) (omega arith) in omega (arith, a.below)

module _ {T : Type 0} {hashed : T → ℕ} {slots : List (Slot T)} {bytes : List ℕ} (are : AreFingerprints hashed slots bytes) {names : T → Bool} {named : ℕ} (respects : (x : T) → IsTrue (names x) → named ≡ hashed x)
    (hash mark : ℕ) (hash_is : hash ≡ named) (mark_is : mark ≡ fingerprint_of hash) {h : ℕ} (home_below : h < length slots) (free : HasFree slots) (index probed : ℕ) (at : index ≡ ahead (length slots) h probed) where
  pub IsPassed-skips : (on : ℕ) → IsPassed names h slots probed → index + on ≤ length slots → ((k : ℕ) → index ≤ k → k < index + on → get_or bytes k 0 ≡ 0 → ⊥) → ((k : ℕ) → index ≤ k → k < index + on → get_or bytes k 0 ≡ mark → ⊥) → IsPassed names h slots (probed + on)
  IsPassed-skips zero p within taken other = subst (λ (k : ℕ). IsPassed names h slots k) (omega arith) p
  IsPassed-skips (suc on) p within taken other =
      let before = IsPassed-skips on p (omega arith) (λ k from to. taken k from (omega arith)) (λ k from to. other k from (omega arith)) in
      let less : probed + on < length slots = IsPassed-below home_below free before in
      let here : index + on ≡ ahead (length slots) h (probed + on) =
      sym (straight (length slots) index on (omega arith)) ∙ (ap (λ q. ahead (length slots) q on) at ∙ ahead-more (length slots) h probed on home_below less) in
      let s = taken_slot (slot_at slots (index + on)) (seen_taken are (index + on) (get_or bytes (index + on) 0) refl (taken (index + on) (omega arith) (omega arith))) in
      let apart : names s.0.item ≡ false = seen_other hashed slots respects hash (index + on) (get_or bytes (index + on) 0) mark hash_is mark_is (are.each (index + on)) (other (index + on) (omega arith) (omega arith)) s.0 s.1 in
      let next : probed + on + 1 ≡ probed + suc on = omega arith in
      subst (λ (k : ℕ). IsPassed names h slots k) next (IsPassed-more before s.0 (ap (slot_at slots) (sym here) ∙ s.1) apart)
