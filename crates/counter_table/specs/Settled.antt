-- What a purge does to one slot in its turn. No public clause cites this module.
use Rattle.std.specs.Prelude.{◌≡◌, ℕ, ◌+◌, ◌-◌, ◌<◌, ◌≤◌, Bool, true, false, List, length, Some, slice_set}
use Rattle.counter_table.specs.Homes.{distance}
use Rattle.counter_table.specs.Probes.{IsFreeSlot}
use Rattle.counter_table.specs.Slots.{Held, slot_at, is_taken}
use Rattle.counter_table.specs.declared.slot.Slot.{Slot}
use Rattle.counter_table.specs.declared.slot.Slot.TheVariants.{Free, Taken}

-- the drift of an entry at p is its distance from its home plus 1
abbrev pub HasDrift : {T : Type 0} → (T → ℕ) → List (Slot T) → ℕ → Type 0
HasDrift {T} home slots p =
    (s : Held T) → slot_at slots p ≡ Some s → s.drift ≡ distance (length slots) (home s.item) p + 1

-- s left p for the first free index from its home on, with its count less by m
pub record Moves {T : Type 0} (home : T → ℕ) (old : List (Slot T)) (p m : ℕ) (s : Held T) (new : List (Slot T))
    : Type 0 where
  pub index : ℕ
  pub probed : ℕ
  pub free_slot : IsFreeSlot (home s.item) (slice_set old p Free) index probed
  pub made : new ≡ slice_set (slice_set old p Free) index (Taken probed (s.count - m) s.item)

-- a free slot at p stays, one with a count of at most m is freed, and any other moves
pub record Settles {T : Type 0} (home : T → ℕ) (old : List (Slot T)) (p m : ℕ) (dropped : Bool) (new : List (Slot T))
    : Type 0 where
  pub free : is_taken old p ≡ false → (dropped ≡ false) × (new ≡ old)
  pub spent :
      (s : Held T) → slot_at old p ≡ Some s → s.count ≤ m → (dropped ≡ true) × (new ≡ slice_set old p Free)
  pub left : (s : Held T) → slot_at old p ≡ Some s → m < s.count → (dropped ≡ false) × Moves home old p m s new
