-- The slots that a look-up probed. No public clause cites this module.
use Rattle.std.specs.Prelude.{◌≡◌, ℕ, ◌+◌, ◌-◌, ◌<◌, ◌≤◌, List, length, Option, Some, None, Bool, true, false}
use Rattle.counter_table.specs.Homes.{ahead}
use Rattle.counter_table.specs.Slots.{Held, slot_at, is_taken}
use Rattle.counter_table.specs.declared.slot.Slot.{Slot}

-- the first `probed` indices from h on hold items that the key does not name
pub record IsPassed {T : Type 0} (names : T → Bool) (h : ℕ) (slots : List (Slot T)) (probed : ℕ) : Type 0 where
  pub taken : (j : ℕ) → j < probed → is_taken slots (ahead (length slots) h j) ≡ true
  pub apart :
      (j : ℕ) (s : Held T) → j < probed → slot_at slots (ahead (length slots) h j) ≡ Some s → names s.item ≡ false

-- a look-up from h on ended at an index: at an item that the key names, whose count it found, or at a free slot
pub record IsProbe {T : Type 0} (names : T → Bool) (h : ℕ) (slots : List (Slot T)) (index : ℕ)
    (found : Option ℕ) (probed : ℕ) : Type 0 where
  pub some : 1 ≤ probed
  pub short : probed ≤ length slots
  pub index_is : index ≡ ahead (length slots) h (probed - 1)
  pub passed : IsPassed names h slots (probed - 1)
  pub here :
      (c : ℕ) → found ≡ Some c → (s : Held T) × (slot_at slots index ≡ Some s) × (s.count ≡ c) × (names s.item ≡ true)
  pub free : found ≡ None → is_taken slots index ≡ false

-- the index is that of the first free slot from h on, and `probed` slots were probed to find it
pub record IsFreeSlot {T : Type 0} (h : ℕ) (slots : List (Slot T)) (index probed : ℕ) : Type 0 where
  pub some : 1 ≤ probed
  pub short : probed ≤ length slots
  pub index_is : index ≡ ahead (length slots) h (probed - 1)
  pub taken : (j : ℕ) → j + 1 < probed → is_taken slots (ahead (length slots) h j) ≡ true
  pub free : is_taken slots index ≡ false

-- the count in the slot at an index, if it holds an item that the key names
pub record IsCountAt {T : Type 0} (names : T → Bool) (slots : List (Slot T)) (index : ℕ) (found : Option ℕ)
    : Type 0 where
  pub here :
      (c : ℕ) → found ≡ Some c → (s : Held T) × (slot_at slots index ≡ Some s) × (s.count ≡ c) × (names s.item ≡ true)
  pub other : found ≡ None → (s : Held T) → slot_at slots index ≡ Some s → names s.item ≡ false
