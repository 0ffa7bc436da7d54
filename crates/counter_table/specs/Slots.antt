-- A table's slots, and the map that they hold. No public clause cites this module.
use Rattle.std.specs.Prelude.{◌≡◌, ℕ, ◌+◌, ◌<◌, ◌≤◌, ◌^◌, Bool, true, IsTrue, List, length, Option, Some, None, is_some, slice_index_or, slice_set}
use Rattle.std.specs.Int.{is_power_of_two}
use Rattle.std.specs.List.{filter_map, IsDistinct}
use Rattle.std.specs.Map.{keys_of}
use Rattle.counter_table.specs.Homes.{ahead, distance, home_in}
use Rattle.counter_table.specs.Tables.{Table}
use Rattle.counter_table.specs.declared.slot.Slot.{Slot}
use Rattle.counter_table.specs.declared.slot.Slot.TheVariants.{Free, Taken}
use Rattle.counter_table.specs.declared.table_key.TableKey.{TableKey}

-- a size that a table may have
pub record IsTableSize (n : ℕ) : Type 0 where
  pub power : IsTrue (is_power_of_two n)
  pub limit : n ≤ 2 ^ 30

-- what a taken slot holds
pub record Held (T : Type 0) : Type 0 where
  pub item : T
  pub count : ℕ
  pub drift : ℕ

abbrev pub held : {T : Type 0} → Slot T → Option (Held T)
held Free = None
held (Taken drift count item) = Some (record { item = item; count = count; drift = drift })

abbrev pub taken : {T : Type 0} → Held T → Slot T
taken s = Taken s.drift s.count s.item

-- the content of the slot at an index, if it is taken
abbrev pub slot_at : {T : Type 0} → List (Slot T) → ℕ → Option (Held T)
slot_at slots k = held (slice_index_or slots k Free)

abbrev pub is_taken : {T : Type 0} → List (Slot T) → ℕ → Bool
is_taken slots k = is_some (slot_at slots k)

-- the entry of a slot
abbrev pub slot_entry : {T : Type 0} → Slot T → Option (T × ℕ)
slot_entry Free = None
slot_entry (Taken drift count item) = Some (item, count)

-- the entries, in the order of the slots
abbrev pub entries_of : {T : Type 0} → List (Slot T) → List (T × ℕ)
entries_of slots = filter_map slot_entry slots

-- the slots of a table, with its key
pub record KeyedSlots (T : Type 0) : Type 0 where
  pub key : TableKey
  pub slots : List (Slot T)

-- the table of slots, after this number of purges
abbrev pub table_of : {T : Type 0} → TableKey → ℕ → List (Slot T) → Table T
table_of key purges slots = record { entries = entries_of slots; size = length slots; key = key; purges = purges }

-- each drift is the distance from the item's home plus 1, and every index from the home to the entry is taken
pub record IsPlaced {T : Type 0} (home : T → ℕ) (slots : List (Slot T)) : Type 0 where
  pub drift : (k : ℕ) (s : Held T) → slot_at slots k ≡ Some s → s.drift ≡ distance (length slots) (home s.item) k + 1
  pub run :
      (k : ℕ) (s : Held T) → slot_at slots k ≡ Some s → (j : ℕ) → j ≤ distance (length slots) (home s.item) k →
      is_taken slots (ahead (length slots) (home s.item) j) ≡ true

-- the invariant of the slots of every table
pub record IsSlots {T : Type 0} (eq : T → T → Bool) (hashed : T → ℕ) (slots : List (Slot T)) : Type 0 where
  pub distinct : IsDistinct eq (keys_of (entries_of slots))
  pub placed : IsPlaced (home_in hashed (length slots)) slots
  pub room : length (entries_of slots) < length slots
  pub size : IsTableSize (length slots)

-- the invariant of the slots with the number of entries
pub record IsCounted {T : Type 0} (eq : T → T → Bool) (hashed : T → ℕ) (slots : List (Slot T)) (active : ℕ)
    : Type 0 where
  pub slots_ok : IsSlots eq hashed slots
  pub active_is : active ≡ length (entries_of slots)

-- adding w to the count in the slot at k does not overflow
abbrev pub CountHasRoom : {T : Type 0} → List (Slot T) → ℕ → ℕ → Type 0
CountHasRoom {T} slots k w = (s : Held T) → slot_at slots k ≡ Some s → s.count + w < 2 ^ 64

-- new is old with w more in the slot at k
abbrev pub AddsAt : {T : Type 0} → List (Slot T) → ℕ → ℕ → List (Slot T) → Type 0
AddsAt {T} old k w new =
    (s : Held T) → slot_at old k ≡ Some s → new ≡ slice_set old k (Taken s.drift (s.count + w) s.item)

-- both slots are free, or hold equal items with one count and one drift
abbrev pub IsSameSlot : {T : Type 0} → (T → T → Bool) → Slot T → Slot T → Type 0
IsSameSlot eq Free Free = Unit {0}
IsSameSlot eq Free (Taken drift count item) = ⊥
IsSameSlot eq (Taken drift count item) Free = ⊥
IsSameSlot eq (Taken d c x) (Taken e n y) = (e ≡ d) × (n ≡ c) × (eq x y ≡ true)
