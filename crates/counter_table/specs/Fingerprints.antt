-- The fingerprints of a table's slots: a byte for each slot, which shows whether a look-up has to read the slot. No public
-- clause cites this module.
use Rattle.std.specs.Prelude.{◌≡◌, ℕ, ◌+◌, ◌/◌, ◌^◌, List, length, slice_index, slice_index_or}
use Rattle.counter_table.specs.declared.slot.Slot.{Slot}
use Rattle.counter_table.specs.declared.slot.Slot.TheVariants.{Free, Taken}

-- 128 and the top seven bits of the hash
unfoldable pub fingerprint_of : ℕ → ℕ
fingerprint_of hash = 128 + hash / 2 ^ 57

-- 0 if the slot is free, else the fingerprint of its item's hash
abbrev pub slot_fingerprint : {T : Type 0} → (T → ℕ) → Slot T → ℕ
slot_fingerprint hashed Free = 0
slot_fingerprint hashed (Taken drift count item) = fingerprint_of (hashed item)

-- a byte for each slot, its fingerprint
pub record AreFingerprints {T : Type 0} (hashed : T → ℕ) (slots : List (Slot T)) (fingerprints : List ℕ) : Type 0 where
  pub long : length fingerprints ≡ length slots
  pub each : (k : ℕ) → slice_index fingerprints k ≡ slot_fingerprint hashed (slice_index_or slots k Free)
