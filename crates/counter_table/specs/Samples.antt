-- Which entries a purge samples.
use Rattle.std.specs.Prelude.{◌≡◌, ℕ, ◌%◌, Bool, List, ◌∷◌, ◌++◌, length, take, drop}
use Rattle.std.specs.Int.{w128, to_le_bytes}
use Rattle.sketch_base.specs.SipHash.{sip_hash_1_3}
use Rattle.counter_table.specs.Slots.{IsSlots, entries_of}
use Rattle.counter_table.specs.Tables.{IsSampleMiddle, Table}
use Rattle.counter_table.specs.declared.slot.Slot.{Slot}
use Rattle.counter_table.specs.declared.table_key.TableKey.{TableKey}
use Rattle.counter_table.specs.declared.table_key.TableKey.TheVariants.{Plain, Keyed}

-- the bytes of the number of earlier purges, after a byte with which no UTF-8 string begins. No number has 17 bytes. So no
-- number and no string feeds them.
abbrev pub start_bytes : ℕ → List ℕ
start_bytes purges = 255 ∷ to_le_bytes w128 purges

-- the slot at which the sample of a purge begins: the first one in a plain table, else the hash of those bytes under the key,
-- modulo the size
abbrev pub sample_start : TableKey → ℕ → ℕ → ℕ
sample_start Plain purges size = 0
sample_start (Keyed key) purges size = sip_hash_1_3 key (start_bytes purges) % size

-- the entries in the order of the slots from an index on, wrapping around
abbrev pub entries_from : {T : Type 0} → ℕ → List (Slot T) → List (T × ℕ)
entries_from start slots = entries_of (drop start slots) ++ entries_of (take start slots)

-- m is in the middle of the counts of the first n entries from a slot on. The slots are those of the table: its entries are in
-- their order, and each entry is where a look-up finds it.
pub record IsSampledFrom {T : Type 0} (eq : T → T → Bool) (hashed : T → ℕ) (table : Table T) (start n m : ℕ) : Type 0 where
  pub slots : List (Slot T)
  pub placed : IsSlots eq hashed slots
  pub entries : entries_of slots ≡ table.entries
  pub size : length slots ≡ table.size
  pub middle : IsSampleMiddle n (take n (entries_from start slots)) m
