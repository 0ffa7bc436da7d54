-- The order in which a walk probes the indices of a table, and the entries that it finds there. No public clause cites this
-- module.
use Rattle.std.specs.Prelude.{◌≡◌, ℕ, ◌-◌, ◌*◌, ◌%◌, ◌^◌, ◌<◌, ◌≤◌, List, map, Option, filter_map, slice_index_or}
use Rattle.std.specs.List.{range_with_len}
use Rattle.counter_table.specs.Slots.{IsTableSize, slot_entry}
use Rattle.counter_table.specs.declared.slot.Slot.{Slot}
use Rattle.counter_table.specs.declared.slot.Slot.TheVariants.{Free}

-- the index that step i probes, in a table of this size
abbrev pub index_at : ℕ → ℕ → ℕ → ℕ
index_at size stride i = (i * stride) % size

-- the indices of n steps, from step i on
abbrev pub indices : ℕ → ℕ → ℕ → ℕ → List ℕ
indices size stride i n = map (index_at size stride) (range_with_len i n)

-- `at` is the entry at an index, if its slot is taken
module _ {E : Type 0} (at : ℕ → Option E) where
  -- the entries at the indices of n steps, from step i on
  abbrev pub found_in : ℕ → ℕ → ℕ → ℕ → List E
  found_in size stride i n = filter_map at (indices size stride i n)

  -- the entries at the indices of the steps before this one
  abbrev pub given_before : ℕ → ℕ → ℕ → List E
  given_before size stride probed = found_in size stride 0 probed

  -- the entries at the indices of the steps from this one on
  abbrev pub rest_from : ℕ → ℕ → ℕ → List E
  rest_from size stride probed = found_in size stride probed (size - probed)

-- the entry at an index, if its slot is taken
abbrev pub entry_at : {T : Type 0} → List (Slot T) → ℕ → Option (T × ℕ)
entry_at slots p = slot_entry (slice_index_or slots p Free)

-- a walk has made this number of steps, and the index is that of the next one
pub record IsCursor (size stride probed index : ℕ) : Type 0 where
  pub within : probed ≤ size
  pub at : index ≡ index_at size stride probed
  pub size_ok : IsTableSize size
  pub stride_small : stride < 2 ^ 31
