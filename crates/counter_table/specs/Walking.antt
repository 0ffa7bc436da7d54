-- What the fields of a walk mean. No public clause cites this module.
use Rattle.std.specs.Prelude.{◌≡◌, length}
use Rattle.counter_table.specs.Indices.{entry_at, given_before, rest_from, IsCursor}
use Rattle.counter_table.specs.Walk.{Walk}
use Rattle.counter_table.specs.declared.reverse_purge_item_iter.ReversePurgeItemIter.TheInside.{Inside}

abbrev pub walk_of : {T : Type 0} → Inside T → Walk T
walk_of it =
    let at = entry_at it.slots.now in
    let size = length it.slots.now in
    record {
      given = given_before at size it.stride it.probed;
      rest = rest_from at size it.stride it.probed;
      probed = it.probed;
      size = size;
    }

-- the index is that of the next step, and `left` is the number of the remaining entries
abbrev pub IsWalking : {T : Type 0} → Inside T → Type 0
IsWalking it =
    let size = length it.slots.now in
    IsCursor size it.stride it.probed it.index
    × (it.left ≡ length (rest_from (entry_at it.slots.now) size it.stride it.probed))
