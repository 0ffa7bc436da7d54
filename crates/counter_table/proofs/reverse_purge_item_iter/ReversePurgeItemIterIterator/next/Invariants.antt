use Rattle.std.proofs.Common.{length, ◌-◌, ◌≡◌, ◌<◌, ◌≤◌}
use Rattle.counter_table.specs.Indices.{IsCursor, entry_at, given_before, rest_from}
use Rattle.counter_table.proofs.reverse_purge_item_iter.ReversePurgeItemIterIterator.next.Given as goal

-- only free slots were passed over
abbrev pub invariant-walk : goal.invariant-walk
invariant-walk g l = record {
  cursor : IsCursor (length l.slots) l.self-inside.stride l.self-inside.probed l.self-inside.index;
  same : l.self-inside.slots.now ≡ l.slots;
  given : given_before (entry_at l.slots) (length l.slots) l.self-inside.stride l.self-inside.probed ≡ l.fn.self.given;
  rest : rest_from (entry_at l.slots) (length l.slots) l.self-inside.stride l.self-inside.probed ≡ l.fn.self.rest;
  left : l.self-inside.left ≡ length l.fn.self.rest;
  some : 0 < l.self-inside.left;
  size : length l.slots ≡ l.fn.self.size;
  probed : l.fn.self.probed ≤ l.self-inside.probed;
}

abbrev pub decreases-walk : goal.decreases-walk
decreases-walk g l = length l.slots - l.self-inside.probed
