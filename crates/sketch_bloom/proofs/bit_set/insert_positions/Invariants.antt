use Rattle.std.proofs.Common.{◌≡◌, ◌+◌, ◌*◌, ◌%◌, ◌^◌, ◌≤◌}
use Rattle.sketch_bloom.specs.Positions.{positions}
use Rattle.sketch_bloom.proofs.bit_set.insert_positions.Given as goal
use Rattle.sketch_bloom.proofs.Placing.{Inserts}

abbrev pub invariant-inserts : goal.invariant-inserts
invariant-inserts l = (l.hash ≡ (l.h0 + l._i * l.h1) % 2 ^ 64) × (l.added ≤ l._i) × Inserts l.initial.words (positions l.capacity l._i l.h0 l.h1) l.words l.added
