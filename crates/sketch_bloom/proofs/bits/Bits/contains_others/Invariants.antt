use Rattle.std.proofs.Common.{◌≡◌, ◌+◌, ◌*◌, ◌%◌, ◌^◌, true}
use Rattle.std.specs.FinSet as set
use Rattle.sketch_bloom.specs.Positions.{positions}
use Rattle.sketch_bloom.specs.State.{capacity_of}
use Rattle.sketch_bloom.proofs.bits.Bits.contains_others.Given as goal

abbrev pub invariant-probes : goal.invariant-probes
invariant-probes g l = (l.hash ≡ (l.h0 + l._i * l.h1) % 2 ^ 64) × (set.is_subset (positions (capacity_of l.self) l._i l.h0 l.h1) l.self.set ≡ true)
