use Rattle.std.proofs.Common.{◌≡◌, take, fold}
use Rattle.sketch_base.specs.Xxh64.{consume_byte}
use Rattle.sketch_base.proofs.xxhash.fold_bytes.Given as goal

abbrev pub invariant-loop-lane : goal.invariant-loop-lane
invariant-loop-lane l = l.h ≡ fold consume_byte l.initial.h (take l.lane-index l.rest)
