use Rattle.std.proofs.Common.{◌≡◌, ◌-◌, ◌*◌, ◌/◌, length, drop}
use Rattle.sketch_base.specs.Xxh64.{stripes}
use Rattle.sketch_base.proofs.xxhash.stripes.Given as goal

abbrev pub invariant-each : goal.invariant-each
invariant-each l = stripes (length l.bytes / 32 - l.i) l.acc (drop (32 * l.i) l.bytes) ≡ stripes (length l.bytes / 32) l.fn.start l.bytes
