use Rattle.std.proofs.Common.{◌≡◌, ◌-◌, ◌*◌, ◌/◌, length, drop}
use Rattle.sketch_base.specs.Murmur3.{body}
use Rattle.sketch_base.proofs.murmurhash.body.Given as goal

abbrev pub invariant-each : goal.invariant-each
invariant-each l = body (length l.bytes / 16 - l.i) l.h (drop (16 * l.i) l.bytes) ≡ body (length l.bytes / 16) l.fn.start l.bytes
