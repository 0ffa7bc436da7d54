use Rattle.std.proofs.Common.{◌≡◌}
use Rattle.sketch_base.specs.Xxh64.{consume_words}
use Rattle.sketch_base.proofs.xxhash.consume_words.Given as goal

abbrev pub invariant-each : goal.invariant-each
invariant-each l = l.h ≡ consume_words l.i l.initial.h l.rest
