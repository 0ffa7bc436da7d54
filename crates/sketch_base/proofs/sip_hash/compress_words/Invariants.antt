use Rattle.std.proofs.Common.{◌≡◌, fold}
use Rattle.sketch_base.specs.SipHash.{compression, words}
use Rattle.sketch_base.proofs.sip_hash.compress_words.Given as goal

abbrev pub invariant-each : goal.invariant-each
invariant-each l = l.v ≡ fold (compression 1) l.fn.start (words l.i l.bytes)
