use Rattle.std.proofs.Common.{arith}
use Rattle.sketch_base.proofs.SipWords.{none_read, one_read}
use Rattle.sketch_base.proofs.sip_hash.compress_words.Goals as goal

pub each-init : goal.each-init
each-init c = none_read c.args.start c.args.bytes.now

pub each-preserved : goal.each-preserved
each-preserved c =
    one_read c.args.start c.each.v c.compression-v.result c.args.bytes.now c.each.i c.u64_at.result (omega arith) c.each.invariant c.u64_at.ensures c.compression-v.ensures
