use Rattle.std.proofs.Common.{arith}
use Rattle.sketch_base.proofs.StringEnd.{two_words}
use Rattle.sketch_base.proofs.str_hash.block_end.Goals as goal

pub returns-then-n-ge8 : goal.returns-then-n-ge8
returns-then-n-ge8 c = omega (arith, two_words c.args.bytes.now c.u64_at.result c.last_word_end.result (omega arith) (omega arith) c.u64_at.ensures c.last_word_end.ensures)
