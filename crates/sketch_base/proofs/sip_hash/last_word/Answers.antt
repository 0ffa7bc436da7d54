use Rattle.std.proofs.Common.{arith, rules}
use Rattle.sketch_base.proofs.SipWords.{ended_is, last_is_sum, tail_below}
use Rattle.sketch_base.proofs.sip_hash.last_word.Goals as goal

pub overflow_sub-rest : goal.overflow_sub-rest
overflow_sub-rest c = omega (arith, ended_is c.args.bytes.now c.word_end.result c.word_end.ensures)

pub overflow_add-result : goal.overflow_add-result
overflow_add-result c = omega (arith, ended_is c.args.bytes.now c.word_end.result c.word_end.ensures, tail_below c.args.bytes.now (search rules))

pub returns : goal.returns
returns c = omega (arith, ended_is c.args.bytes.now c.word_end.result c.word_end.ensures, last_is_sum c.args.bytes.now)
