use Rattle.std.proofs.Common.{◌∙◌, arith, rules}
use Rattle.sketch_base.proofs.SipStrings.{end_below, hash_filled, hash_left}
use Rattle.sketch_base.proofs.str_hash.keyed_hash_of_ended.Goals as goal

pub overflow_add-end : goal.overflow_add-end
overflow_add-end c = omega (arith, end_below c.args.bytes.now c.word_end-end.result (search rules) (omega arith) c.word_end-end.ensures)

pub returns-then-bytes-eq7 : goal.returns-then-bytes-eq7
returns-then-bytes-eq7 c =
    c.finalization.ensures
    ∙ hash_filled c.args.key c.args.bytes.now _ _ _ _ _ _ (omega arith) c.initialization.ensures c.compress_words-whole.ensures c.word_end-end.ensures (omega arith) c.compression.ensures c.compression-then-bytes-eq7.ensures

pub returns-else-bytes-eq7 : goal.returns-else-bytes-eq7
returns-else-bytes-eq7 c =
    c.finalization-else-bytes-eq7.ensures
    ∙ hash_left c.args.key c.args.bytes.now _ _ _ _ _ (omega arith) c.initialization.ensures c.compress_words-whole.ensures c.word_end-end.ensures (omega arith) c.compression-else-bytes-eq7.ensures
