use Rattle.std.proofs.Common.{◌∙◌, length, ◌*◌, ◌/◌, arith, rules}
use Rattle.std.proofs.lemmas.List.{take_rest}
use Rattle.sketch_base.proofs.Xxh64String.{hash_filled, hash_word, hash_bytes}
use Rattle.sketch_base.proofs.str_hash.xxh64_of_str.Goals as goal

pub returns-then-n-eq31 : goal.returns-then-n-eq31
returns-then-n-eq31 c =
    c.avalanche.ensures
    ∙ hash_filled c.args.text.now c.as_bytes-bytes.result.now _ c.args.seed _ _ _ _ _ _ _ _ c.as_bytes-bytes.ensures.value (search rules) (take_rest c.as_bytes-bytes.result.now (length c.as_bytes-bytes.result.now / 32 * 32)) c.if-n-eq31.true
    c.word_end-end.ensures c.initial_accumulators.ensures c.stripes-acc.ensures c.word_at.ensures c.word_at-then-n-eq31.ensures c.word_at-then-n-eq31-2.ensures c.stripe_of_words.ensures c.convergence.ensures

pub returns-then-n-eq7 : goal.returns-then-n-eq7
returns-then-n-eq7 c =
    c.avalanche-then-n-eq7.ensures
    ∙ hash_word c.args.text.now c.as_bytes-bytes.result.now _ c.args.seed _ _ _ _ c.as_bytes-bytes.ensures.value (search rules) (take_rest c.as_bytes-bytes.result.now (length c.as_bytes-bytes.result.now / 32 * 32)) (omega arith) c.if-n-eq7.true
    c.word_end-end.ensures c.converged.ensures c.consume_words-h.ensures c.consume_word.ensures

pub returns-else-n-eq7 : goal.returns-else-n-eq7
returns-else-n-eq7 c =
    c.avalanche-else-n-eq7.ensures
    ∙ hash_bytes c.args.text.now c.as_bytes-bytes.result.now _ c.args.seed _ _ _ _ c.as_bytes-bytes.ensures.value (search rules) (take_rest c.as_bytes-bytes.result.now (length c.as_bytes-bytes.result.now / 32 * 32)) (omega arith)
    c.word_end-end.ensures c.converged.ensures c.consume_words-h.ensures c.consume_number.ensures.many c.consume_number.ensures.few
