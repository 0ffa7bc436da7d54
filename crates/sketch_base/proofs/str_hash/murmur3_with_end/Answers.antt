use Rattle.std.proofs.Common.{◌∙◌, refl, arith, rules}
use Rattle.sketch_base.proofs.StringEnd.{hash_filled, hash_left}
use Rattle.sketch_base.proofs.str_hash.murmur3_with_end.Goals as goal

pub returns-then-bytes-eq15 : goal.returns-then-bytes-eq15
returns-then-bytes-eq15 c =
    c.finish_words.ensures
    ∙ hash_filled c.args.bytes.now _ c.args.seed _ c.body-h.result _ refl (search rules) c.if-bytes-eq15.true c.body-h.ensures c.requires c.block_of_words.ensures

pub returns-else-bytes-eq15 : goal.returns-else-bytes-eq15
returns-else-bytes-eq15 c =
    c.finish_words-else-bytes-eq15.ensures
    ∙ hash_left c.args.bytes.now _ c.args.seed _ c.body-h.result refl (search rules) (omega arith) c.body-h.ensures c.requires
