use Rattle.std.proofs.Common.{◌∙◌, arith, rules}
use Rattle.sketch_base.proofs.StringEnd.{hash_rest}
use Rattle.sketch_base.proofs.str_hash.murmur3_with_rest.Goals as goal

pub returns : goal.returns
returns c = c.finish_words.ensures ∙ hash_rest c.args.bytes.now c.args.seed c.args.rest _ c.body-h.result (search rules) c.body-h.ensures c.requires (omega arith)
