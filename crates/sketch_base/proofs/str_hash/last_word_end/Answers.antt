use Rattle.std.proofs.Common.{refl, rules}
use Rattle.sketch_base.proofs.StringEnd.{last_word}
use Rattle.sketch_base.proofs.str_hash.last_word_end.Goals as goal

pub returns : goal.returns
returns c = last_word c.args.bytes.now c.u64_at.result _ c.requires (search rules) c.u64_at.ensures refl
