use Rattle.std.proofs.Common.{rules}
use Rattle.sketch_base.proofs.StringEnd.{few_are}
use Rattle.sketch_base.proofs.str_hash.few_bytes.Goals as goal

pub returns : goal.returns
returns c = few_are c.args.bytes.now c.requires.some c.requires.few (search rules)
