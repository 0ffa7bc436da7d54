use Rattle.std.proofs.Common.{◌∙◌}
use Rattle.sketch_base.proofs.Xxh64Pieces.{finish-HasFed}
use Rattle.sketch_base.proofs.xxhash.XxHash64Hasher.finish.Goals as goal

pub returns-clause-hash : goal.returns-clause-hash
returns-clause-hash c = λ seed fed h. c.hash.ensures ∙ finish-HasFed seed fed c.args.self.now h
