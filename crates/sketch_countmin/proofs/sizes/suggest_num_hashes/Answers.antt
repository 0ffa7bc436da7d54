use Rattle.std.proofs.Common.{arith}
use Rattle.sketch_countmin.proofs.SuggestedHashes.{hashes_enough, hashes_least}
use Rattle.sketch_countmin.proofs.sizes.suggest_num_hashes.Goals as goal

pub returns-then-questions-num_hashes-clause-enough : goal.returns-then-questions-num_hashes-clause-enough
returns-then-questions-num_hashes-clause-enough c = hashes_enough c.args.questions c.loop-num_hashes.num_hashes (omega arith) (omega arith)

pub returns-then-questions-num_hashes-clause-least : goal.returns-then-questions-num_hashes-clause-least
returns-then-questions-num_hashes-clause-least c m within = hashes_least c.args.questions c.loop-num_hashes.num_hashes m (omega arith) c.loop-num_hashes.invariant within

pub returns-clause-least : goal.returns-clause-least
returns-clause-least c m within = hashes_least c.args.questions 45 m (omega arith) (λ i lt. c.loop-num_hashes.invariant i (omega arith)) within
