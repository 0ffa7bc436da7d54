use Rattle.std.proofs.Common.{arith}
use Rattle.sketch_countmin.proofs.SuggestedBuckets.{buckets_enough, buckets_least, buckets_many}
use Rattle.sketch_countmin.proofs.sizes.suggest_num_buckets.Goals as goal

pub returns-then-parts-gt-MAX_PARTS-clause-too_many : goal.returns-then-parts-gt-MAX_PARTS-clause-too_many
returns-then-parts-gt-MAX_PARTS-clause-too_many c some = (c.invalid_argument-then-parts-gt-MAX_PARTS.ensures, λ m within. buckets_many c.args.parts m (omega arith) within)

pub returns-clause-enough : goal.returns-clause-enough
returns-clause-enough c = buckets_enough c.args.parts c.div_ceil.result (omega arith)

pub returns-clause-least : goal.returns-clause-least
returns-clause-least c m within = buckets_least c.args.parts c.div_ceil.result m (omega arith) (omega arith) (omega arith) within
