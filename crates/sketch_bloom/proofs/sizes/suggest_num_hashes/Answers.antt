use Rattle.std.proofs.Common.{arith}
use Rattle.sketch_bloom.proofs.SuggestedHashes.{hashes_enough, hashes_least, none_for_none}
use Rattle.sketch_bloom.proofs.sizes.suggest_num_hashes.Goals as goal

pub returns-then-num_items-eq0-clause-too_many : goal.returns-then-num_items-eq0-clause-too_many
returns-then-num_items-eq0-clause-too_many c some few =
    (c.invalid_argument-then-num_items-eq0.ensures, λ m within. absurd (none_for_none c.args.num_bits c.args.num_items m some (omega arith) within))

pub returns-then-num_hashes-clause-too_many : goal.returns-then-num_hashes-clause-too_many
returns-then-num_hashes-clause-too_many c some few = (
  c.invalid_argument-then-num_hashes.ensures,
  λ m within.
      omega (arith, hashes_least c.args.num_bits c.args.num_items c.div_ceil-bits_times_ln2.result c.div_ceil-num_hashes.result m (omega arith) few (omega arith) (omega arith) within),
)

pub returns-clause-enough : goal.returns-clause-enough
returns-clause-enough c =
    hashes_enough c.args.num_bits c.args.num_items c.div_ceil-bits_times_ln2.result c.div_ceil-num_hashes.result (omega arith) (omega arith) (omega arith)

pub returns-clause-least : goal.returns-clause-least
returns-clause-least c m within =
    hashes_least c.args.num_bits c.args.num_items c.div_ceil-bits_times_ln2.result c.div_ceil-num_hashes.result m (omega arith) (omega arith) (omega arith) (omega arith) within
