use Rattle.std.proofs.Common.{arith, inl, inr}
use Rattle.std.proofs.lemmas.Bool.{cases_lt}
use Rattle.sketch_bloom.proofs.SuggestedBits.{bits_enough, bits_least, bits_positive, bits_by_formula}
use Rattle.sketch_bloom.proofs.sizes.suggest_num_bits.Goals as goal

pub returns-clause-enough : goal.returns-clause-enough
returns-clause-enough c =
    bits_enough c.args.num_items c.args.questions c.log_in_64ths.result c.div_ceil-num_bits.result c.log_in_64ths.ensures.enough (omega arith)

pub returns-clause-formula : goal.returns-clause-formula
returns-clause-formula c =
    bits_by_formula c.args.num_items c.args.questions c.div_ceil-num_bits.result (returns-clause-enough c)

pub returns-clause-least : goal.returns-clause-least
returns-clause-least c m enough = elim (cases_lt 137438953152 m) [
  | inl many ↦ omega (arith, many)
  | inr few ↦ bits_least c.args.num_items c.args.questions c.log_in_64ths.result c.div_ceil-num_bits.result m c.log_in_64ths.ensures.least (omega arith) few enough
]

pub returns-clause-allowed : goal.returns-clause-allowed
returns-clause-allowed c =
    (bits_positive c.args.num_items c.args.questions c.log_in_64ths.result c.div_ceil-num_bits.result (omega arith) (omega arith) c.log_in_64ths.ensures.enough (omega arith), omega arith)

pub returns-then-num_bits-clause-too_many : goal.returns-then-num_bits-clause-too_many
returns-then-num_bits-clause-too_many c some many = (
  c.invalid_argument-then-num_bits.ensures,
  λ m enough.
      elim (cases_lt 137438953152 m) [
        | inl above ↦ omega (arith, above)
        | inr few ↦
            omega (arith, bits_least c.args.num_items c.args.questions c.log_in_64ths.result c.div_ceil-num_bits.result m c.log_in_64ths.ensures.least (omega arith) few enough)
      ],
)
