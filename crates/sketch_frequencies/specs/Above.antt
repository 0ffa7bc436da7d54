-- Which items a report lists.
use Rattle.std.specs.Prelude.{ℕ, nat_lt, Bool}
use Rattle.sketch_frequencies.specs.declared.error_type.ErrorType.{ErrorType}
use Rattle.sketch_frequencies.specs.declared.error_type.ErrorType.TheVariants.{NoFalseNegatives, NoFalsePositives}

-- whether the compared bound is above the floor: the upper bound if no item may be missing, the lower bound if no item
-- may be listed wrongly
abbrev pub is_above : ErrorType → ℕ → ℕ → ℕ → Bool
is_above NoFalseNegatives floor lower upper = nat_lt floor upper
is_above NoFalsePositives floor lower upper = nat_lt floor lower
