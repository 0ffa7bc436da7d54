use Rattle.std.proofs.Common.{◌≡◌, ◌++◌, drop}
use Rattle.sketch_base.specs.Validity.{valid}
use Rattle.any_sketch.proofs.valid_rows.valid_weights.Given as goal

-- the weights of the valid rows so far were kept
abbrev pub invariant-each : goal.invariant-each
invariant-each g l = l.kept.items ++ valid l.bits (drop l.i l.weights) ≡ valid l.fn.bits l.weights
