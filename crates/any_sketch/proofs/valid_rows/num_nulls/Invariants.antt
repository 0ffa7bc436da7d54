use Rattle.std.proofs.Common.{◌≡◌, ◌+◌, length, drop}
use Rattle.sketch_base.specs.Validity.{valid}
use Rattle.any_sketch.proofs.valid_rows.num_nulls.Given as goal

-- the nulls among the rows so far were counted
abbrev pub invariant-each : goal.invariant-each
invariant-each g l =
    l.count + length (valid l.fn.bits l.results) ≡ l.counter + length (valid l.bits (drop l.counter l.results))
