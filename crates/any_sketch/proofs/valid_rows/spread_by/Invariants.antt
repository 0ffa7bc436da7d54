use Rattle.std.proofs.Common.{◌≡◌, ◌+◌, ◌-◌, ◌++◌, length, take, drop}
use Rattle.sketch_base.specs.Validity.{valid}
use Rattle.any_sketch.proofs.Spreading.{by_rows}
use Rattle.any_sketch.proofs.valid_rows.spread_by.Given as goal

-- the results of the rows so far stand at their rows, and those of the rows that are left are the last ones
abbrev pub invariant-each : goal.invariant-each
invariant-each g l = record {
  size : length l.results ≡ length l.fn.results;
  left : l.next + length (valid l.bits (drop l.i l.results)) ≡ length l.results;
  placed : take l.i l.results ++ by_rows l.bits l.null (length l.results - l.i) (drop l.next l.results) ≡ by_rows l.fn.bits l.null (length l.results) (drop l.fn.from l.fn.results);
}
