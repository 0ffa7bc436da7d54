use Rattle.std.proofs.Common.{length}
use Rattle.sketch_text.specs.Columns.{columns_left}
use Rattle.sketch_text.proofs.LastColumns.{IsAhead}
use Rattle.sketch_text.proofs.columns.last_before.Given as goal

abbrev pub invariant-each : goal.invariant-each
invariant-each l =
    IsAhead l.behind (columns_left l.split l.fn.left) (columns_left l.split l.left) (columns_left l.split l.ahead)

abbrev pub decreases-each : goal.decreases-each
decreases-each l = length (columns_left l.split l.left)
