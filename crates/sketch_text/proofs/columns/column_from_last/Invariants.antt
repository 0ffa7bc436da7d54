use Rattle.std.proofs.Common.{◌≡◌, drop}
use Rattle.sketch_text.specs.Columns.{columns_left, columns_of}
use Rattle.sketch_text.proofs.columns.column_from_last.Given as goal

abbrev pub invariant-ahead : goal.invariant-ahead
invariant-ahead l = columns_left l.split l.ahead ≡ drop l.at (columns_of l.split l.row)
