use Rattle.std.proofs.Common.{◌≡◌, ◌++◌, take}
use Rattle.std.specs.List.{flat_map}
use Rattle.sketches.specs.Reports.{row_line}
use Rattle.sketches.specs.declared.print.layout.Style.TheVariants.{Json}
use Rattle.sketches.proofs.print.report.append_rows.Given as goal

abbrev pub invariant-loop-row : goal.invariant-loop-row
invariant-loop-row l = l.out.items ≡ l.initial.out.items ++ flat_map (row_line l.exact Json) (take l.row-index l.rows)
