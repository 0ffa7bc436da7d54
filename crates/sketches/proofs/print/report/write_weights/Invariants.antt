use Rattle.std.proofs.Common.{◌≡◌, ◌++◌, true, string_bytes, take}
use Rattle.std.specs.List.{flat_map}
use Rattle.sketches.specs.Reports.{row_line}
use Rattle.sketches.specs.declared.print.layout.Style.TheVariants.{Plain}
use Rattle.sketches.proofs.print.report.write_weights.Given as goal

abbrev pub invariant-loop-row : goal.invariant-loop-row
invariant-loop-row l = string_bytes l.out ≡ string_bytes l.initial.out ++ flat_map (row_line true Plain) (take l.row-index l.rows)
