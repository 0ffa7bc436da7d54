use Rattle.std.proofs.Common.{◌≡◌, ℕ, List, ◌++◌, length, ap, ◌∙◌, arith}
use Rattle.std.proofs.lemmas.Result.{on_ok_weaker}
use Rattle.std.specs.Fmt.{decimal}
use Rattle.std.specs.Prelude.{codes}
use Rattle.std.specs.List.{flat_map}
use Rattle.std.specs.String.{string_bytes}
use Rattle.datasketches_cli.specs.Printing.{row_text}
use Rattle.datasketches_cli.proofs.Printed.{seven_parts_and_end}
use Rattle.datasketches_cli.proofs.reply.write_report.Goals as goal

pub returns : goal.returns
returns c =
    let report = c.args.report.now in
    let len : report.rows.len ≡ length report.rows.items = omega (arith, report.rows.ok) in
    on_ok_weaker c.write_rows.result
    (λ written. rw c.deref.ensures.value at written ∙ ap (λ (l : List ℕ). l ++ (flat_map row_text report.rows.items ++ codes "\n")) (rw (c.len.ensures, len) at c.in_ok-write.ensures.bytes)
    ∙ seven_parts_and_end (string_bytes c.args.out.now) (codes "report total ") (decimal report.total_weight) (codes " error ") (decimal report.maximum_error) (codes " rows ") (decimal (length report.rows.items)) (flat_map row_text report.rows.items) (codes "\n"))
    c.write_rows.ensures
