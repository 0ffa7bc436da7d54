use Rattle.std.proofs.Common.{length, ap, arith}
use Rattle.sketch_text.specs.Columns.{columns_left}
use Rattle.sketch_text.proofs.LastColumns.{at_last, one_on}
use Rattle.sketch_text.proofs.columns.last_before.Goals as goal

pub returns-in_err-column : goal.returns-in_err-column
returns-in_err-column c = absurd (omega (arith, c.each.invariant.enough, ap length c.in_err-column.ensures))

pub returns-in_default : goal.returns-in_default
returns-in_default c =
    at_last c.args.behind (columns_left c.args.split c.args.left) _ _ _ c.in_ok-column.column.now c.each.invariant c.in_ok-column.ensures c.in_default.ensures

pub each-preserved : goal.each-preserved
each-preserved c =
    one_on c.args.behind (columns_left c.args.split c.args.left) _ _ _ _ c.in_ok-column.column.now _ c.each.invariant c.in_ok-column.ensures c.in-Some.ensures

pub each-smaller : goal.each-smaller
each-smaller c = omega (arith, ap length c.in_ok-column.ensures)
