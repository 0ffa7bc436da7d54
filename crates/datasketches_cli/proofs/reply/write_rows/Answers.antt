use Rattle.datasketches_cli.proofs.Printed.{one_more_row}
use Rattle.datasketches_cli.proofs.reply.write_rows.Goals as goal

pub loop-row-preserved : goal.loop-row-preserved
loop-row-preserved c =
    one_more_row _ _ _ c.args.rows.now _ c.row-item.result c.loop-row-test.true c.row-item.is c.loop-row.invariant
    (rw (c.item.ensures, c.estimate.ensures, c.lower_bound.ensures, c.upper_bound.ensures) at c.in_ok-write.ensures.bytes)
