use Rattle.std.proofs.Common.{arith}
use Rattle.sketches.proofs.Utf8Strings.{item_counts_none, item_counts_one}
use Rattle.sketches.proofs.item.utf8_lines.count_item.Goals as goal

pub returns-in-Ok : goal.returns-in-Ok
returns-in-Ok c = omega (arith, item_counts_none c.args.item.now c.in-Ok.ensures.cases.1)

pub returns-in-Err : goal.returns-in-Err
returns-in-Err c = omega (arith, item_counts_one c.args.item.now c.in-Err.ensures.cases.0, c.saturating_add.ensures)
