use Rattle.sketches.proofs.Results.{if_err, on_ok}
use Rattle.sketches.proofs.WeighedLines.{once_added, once_failed}
use Rattle.sketches.proofs.count.counting.add_once.Goals as goal

pub returns-clause-added : goal.returns-clause-added
returns-clause-added c = on_ok c.add_items.result _ _ (once_added c.args.selection c.args.sketch.now c.add_items.new.sketch c.args.bytes.now) c.add_items.ensures.added

pub returns-clause-failed : goal.returns-clause-failed
returns-clause-failed c = if_err c.add_items.result _ _ (once_failed c.args.selection c.args.sketch.now c.args.bytes.now) c.add_items.ensures.failed
