use Rattle.sketches.proofs.Results.{if_err}
use Rattle.sketches.proofs.WeighedLines.{counted_once}
use Rattle.sketches.proofs.count.counting.ItemCounterLineSinkUnit.take.Goals as goal

pub returns-in-Once-clause-failed : goal.returns-in-Once-clause-failed
returns-in-Once-clause-failed c =
    let s = c.args.self.now in
    if_err c.add_once.result _ _ (counted_once s.weighing c.in-Once.selection s.sketch s.count c.args.bytes.now c.in-Once.is) c.add_once.ensures.failed
