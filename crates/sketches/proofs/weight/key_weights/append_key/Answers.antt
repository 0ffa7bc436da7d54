use Rattle.std.proofs.Common.{sym, subst, Some}
use Rattle.sketches.proofs.ItemWeights.{one_written}
use Rattle.sketches.specs.KeyWeights.{WritesEstimates}
use Rattle.sketches.proofs.weight.key_weights.append_key.Goals as goal

pub returns : goal.returns
returns c =
    subst (λ l. WritesEstimates c.args.style c.args.sketch.now l (Some c.args.written.now.items) (Some c.append_line.new.out.items)) (sym (rw c.in-Some.is at c.in_ok-key.ensures))
    (one_written c.args.style c.args.sketch.now c.in-Some.key.now c.estimate_of.result c.args.written.now.items c.append_line.new.out.items c.estimate_of.ensures c.in_ok-append_line.ensures)
