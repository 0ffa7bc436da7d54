use Rattle.sketches.proofs.print.threshold.Threshold.weight.Goals as goal

pub returns-in-Share : goal.returns-in-Share
returns-in-Share c = λ n. rw c.in-Share.is (c.share_of.ensures n)
