use Rattle.std.proofs.Common.{sym, ◌∙◌}
use Rattle.sketch_frequencies.proofs.ImageWeights.{weight_is}
use Rattle.sketch_frequencies.proofs.image.weight_at.Goals as goal

pub returns : goal.returns
returns c = c.u64_at.ensures ∙ sym (weight_is c.args.image.now c.args.i c.requires.within)
