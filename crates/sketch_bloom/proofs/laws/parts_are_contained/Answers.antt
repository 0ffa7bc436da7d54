use Rattle.sketch_bloom.proofs.Parts.{parts_are_contained}
use Rattle.sketch_bloom.proofs.laws.parts_are_contained.Goals as goal

pub returns : goal.returns
returns c = parts_are_contained
