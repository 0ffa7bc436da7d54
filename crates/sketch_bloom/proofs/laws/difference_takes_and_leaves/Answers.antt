use Rattle.sketch_bloom.proofs.SetAlgebra.{difference_takes_away, difference_adds_nothing, difference_leaves}
use Rattle.sketch_bloom.proofs.laws.difference_takes_and_leaves.Goals as goal

pub returns : goal.returns
returns c = record { takes_away = difference_takes_away; adds_nothing = difference_adds_nothing; leaves = difference_leaves }
