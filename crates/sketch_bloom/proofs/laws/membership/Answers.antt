use Rattle.sketch_bloom.proofs.SetAlgebra.{empty_contains_nothing, inserted_is_contained}
use Rattle.sketch_bloom.proofs.laws.membership.Goals as goal

pub returns : goal.returns
returns c = record { empty = empty_contains_nothing; inserted = inserted_is_contained }
