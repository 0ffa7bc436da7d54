use Rattle.sketch_bloom.proofs.SetAlgebra.{union_commutes, union_associates, union_is_idempotent, union_keeps, union_brings}
use Rattle.sketch_bloom.proofs.laws.union_is_set_union.Goals as goal

pub returns : goal.returns
returns c = record {
  commutes = union_commutes;
  associates = union_associates;
  idempotent = union_is_idempotent;
  keeps = union_keeps;
  brings = union_brings;
}
