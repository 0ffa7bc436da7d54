use Rattle.std.specs.Cmp.{partial_equiv_from_equiv}
use Rattle.sketch_bloom.specs.Equality.{same_filter-Decides, same_filter_equivalence}
use Rattle.sketch_bloom.proofs.laws.equality_is_an_equivalence.Goals as goal

pub returns : goal.returns
returns c = record {
  by_parts = same_filter-Decides;
  reflexive = same_filter_equivalence.refl;
  symmetric = same_filter_equivalence.symm;
  transitive = (partial_equiv_from_equiv same_filter_equivalence).trans;
}
