use Rattle.std.proofs.Common.{Bool, Ok, subst, sym}
use Rattle.sketch_bloom.specs.Equality.{same_filter-Decides}
use Rattle.sketch_bloom.specs.State.{same_filter}
use Rattle.any_sketch.specs.Joins.{TellsWhetherSame}
use Rattle.any_sketch.proofs.Comparing.{by_test}
use Rattle.any_sketch.proofs.joins.same_filters.Goals as goal

pub returns : goal.returns
returns c =
    let a = c.args.filter.now in
    let b = c.args.other.now in
    subst (λ (t : Bool). TellsWhetherSame a b (Ok t)) (sym c.eq.ensures) (by_test a b (same_filter a b) (same_filter-Decides a b))
