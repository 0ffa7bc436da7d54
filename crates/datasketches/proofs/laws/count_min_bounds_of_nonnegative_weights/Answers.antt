use Rattle.std.proofs.Common.{ℕ, subst}
use Rattle.std.specs.Prelude.{pos, ◌≤ℤ◌}
use Rattle.sketch_countmin.specs.History.{own_value}
use Rattle.datasketches.proofs.Promised.{counted_stands, counted_buckets}
use Rattle.datasketches.proofs.laws.count_min_bounds_of_nonnegative_weights.Goals as goal

pub returns : goal.returns
returns g c = record {
  encloses = λ s h is nonnegative bytes least lowest.
      let stands = counted_stands g.T.PartialEq.eq g.T.FrequentItemValue.codec g.T.FrequentItemValue.content s h is in
      subst (λ (t : ℕ). (own_value h bytes ≤ℤ least) × (least ≤ℤ pos t)) stands.total
      (c.min_cell_bounds.ensures.encloses s h bytes least (counted_buckets g.T.PartialEq.eq g.T.FrequentItemValue.codec g.T.FrequentItemValue.content s h is) stands nonnegative lowest);
}
