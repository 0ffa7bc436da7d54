use Rattle.std.proofs.Common.{subst, sym, ◌∙◌, ◌≡◌, ◌≤◌, ℤ, ◌+ℤ◌, unsigned_abs, to_z, of_z, length}
use Rattle.std.specs.Int.{w128}
use Rattle.sketch_countmin.specs.Values.{InRange}
use Rattle.sketch_countmin.proofs.Numbers.{sum_fits, sum_is}
use Rattle.sketch_countmin.proofs.RowSteps.{read_cell, added_at}
use borrow.Author.Rules.{scaled_Fits}
use Rattle.sketch_countmin.proofs.cells.add_at.Given as given
use Rattle.sketch_countmin.proofs.cells.add_at.Goals as goal
use Rattle.sketch_countmin.proofs.cells.add_at.Goals.{After-to_number-2}

-- what the code computes, without the casts
whole : (g : given.Over) (c : After-to_number-2 g) → to_z w128 (of_z w128 (to_z w128 (of_z w128 c.to_number.result) +ℤ to_z w128 (of_z w128 c.to_number-2.result))) ≡ g.T.CountMinValue.number c.index-counts-index.result +ℤ g.T.CountMinValue.number c.args.weight
whole g c = sum_is c.to_number.result c.to_number-2.result _ _ c.to_number.ensures.value c.to_number-2.ensures.value c.to_number.ensures.narrow c.to_number-2.ensures.narrow

pub from_number_in_range-requires : goal.from_number_in_range-requires
from_number_in_range-requires g c =
    let num = g.T.CountMinValue.number in
    subst (λ (z : ℤ). InRange g.T.CountMinValue.least g.T.CountMinValue.greatest z) (sym (whole g c))
    (g.met.T.CountMinValue.sum_fits c.index-counts-index.result c.args.weight
    (subst (λ (z : ℤ). unsigned_abs (z +ℤ num c.args.weight) ≤ g.T.CountMinValue.greatest) (read_cell num c.args.counts.now c.args.index c.index-counts-index.result c.requires.bounds c.index-counts-index.is) c.requires.room))

pub returns : goal.returns
returns g c =
    let num = g.T.CountMinValue.number in
    let sum : num c.from_number_in_range.result ≡ num c.index-counts-index.result +ℤ num c.args.weight = c.from_number_in_range.ensures ∙ whole g (goal.at.returns g c).After-to_number-2 in
    added_at num c.args.counts.now c.args.index c.index-counts-index.result c.from_number_in_range.result (num c.args.weight) c.requires.bounds c.index-counts-index.is sum

pub overflow_add-sum : goal.overflow_add-sum
overflow_add-sum g c = sum_fits c.to_number.result c.to_number-2.result c.to_number.ensures.narrow c.to_number-2.ensures.narrow

-- the slice has room
pub offset_bounds-counts-index : goal.offset_bounds-counts-index
offset_bounds-counts-index g c = scaled_Fits c.args.index (length c.args.counts.now) _ c.requires.bounds (search)

pub offset_bounds-counts-index-2 : goal.offset_bounds-counts-index-2
offset_bounds-counts-index-2 g c = scaled_Fits c.args.index (length c.args.counts.now) _ c.requires.bounds (search)

pub bounds-counts-index : goal.bounds-counts-index
bounds-counts-index g c = c.requires.bounds

pub bounds-counts-index-2 : goal.bounds-counts-index-2
bounds-counts-index-2 g c = c.requires.bounds
