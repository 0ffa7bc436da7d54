use Rattle.std.proofs.Common.{◌≡◌, unsigned_abs, to_z, of_z, sym, ap, subst, ◌∙◌, arith}
use Rattle.std.specs.Prelude.{ℤ}
use Rattle.std.specs.Int.{w128}
use Rattle.std.proofs.lemmas.Int.{ints}
use Rattle.sketch_countmin.specs.Values.{InRange}
use Rattle.sketch_countmin.specs.View.{nearest}
use Rattle.sketch_countmin.proofs.Nearest.{nearest_is, nearest_in_range}
use Rattle.sketch_countmin.proofs.cell_list.nearest_value.Given as given
use Rattle.sketch_countmin.proofs.cell_list.nearest_value.Goals as goal
use Rattle.sketch_countmin.proofs.cell_list.nearest_value.Goals.{After-max}

-- what the code computes
value : (g : given.Over) (c : After-max g) → to_z w128 (of_z w128 c.max.result) ≡ nearest g.T.CountMinValue.least (unsigned_abs (g.T.CountMinValue.number c.args.total)) c.args.number
value g c =
    let total = unsigned_abs (g.T.CountMinValue.number c.args.total) in
    nearest_is g.T.CountMinValue.least c.args.number c.to_number-most.result c.to_number.result c.max-low.result c.min.result c.max.result total
    (c.to_number-most.ensures.value ∙ c.requires) (omega (arith, ints, c.to_number-most.ensures.narrow, c.to_number-most.ensures.value))
    (c.to_number.ensures.value ∙ (ap g.T.CountMinValue.number c.MIN.ensures ∙ g.met.T.CountMinValue.min_is)) c.to_number.ensures.narrow c.ranges.number
    c.max-low.ensures.value c.min.ensures.value c.max.ensures.value

pub from_number_in_range-requires : goal.from_number_in_range-requires
from_number_in_range-requires g c =
    subst (λ (z : ℤ). InRange g.T.CountMinValue.least g.T.CountMinValue.greatest z) (sym (value g c))
    (nearest_in_range g.T.CountMinValue.least g.T.CountMinValue.greatest (unsigned_abs (g.T.CountMinValue.number c.args.total)) c.args.number g.met.T.CountMinValue.zero_fits
    (omega (arith, ints, c.to_number-most.ensures.in_range.1, c.requires)))

pub returns : goal.returns
returns g c = c.from_number_in_range.ensures ∙ value g (goal.at.returns g c).After-max
