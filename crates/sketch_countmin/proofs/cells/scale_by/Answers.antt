use Rattle.std.proofs.Common.{pos, ◌≡◌, ◌≤◌, ◌<◌, ◌*◌, ◌/◌, ◌^◌, ap, sym, ◌∙◌, arith, unsigned_abs, to_z, of_z}
use Rattle.std.specs.Int.{w128}
use Rattle.std.proofs.lemmas.Int.{ints}
use Rattle.sketch_countmin.specs.Values.{scaled}
use Rattle.sketch_countmin.proofs.Numbers.{scaled_below, scaled_fits, whole_is, quotient_is}
use Rattle.sketch_countmin.proofs.cells.scale_by.Given as given
use Rattle.sketch_countmin.proofs.cells.scale_by.Goals as goal
use Rattle.sketch_countmin.proofs.cells.scale_by.Goals.{After-to_number}

-- the value is a number of 64 bits
own : (g : given.Over) (c : After-to_number g) → g.T.CountMinValue.number c.args.value ≡ pos (unsigned_abs (g.T.CountMinValue.number c.args.value))
own g c = omega (arith, ints, g.met.T.UnsignedCountMinValue.unsigned c.args.value)

small : (g : given.Over) (c : After-to_number g) → unsigned_abs (g.T.CountMinValue.number c.args.value) < 2 ^ 64
small g c = omega (arith, ints, c.to_number.ensures.value, c.to_number.ensures.narrow)

whole : (g : given.Over) (c : After-to_number g) → to_z w128 (of_z w128 c.to_number.result) ≡ pos (unsigned_abs (g.T.CountMinValue.number c.args.value))
whole g c = whole_is c.to_number.result _ (c.to_number.ensures.value ∙ own g c) (small g c)

-- and so is its part
below : (g : given.Over) (c : After-to_number g) → unsigned_abs (g.T.CountMinValue.number c.args.value) * c.args.fraction.now.0 / c.args.fraction.now.1 < 2 ^ 64
below g c = omega (arith, small g c, scaled_below (unsigned_abs (g.T.CountMinValue.number c.args.value)) c.args.fraction.now.0 c.args.fraction.now.1 c.requires.positive (omega (arith, c.requires.below_one)))

pub from_number_in_range-requires : goal.from_number_in_range-requires
from_number_in_range-requires g c =
    let now = (goal.at.from_number_in_range-requires g c).After-to_number in
    let high : unsigned_abs (g.T.CountMinValue.number c.args.value) ≤ g.T.CountMinValue.greatest = omega (arith, ints, own g now, c.to_number.ensures.in_range.1) in
    rw (c.of-scaled.ensures, whole g now) (rw (quotient_is _ (below g now))
    (scaled_fits g.T.CountMinValue.least g.T.CountMinValue.greatest _ c.args.fraction.now.0 c.args.fraction.now.1 g.met.T.CountMinValue.zero_fits high c.requires.positive (omega (arith, c.requires.below_one))))

pub returns : goal.returns
returns g c =
    let now = (goal.at.returns g c).After-to_number in
    let v = unsigned_abs (g.T.CountMinValue.number c.args.value) in
    let n = c.args.fraction.now.0 in
    let d = c.args.fraction.now.1 in
    c.from_number_in_range.ensures ∙ rw (c.of-scaled.ensures, whole g now) (quotient_is (v * n / d) (below g now) ∙ ap (scaled n d) (sym (own g now)))

pub overflow_cast-to_number : goal.overflow_cast-to_number
overflow_cast-to_number g c = rw (whole g c) (tt, record { fits = small g c })
