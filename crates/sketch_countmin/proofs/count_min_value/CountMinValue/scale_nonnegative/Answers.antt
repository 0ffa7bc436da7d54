use Rattle.std.proofs.Common.{arith, ap, ◌∙◌, ◌≡◌, ◌*◌, ◌/◌, ◌<◌, ◌^◌, pos, unsigned_abs, to_z, of_z}
use Rattle.std.specs.Int.{w128}
use Rattle.std.proofs.lemmas.Int.{ints}
use Rattle.sketch_countmin.specs.Values.{scaled}
use Rattle.sketch_countmin.proofs.Numbers.{product_fits, whole_is, quotient_is, scaled_below, scaled_fits}
use Rattle.sketch_countmin.proofs.count_min_value.CountMinValue.scale_nonnegative.Given as given
use Rattle.sketch_countmin.proofs.count_min_value.CountMinValue.scale_nonnegative.Goals as goal
use Rattle.sketch_countmin.proofs.count_min_value.CountMinValue.scale_nonnegative.Goals.{After-to_number}

-- the value is a number of 64 bits
small : (g : given.Over) (c : After-to_number g) → unsigned_abs (g.Self.CountMinValue.number c.args.self) < 2 ^ 64
small g c = omega (arith, ints, c.to_number.ensures.value, c.to_number.ensures.narrow)

whole : (g : given.Over) (c : After-to_number g) → to_z w128 (of_z w128 c.to_number.result) ≡ pos (unsigned_abs (g.Self.CountMinValue.number c.args.self))
whole g c = whole_is c.to_number.result (unsigned_abs (g.Self.CountMinValue.number c.args.self)) (omega (arith, ints, c.to_number.ensures.value, c.requires.nonnegative)) (small g c)

-- and so is what it becomes
below : (g : given.Over) (c : After-to_number g) → unsigned_abs (g.Self.CountMinValue.number c.args.self) * c.args.numerator / c.args.denominator < 2 ^ 64
below g c = omega (arith, small g c, scaled_below (unsigned_abs (g.Self.CountMinValue.number c.args.self)) c.args.numerator c.args.denominator c.requires.positive c.requires.at_most_one)

pub overflow_cast-product : goal.overflow_cast-product
overflow_cast-product g c = rw (whole g c) (tt, record { fits = omega (arith, small g c) })

pub overflow_mul-product : goal.overflow_mul-product
overflow_mul-product g c = rw (whole g c) (record { fits = product_fits (unsigned_abs (g.Self.CountMinValue.number c.args.self)) c.args.numerator (small g c) c.ranges.numerator.fits })

pub overflow_cast-product-3 : goal.overflow_cast-product-3
overflow_cast-product-3 g c = rw (whole g c) (record { sfits = omega (arith, ints, below g c) })

pub from_number_in_range-requires : goal.from_number_in_range-requires
from_number_in_range-requires g c =
    let v = unsigned_abs (g.Self.CountMinValue.number c.args.self) in
    rw (whole g c) (rw (quotient_is (v * c.args.numerator / c.args.denominator) (below g c))
    (scaled_fits g.Self.CountMinValue.least g.Self.CountMinValue.greatest v c.args.numerator c.args.denominator g.met.Self.CountMinValue.zero_fits (omega (arith, ints, c.to_number.ensures.in_range.1, c.requires.nonnegative)) c.requires.positive c.requires.at_most_one))

pub returns : goal.returns
returns g c =
    let now = (goal.at.returns g c).After-to_number in
    let v = unsigned_abs (g.Self.CountMinValue.number c.args.self) in
    let own : pos v ≡ g.Self.CountMinValue.number c.args.self = omega (arith, ints, c.requires.nonnegative) in
    c.from_number_in_range.ensures ∙ rw (whole g now) (quotient_is (v * c.args.numerator / c.args.denominator) (below g now) ∙ ap (scaled c.args.numerator c.args.denominator) own)
