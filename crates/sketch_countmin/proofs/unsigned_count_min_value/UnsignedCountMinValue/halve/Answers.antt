use Rattle.std.proofs.Common.{arith, ap, sym, ◌∙◌, ◌≡◌, ℕ, ◌/◌, ◌<◌, ◌≤◌, ◌^◌, pos, unsigned_abs, to_z, of_z}
use Rattle.std.specs.Int.{w128}
use Rattle.std.proofs.lemmas.Int.{ints}
use Rattle.sketch_countmin.specs.Values.{halved}
use Rattle.sketch_countmin.proofs.Numbers.{whole_is, quotient_is}
use Rattle.sketch_countmin.proofs.unsigned_count_min_value.UnsignedCountMinValue.halve.Given as given
use Rattle.sketch_countmin.proofs.unsigned_count_min_value.UnsignedCountMinValue.halve.Goals as goal
use Rattle.sketch_countmin.proofs.unsigned_count_min_value.UnsignedCountMinValue.halve.Goals.{After-to_number}

-- the value is a number of 64 bits
abbrev size : (g : given.Over) → After-to_number g → ℕ
size g c = unsigned_abs (g.Self.CountMinValue.number c.args.self)

own : (g : given.Over) (c : After-to_number g) → g.Self.CountMinValue.number c.args.self ≡ pos (size g c)
own g c = omega (arith, ints, g.met.Self.UnsignedCountMinValue.unsigned c.args.self)

small : (g : given.Over) (c : After-to_number g) → size g c < 2 ^ 64
small g c = omega (arith, ints, c.to_number.ensures.value, c.to_number.ensures.narrow)

whole : (g : given.Over) (c : After-to_number g) → to_z w128 (of_z w128 c.to_number.result) ≡ pos (size g c)
whole g c = whole_is c.to_number.result (size g c) (c.to_number.ensures.value ∙ own g c) (small g c)

-- and so is its half
half : (g : given.Over) (c : After-to_number g) → to_z w128 (size g c / 2) ≡ pos (size g c / 2)
half g c = quotient_is (size g c / 2) (omega (arith, small g c))

pub returns : goal.returns
returns g c =
    let now = (goal.at.returns g c).After-to_number in
    c.from_number_in_range.ensures ∙ rw (whole g now) (half g now ∙ ap halved (sym (own g now)))

pub from_number_in_range-requires : goal.from_number_in_range-requires
from_number_in_range-requires g c =
    let high : size g c ≤ g.Self.CountMinValue.greatest = omega (arith, ints, own g c, c.to_number.ensures.in_range.1) in
    rw (whole g c) (rw (half g c) (omega (arith, ints, g.met.Self.CountMinValue.zero_fits), omega (arith, ints, high)))

pub overflow_cast-half : goal.overflow_cast-half
overflow_cast-half g c = rw (whole g c) (tt, record { fits = omega (arith, small g c) })
