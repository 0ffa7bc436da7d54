use Rattle.std.proofs.Common.{arith, ap, ◌∙◌, ◌≡◌, ◌-◌, ◌<◌, ◌^◌, pos, unsigned_abs, to_z, of_z}
use Rattle.std.specs.Prelude.{◌-ℤ◌}
use Rattle.std.specs.Int.{w128}
use Rattle.std.proofs.lemmas.Int.{ints}
use Rattle.sketch_countmin.specs.State.{CountState}
use Rattle.sketch_countmin.proofs.Numbers.{room_left, room_fits}
use Rattle.sketch_countmin.proofs.count_min_sketch.CountMinSketch.room.Given as given
use Rattle.sketch_countmin.proofs.count_min_sketch.CountMinSketch.room.Goals as goal
use Rattle.sketch_countmin.proofs.count_min_sketch.CountMinSketch.room.Goals.{After-to_number-2}

-- the greatest number is one of 64 bits
top : (g : given.Over) (c : After-to_number-2 g) → c.to_number.result ≡ pos g.T.CountMinValue.greatest
top g c = c.to_number.ensures.value ∙ (ap g.T.CountMinValue.number c.MAX.ensures ∙ g.met.T.CountMinValue.max_is)

small : (g : given.Over) (c : After-to_number-2 g) → g.T.CountMinValue.greatest < 2 ^ 64
small g c = omega (arith, ints, top g c, c.to_number.ensures.narrow)

-- what is left of it is its difference from the total
left : (g : given.Over) (c : After-to_number-2 g) → to_z w128 (of_z w128 (to_z w128 (of_z w128 c.to_number.result) -ℤ to_z w128 (of_z w128 c.to_number-2.result))) ≡ pos (g.T.CountMinValue.greatest - unsigned_abs (g.T.CountMinValue.number c.self.inside.total))
left g c = room_left c.to_number.result c.to_number-2.result g.T.CountMinValue.greatest (unsigned_abs (g.T.CountMinValue.number c.self.inside.total)) (top g c) (c.to_number-2.ensures.value ∙ c.self.invariant.total_is) (small g c) c.self.invariant.fits

pub overflow_sub-result : goal.overflow_sub-result
overflow_sub-result g c = room_fits c.to_number.result c.to_number-2.result g.T.CountMinValue.greatest (unsigned_abs (g.T.CountMinValue.number c.self.inside.total)) (top g c) (c.to_number-2.ensures.value ∙ c.self.invariant.total_is) (small g c) c.self.invariant.fits

pub overflow_cast-result : goal.overflow_cast-result
overflow_cast-result g c = rw (left g c) (tt, record { fits = omega (arith, small g c) })

pub returns : goal.returns
returns g c =
    let own : unsigned_abs (g.T.CountMinValue.number c.self.inside.total) ≡ c.args.self.now.total = ap (λ (s : CountState). s.total) c.self.view_is in
    rw (left g c) (omega (arith, own, c.self.invariant.fits))
