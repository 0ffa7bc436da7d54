use Rattle.std.proofs.Common.{arith, ap, subst, ◌∙◌, sym, ◌≡◌, ℕ, ◌*◌, ◌/◌, ◌<◌, ◌≤◌, ◌^◌, ℤ, pos, ◌+ℤ◌, unsigned_abs, to_z, of_z}
use Rattle.std.specs.Prelude.{◌≤ℤ◌}
use Rattle.std.specs.Int.{w128}
use Rattle.std.proofs.Math.Nat.{div-le_self}
use Rattle.std.proofs.lemmas.Int.{ints}
use Rattle.sketch_countmin.specs.Values.{InRange}
use Rattle.sketch_countmin.proofs.Estimates.{min_below, min_above}
use Rattle.sketch_countmin.proofs.Numbers.{whole_is, gain_fits}
use Rattle.sketch_countmin.proofs.margin.with_margin.Given as given
use Rattle.sketch_countmin.proofs.margin.with_margin.Goals as goal
use Rattle.sketch_countmin.proofs.margin.with_margin.Goals.{After-from_number, After-to_number}

-- what the code computes, without the casts
sum_is : (x y : ℤ) (t d : ℕ) → x ≡ pos t → unsigned_abs x < 2 ^ 64 → unsigned_abs y < 2 ^ 64
    → to_z w128 (of_z w128 (to_z w128 (of_z w128 y) +ℤ to_z w128 (unsigned_abs (to_z w128 (of_z w128 x)) * 2718281828459045235 / d))) ≡ y +ℤ pos (t * 2718281828459045235 / d)
sum_is x y t d total small narrow =
    let whole : unsigned_abs (to_z w128 (of_z w128 x)) ≡ t = omega (arith, ints, total, small) in
    let fits : t < 2 ^ 64 = omega (arith, ints, total, small) in
    let q : ℕ = t * 2718281828459045235 / d in
    let below : q ≤ t * 2718281828459045235 = div-le_self (t * 2718281828459045235) d in
    let plain : to_z w128 (of_z w128 (to_z w128 (of_z w128 y) +ℤ to_z w128 q)) ≡ y +ℤ pos q = omega (arith, ints, below, fits, narrow) in
    ap (λ (n : ℕ). to_z w128 (of_z w128 (to_z w128 (of_z w128 y) +ℤ to_z w128 (n * 2718281828459045235 / d)))) whole ∙ plain

-- and the sum is that of the estimate and the margin
sum : (g : given.Over) (c : After-from_number g)
    → to_z w128 (of_z w128 (to_z w128 (of_z w128 c.to_number-2.result) +ℤ to_z w128 (unsigned_abs (to_z w128 (of_z w128 c.to_number.result)) * 2718281828459045235 / (1000000000000000000 * c.divisor.result))))
    ≡ g.T.CountMinValue.number c.args.estimate +ℤ pos (unsigned_abs (g.T.CountMinValue.number c.args.total) * 2718281828459045235 / (1000000000000000000 * c.args.buckets))
sum g c =
    let total : ℕ = unsigned_abs (g.T.CountMinValue.number c.args.total) in
    sum_is c.to_number.result c.to_number-2.result total (1000000000000000000 * c.divisor.result) (c.to_number.ensures.value ∙ c.requires) c.to_number.ensures.narrow c.to_number-2.ensures.narrow
    ∙ (ap (λ (n : ℕ). c.to_number-2.result +ℤ pos n) (ap (λ (d : ℕ). total * 2718281828459045235 / (1000000000000000000 * d)) c.divisor.ensures.value)
    ∙ ap (λ (z : ℤ). z +ℤ pos (total * 2718281828459045235 / (1000000000000000000 * c.args.buckets))) c.to_number-2.ensures.value)

pub returns-in-Some : goal.returns-in-Some
returns-in-Some g c =
    let now = (goal.at.returns-in-Some g c).After-from_number in
    min_below (g.T.CountMinValue.number c.in-Some.value) _ (pos g.T.CountMinValue.greatest) (c.in-Some.ensures.0 ∙ sum g now)
    (subst (λ (z : ℤ). z ≤ℤ pos g.T.CountMinValue.greatest) (sym c.in-Some.ensures.0) c.in-Some.ensures.1.1)

pub returns-in-None : goal.returns-in-None
returns-in-None g c =
    let now = (goal.at.returns-in-None g c).After-from_number in
    let bound : ℤ = g.T.CountMinValue.number c.args.estimate +ℤ pos (unsigned_abs (g.T.CountMinValue.number c.args.total) * 2718281828459045235 / (1000000000000000000 * c.args.buckets)) in
    let low : g.T.CountMinValue.least ≤ℤ bound = omega (arith, ints, c.to_number-2.ensures.in_range.0, c.to_number-2.ensures.value) in
    ap g.T.CountMinValue.number c.MAX.ensures ∙ (g.met.T.CountMinValue.max_is
    ∙ min_above g.T.CountMinValue.least bound g.T.CountMinValue.greatest low (λ fits. c.in-None.ensures (subst (λ (z : ℤ). InRange g.T.CountMinValue.least g.T.CountMinValue.greatest z) (sym (sum g now)) fits)))

-- the total is a number of 64 bits
small : (g : given.Over) (c : After-to_number g) → unsigned_abs (g.T.CountMinValue.number c.args.total) < 2 ^ 64
small g c = omega (arith, ints, c.to_number.ensures.value, c.to_number.ensures.narrow)

whole : (g : given.Over) (c : After-to_number g) → to_z w128 (of_z w128 c.to_number.result) ≡ pos (unsigned_abs (g.T.CountMinValue.number c.args.total))
whole g c = whole_is c.to_number.result _ (c.to_number.ensures.value ∙ c.requires) (small g c)

-- and the margin one of 126
margin_fits : (g : given.Over) (c : After-to_number g) → unsigned_abs (g.T.CountMinValue.number c.args.total) * 2718281828459045235 / (1000000000000000000 * c.divisor.result) < 2 ^ 126
margin_fits g c = omega (arith, small g c, div-le_self (unsigned_abs (g.T.CountMinValue.number c.args.total) * 2718281828459045235) (1000000000000000000 * c.divisor.result))

pub overflow_add-bound : goal.overflow_add-bound
overflow_add-bound g c =
    let now = (goal.at.overflow_add-bound g c).After-to_number in
    rw (whole g now) (gain_fits c.to_number-2.result _ c.to_number-2.ensures.narrow (margin_fits g now))

pub overflow_cast-bound : goal.overflow_cast-bound
overflow_cast-bound g c =
    let now = (goal.at.overflow_cast-bound g c).After-to_number in
    rw (whole g now) (record { sfits = omega (arith, margin_fits g now) })

pub overflow_cast-margin : goal.overflow_cast-margin
overflow_cast-margin g c = rw (whole g c) (tt, record { fits = omega (arith, small g c) })

pub overflow_mul-margin : goal.overflow_mul-margin
overflow_mul-margin g c = rw (whole g c) (record { fits = omega (arith, small g c) })
