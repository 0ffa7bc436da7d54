-- The nearest number that a cell may be.
use Rattle.std.proofs.Common.{◌≡◌, ℕ, ◌<◌, ◌≤◌, ◌^◌, Bool, true, false, cond, ℤ, pos, unsigned_abs, to_z, of_z, sym, ap, subst, ◌∙◌, arith}
use Rattle.std.specs.Prelude.{◌≤ℤ◌, ◌-ℤ◌, int_lt}
use Rattle.std.specs.Int.{w128, int_min, int_max}
use mir.Val.{SFits}
use Rattle.std.proofs.lemmas.Int.{ints, clamps, to_z-of_z}
use Rattle.sketch_countmin.specs.Values.{InRange}
use Rattle.sketch_countmin.specs.View.{nearest}
use Rattle.sketch_countmin.proofs.Numbers.{small_fits}

-- it is in the range of the type
pub nearest_in_range : (least : ℤ) (greatest total : ℕ) (z : ℤ) → least ≤ℤ pos 0 → total ≤ greatest → InRange least greatest (nearest least total z)
nearest_in_range least greatest total z low high = (omega (arith, ints, clamps), omega (arith, ints, clamps))

-- and no further from zero than the total
pub nearest_bounded : (least : ℤ) (total : ℕ) (z : ℤ) → least ≤ℤ pos 0 → unsigned_abs (nearest least total z) ≤ total
nearest_bounded least total z low = omega (arith, ints, clamps)

-- a number that passes is nearest to itself
pub nearest_self : (least : ℤ) (total : ℕ) (z : ℤ) → least ≤ℤ z → unsigned_abs z ≤ total → nearest least total z ≡ z
nearest_self least total z low within = omega (arith, ints, clamps)

-- ---- as the code computes it

-- one of two numbers that fit
either_fits : (b : Bool) (x y : ℤ) → SFits w128 x → SFits w128 y → SFits w128 (cond b x y)
either_fits true x y fx fy = fx
either_fits false x y fx fy = fy

-- what the code computes
pub nearest_is : (least n most minimum low lesser greater : ℤ) (total : ℕ) → most ≡ pos total → total < 2 ^ 64 → minimum ≡ least → unsigned_abs minimum < 2 ^ 64 → SFits w128 n
    → low ≡ int_max (to_z w128 (of_z w128 minimum)) (to_z w128 (of_z w128 (pos 0 -ℤ to_z w128 (of_z w128 most))))
    → lesser ≡ int_min (to_z w128 (of_z w128 n)) (to_z w128 (of_z w128 most))
    → greater ≡ int_max (to_z w128 (of_z w128 lesser)) (to_z w128 (of_z w128 low))
    → to_z w128 (of_z w128 greater) ≡ nearest least total n
nearest_is least n most minimum low lesser greater total most_is small minimum_is narrow fits low_is lesser_is greater_is =
    let whole = λ (z : ℤ) (f : SFits w128 z). to_z-of_z w128 z f in
    let most_fits : SFits w128 most = small_fits most (omega (arith, ints, most_is, small)) in
    let most_whole : to_z w128 (of_z w128 most) ≡ pos total = whole most most_fits ∙ most_is in
    let minus : ℤ = pos 0 -ℤ to_z w128 (of_z w128 most) in
    let minus_is : minus ≡ pos 0 -ℤ pos total = ap (λ (z : ℤ). pos 0 -ℤ z) most_whole in
    let minus_fits : SFits w128 minus = small_fits minus (omega (arith, ints, minus_is, small)) in
    let low_value : low ≡ int_max least (pos 0 -ℤ pos total) = low_is ∙ (λ i. int_max ((whole minimum (small_fits minimum (omega (arith, narrow))) ∙ minimum_is) i) ((whole minus minus_fits ∙ minus_is) i)) in
    let low_fits : SFits w128 low = small_fits low (omega (arith, ints, clamps, low_value, small, narrow, minimum_is)) in
    let lesser_value : lesser ≡ int_min n (pos total) = lesser_is ∙ (λ i. int_min (whole n fits i) (most_whole i)) in
    let lesser_fits : SFits w128 lesser = subst (λ (z : ℤ). SFits w128 z) (sym lesser_value) (either_fits (int_lt (pos total) n) (pos total) n (small_fits (pos total) (omega (arith, ints, small))) fits) in
    let greater_value : greater ≡ int_max (int_min n (pos total)) (int_max least (pos 0 -ℤ pos total)) = greater_is ∙ (λ i. int_max ((whole lesser lesser_fits ∙ lesser_value) i) ((whole low low_fits ∙ low_value) i)) in
    let greater_fits : SFits w128 greater = subst (λ (z : ℤ). SFits w128 z) (sym (greater_is ∙ (λ i. int_max (whole lesser lesser_fits i) (whole low low_fits i)))) (either_fits (int_lt low lesser) lesser low lesser_fits low_fits) in
    whole greater greater_fits ∙ (greater_value ∙ omega (arith, ints, clamps))
