-- Powers of two, by the test for one bit.
use Rattle.std.proofs.Common.{◌≡◌, ℕ, zero, suc, ◌*◌, ◌/◌, ◌%◌, ◌<◌, ◌≤◌, ◌^◌, ap, sym, subst, arith, refl}
use Rattle.std.specs.Prelude.{IsTrue, count_ones, min, ◌==◌}
use Rattle.std.proofs.lemmas.Bool.{cases_lt, eqb-true}
use Rattle.std.proofs.lemmas.Nat.{zero_from_ones}
use Rattle.std.specs.Int.{is_power_of_two}
use lib.Count.{ones, ones_in, ones_step}
use Rattle.sketch_base.specs.PowersOfTwo.{pow_twice}
use Rattle.sketch_frequencies.proofs.Cases.{by_cases}

-- from 2 on a power of two is twice another
pub halves : (n : ℕ) → IsTrue (is_power_of_two n) → 2 ≤ n → (n ≡ 2 * (n / 2)) × IsTrue (is_power_of_two (n / 2))
halves n power least =
    let one : count_ones n ≡ 1 = eqb-true (count_ones n) 1 power in
    by_cases (cases_lt 0 (n % 2))
    (λ odd.
    let none : count_ones (n / 2) ≡ 0 = omega (arith, ones_step n, one, odd) in
    absurd (omega (arith, zero_from_ones (n / 2) none, least)))
    (λ even.
    let same : count_ones (n / 2) ≡ count_ones n = omega (arith, ones_step n, even) in
    (omega (arith, even), subst (λ (k : ℕ). IsTrue (k == 1)) (sym same) power))

-- twice a power of two is one
pub power_twice : (n : ℕ) → IsTrue (is_power_of_two n) → IsTrue (is_power_of_two (2 * n))
power_twice n h =
    let half : 2 * n / 2 ≡ n = omega arith in
    let even : 2 * n % 2 ≡ 0 = omega arith in
    let same : count_ones (2 * n) ≡ count_ones n = omega (arith, ones_step (2 * n), even, ap count_ones half) in
    subst (λ (k : ℕ). IsTrue (k == 1)) (sym same) h

-- below a power of two, a smaller one may double
doubled_within : (d s m : ℕ) → m ≤ d → IsTrue (is_power_of_two s) → IsTrue (is_power_of_two m) → s < m → 2 * s ≤ m
doubled_within zero s m near p q below = absurd (omega (arith, near, below))
doubled_within (suc d) s m near p q below =
    by_cases (cases_lt s 2)
    (λ small. omega (arith, small, below))
    (λ large.
    let a = halves s p large in
    let b = halves m q (omega (arith, large, below)) in
    omega (arith, a.0, b.0, doubled_within d (s / 2) (m / 2) (omega (arith, near, b.0, large, below)) a.1 b.1 (omega (arith, a.0, b.0, below))))

pub doubled_fits : (s m : ℕ) → IsTrue (is_power_of_two s) → IsTrue (is_power_of_two m) → s < m → 2 * s ≤ m
doubled_fits s m = doubled_within m s m (omega arith)

-- the lesser of two is one
pub lesser_power : (m n : ℕ) → IsTrue (is_power_of_two m) → IsTrue (is_power_of_two n) → IsTrue (is_power_of_two (min m n))
lesser_power m n p q =
    by_cases (cases_lt m n)
    (λ below. let same : m ≡ min m n = omega (arith, below) in subst (λ (k : ℕ). IsTrue (is_power_of_two k)) same p)
    (λ above. let same : n ≡ min m n = omega (arith, above) in subst (λ (k : ℕ). IsTrue (is_power_of_two k)) same q)

-- the size that a table begins with
pub eight_is_power : IsTrue (is_power_of_two 8)
unfolding ones ones_in
eight_is_power = refl

-- a power of two is one by the test
pub power_is : (k : ℕ) → IsTrue (is_power_of_two (2 ^ k))
unfolding ones ones_in
power_is zero = refl
power_is (suc k) = subst (λ (n : ℕ). IsTrue (is_power_of_two n)) (sym (pow_twice k)) (power_twice (2 ^ k) (power_is k))
