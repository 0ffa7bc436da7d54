-- A number with exactly one bit set is a power of two, and its mask computes remainders.
use Rattle.std.proofs.Common.{◌≡◌, ℕ, zero, suc, ◌-◌, ◌*◌, ◌/◌, ◌%◌, ◌<◌, ◌^◌, inl, inr, ap, sym, ◌∙◌, arith, bit_and}
use Rattle.std.specs.Prelude.{IsTrue, count_ones}
use Rattle.std.proofs.lemmas.Bool.{cases_lt, eqb-true}
use Rattle.std.proofs.lemmas.Nat.{zero_from_ones, and_mask}
use Rattle.std.specs.Int.{is_power_of_two, IsPowerOfTwo}
use lib.Count.{ones_step, ones-le}

-- a power of two is twice the one before it
pub pow_twice : (k : ℕ) → 2 ^ (suc k) ≡ 2 * 2 ^ k
pow_twice k = grind arith

-- a number is below 2 to its own power
below_pow : (n : ℕ) → n < 2 ^ n
below_pow zero = omega arith
below_pow (suc n) = omega (arith, below_pow n, pow_twice n)

-- a number below 2^d with one bit set is a power of two
power_from_ones : (d n : ℕ) → n < 2 ^ d → count_ones n ≡ 1 → IsPowerOfTwo n
power_from_ones zero n h one = absurd (omega (arith, ones-le zero n h, one))
power_from_ones (suc d) n h one = elim (cases_lt 0 (n % 2)) [
  | inl odd ↦
      let none : count_ones (n / 2) ≡ 0 = omega (arith, ones_step n, one, odd) in
      (0, omega (arith, zero_from_ones (n / 2) none, odd))
  | inr even ↦
      let half = power_from_ones d (n / 2) (omega (arith, h, pow_twice d)) (omega (arith, ones_step n, one, even)) in
      (suc half.0, omega (arith, half.1, pow_twice half.0, even))
]

-- what the test accepts is a power of two
pub power_of : (n : ℕ) → IsTrue (is_power_of_two n) → IsPowerOfTwo n
power_of n h = power_from_ones n n (below_pow n) (eqb-true (count_ones n) 1 h)

-- a mask computes the remainder by a power of two
pub masked_remainder : (a n : ℕ) → IsTrue (is_power_of_two n) → bit_and a (n - 1) ≡ a % n
masked_remainder a n h =
    let k = power_of n h in
    let e : n - 1 ≡ 2 ^ k.0 - 1 = ap (λ m. m - 1) k.1 in
    ap (bit_and a) e ∙ and_mask a k.0 ∙ ap (λ m. a % m) (sym k.1)
