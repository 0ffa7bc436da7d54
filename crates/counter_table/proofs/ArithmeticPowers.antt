-- What a power of two, by the test for one bit, is to sizes of tables.
use Rattle.std.proofs.Common.{◌≡◌, ℕ, suc, ◌*◌, ◌<◌, ◌≤◌, ◌^◌, inl, inr, arith}
use Rattle.std.specs.Prelude.{IsTrue}
use Rattle.std.proofs.Math.Pow.{pow_mono}
use Rattle.std.proofs.lemmas.Bool.{cases_lt}
use Rattle.std.proofs.lemmas.Nat.{pow_pos}
use Rattle.std.specs.Int.{is_power_of_two}
use Rattle.sketch_base.specs.PowersOfTwo.{power_of, pow_twice}

-- it is not 0
pub power_positive : (n : ℕ) → IsTrue (is_power_of_two n) → 0 < n
power_positive n h = let a = power_of n h in omega (arith, a.1, pow_pos a.0)

-- the greatest power of two in a power of two is itself
pub max_power : (n r : ℕ) → IsTrue (is_power_of_two n) → 2 ^ r ≤ n → n < 2 * 2 ^ r → 2 ^ r ≡ n
max_power n r p low high =
    let a = power_of n p in
    elim (cases_lt r a.0) [
      | inl below ↦ let up : 2 ^ suc r ≤ 2 ^ a.0 = pow_mono (omega (arith, below)) in absurd (omega (arith, up, a.1, high, pow_twice r))
      | inr above ↦ let down : 2 ^ a.0 ≤ 2 ^ r = pow_mono above in omega (arith, down, a.1, low)
    ]
