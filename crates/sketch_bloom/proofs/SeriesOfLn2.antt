-- Bounds on the natural logarithm of 2 by its series.
use Rattle.std.proofs.Common.{ℕ, zero, suc, ◌+◌, ◌*◌, ◌<◌, ◌≤◌, arith, refl}
use Rattle.std.proofs.lemmas.Bool.{leb-true}
use Rattle.std.proofs.lemmas.Nat.{mul-le}
use Rattle.sketch_base.proofs.Series.{IsSeries, below_all}
use Rattle.sketch_bloom.specs.Sizes.{factorial, denominator, sum_to_ln2}

-- the sums of the series: after sum k come less than 1/2^k
series : (from : ℕ) → IsSeries from sum_to_ln2 factorial denominator (λ k. 2 * suc k)
series from = record {
  positive = λ k. omega arith;
  denominators = λ k. refl;
  sums = λ k. omega arith;
  rests = λ k le. omega (arith, mul-le 1 (factorial k) (suc k) (factorial k) (omega arith) (omega arith));
}

-- a fraction above one sum and 1/2^k is above every sum
all_below : (p q k j : ℕ) → (sum_to_ln2 k + factorial k) * q ≤ p * denominator k → sum_to_ln2 j * q ≤ p * denominator j
all_below p q k j h = below_all k sum_to_ln2 factorial denominator (λ k. 2 * suc k) (series k) p q h j

-- one fraction is below a sum, and the other above each
pub fraction_below : 5339223998540 * denominator 91 ≤ sum_to_ln2 91 * 7702871984889
fraction_below = leb-true _ _ refl

pub fraction_above : (j : ℕ) → sum_to_ln2 j * 16413504057361 ≤ 11376974060469 * denominator j
fraction_above j = all_below 11376974060469 16413504057361 91 j (leb-true _ _ refl)

pub positive_denominator : (k : ℕ) → 0 < denominator k
positive_denominator zero = omega arith
positive_denominator (suc k) = omega (arith, mul-le 1 1 (2 * suc k) (denominator k) (omega arith) (positive_denominator k))
