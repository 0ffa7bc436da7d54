-- Bounds on e by its series.
use Rattle.std.proofs.Common.{◌≡◌, ℕ, suc, ◌+◌, ◌*◌, ◌≤◌, arith, refl}
use Rattle.sketch_base.proofs.Series.{IsSeries, below_all}
use Rattle.sketch_countmin.specs.Sizes.{factorial, sum_to_e}

-- the sums of the series: after sum k, for k from 1 on, comes less than its last term
series : (k : ℕ) → 1 ≤ k → IsSeries k sum_to_e (λ _. 1) factorial suc
series k some = record {
  positive = λ n. omega arith;
  denominators = λ n. refl;
  sums = λ n. omega arith;
  rests = λ n le. omega (arith, some, le);
}

-- a fraction above one sum and its last term is above every sum
pub all_below : (p q k j : ℕ) → 1 ≤ k → (sum_to_e k + 1) * q ≤ p * factorial k → sum_to_e j * q ≤ p * factorial j
all_below p q k j some h = below_all k sum_to_e (λ _. 1) factorial suc (series k some) p q h j

-- the sum up to 1/25! and its denominator, 25!
abbrev pub numerator : ℕ
numerator = 42163840398198058854693626

abbrev pub denominator : ℕ
denominator = 15511210043330985984000000

pub sum_at_25 : sum_to_e 25 ≡ numerator
sum_at_25 = refl

pub factorial_of_25 : factorial 25 ≡ denominator
factorial_of_25 = refl
