-- The numbers of buckets and hashes by the formulas of Cormode & Muthukrishnan 2005. e is given by its series: it is
-- the supremum of the sums 1/0! + 1/1! + .. + 1/k!, and above each of them.
use Rattle.std.specs.Prelude.{ℕ, zero, suc, ◌+◌, ◌*◌, ◌^◌, ◌≤◌}

-- k!
abbrev pub factorial : ℕ → ℕ
factorial zero = 1
factorial (suc k) = suc k * factorial k

-- the sum up to 1/k!, multiplied by k!
abbrev pub sum_to_e : ℕ → ℕ
sum_to_e zero = 1
sum_to_e (suc k) = suc k * sum_to_e k + 1

-- e * n is at most m: each sum times n is
abbrev pub IsETimesWithin : (n m : ℕ) → Type 0
IsETimesWithin n m = (k : ℕ) → sum_to_e k * n ≤ m * factorial k

-- n is at most e to the power of k: some sum to that power is at least n
abbrev pub IsWithinPowerOfE : (n k : ℕ) → Type 0
IsWithinPowerOfE n k = (j : ℕ) × (n * factorial j ^ k ≤ sum_to_e j ^ k)
