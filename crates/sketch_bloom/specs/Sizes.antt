-- The numbers of bits and hashes by the standard formulas for Bloom filters (Bloom 1970). ln 2 is given by its series:
-- it is the supremum of the sums 1/(1 * 2) + 1/(2 * 4) + .. + 1/(k * 2^k), and above each of them.
use Rattle.std.specs.Prelude.{ℕ, zero, suc, ◌+◌, ◌*◌, ◌^◌, ◌≤◌}

-- k!
abbrev pub factorial : ℕ → ℕ
factorial zero = 1
factorial (suc k) = suc k * factorial k

-- k! * 2^k
abbrev pub denominator : ℕ → ℕ
denominator zero = 1
denominator (suc k) = 2 * suc k * denominator k

-- the sum up to 1/(k * 2^k), multiplied by k! * 2^k
abbrev pub sum_to_ln2 : ℕ → ℕ
sum_to_ln2 zero = 0
sum_to_ln2 (suc k) = 2 * suc k * sum_to_ln2 k + factorial k

-- n * ln 2 is at most m: n times each sum is
abbrev pub IsLn2TimesWithin : (n m : ℕ) → Type 0
IsLn2TimesWithin n m = (k : ℕ) → sum_to_ln2 k * n ≤ m * denominator k

-- n is at most m * ln 2: m times some sum is at least n
abbrev pub IsWithinLn2Times : (n m : ℕ) → Type 0
IsWithinLn2Times n m = (k : ℕ) × (n * denominator k ≤ sum_to_ln2 k * m)

-- the bits are at least those of the formula: items * ln n is at most bits * (ln 2)^2, so n^items is at most
-- 2^(bits * ln 2); some sum in index of ln 2 suffices
abbrev pub AreEnoughBits : (items n bits : ℕ) → Type 0
AreEnoughBits items n bits = (k : ℕ) × (n ^ (items * denominator k) ≤ 2 ^ (sum_to_ln2 k * bits))

-- the same with the binary logarithm of n rounded up to some t / 64
abbrev pub AreEnoughBitsRounded : (items n bits : ℕ) → Type 0
AreEnoughBitsRounded items n bits = (t : ℕ) × (n ^ 64 ≤ 2 ^ t) × IsWithinLn2Times (items * t) (64 * bits)
