-- The fraction 438351041/161260336 is above e by so little that its products with small numbers, rounded up, are those of e.
use Rattle.std.proofs.Common.{◌≡◌, ℕ, ◌+◌, ◌*◌, ◌/◌, ◌<◌, ◌≤◌, inl, inr, ap, arith}
use Rattle.std.proofs.Math.Nat.{le_of_mul-le-mul_right, div-mul-le_self}
use Rattle.std.specs.Int.{div_ceil}
use Rattle.std.proofs.lemmas.Bool.{cases_lt}
use Rattle.std.proofs.lemmas.Nat.{mul-le}
use Rattle.std.proofs.lemmas.Grind.{div_ceil_times}
use Rattle.sketch_countmin.specs.Sizes.{factorial, sum_to_e, IsETimesWithin}
use Rattle.sketch_countmin.proofs.SeriesOfE.{all_below, sum_at_25, factorial_of_25}

-- it is above every sum
fraction_above : (j : ℕ) → sum_to_e j * 161260336 ≤ 438351041 * factorial j
fraction_above j =
    all_below 438351041 161260336 25 j (omega arith) (omega (arith, sum_at_25, factorial_of_25))

-- e times n is at most the product by it, rounded up
pub buckets_enough : (n b : ℕ) → b ≡ div_ceil (n * 438351041) 161260336 → IsETimesWithin n b
buckets_enough n b e j =
    let s : ℕ = sum_to_e j in
    let f : ℕ = factorial j in
    let up : n * 438351041 ≤ b * 161260336 = omega (arith, e, (div_ceil_times (n * 438351041) 161260336 (omega arith)).0) in
    let one : n * (s * 161260336) ≤ n * (438351041 * f) = mul-le n _ n _ (omega arith) (fraction_above j) in
    let two : n * 438351041 * f ≤ b * 161260336 * f = mul-le _ f _ f up (omega arith) in
    let all : s * n * 161260336 ≤ b * f * 161260336 = omega (arith, one, two) in
    le_of_mul-le-mul_right all (omega arith)

-- what e times n is at most is far enough above n
above_fraction : (n m : ℕ) → IsETimesWithin n m → 0 < n → 848456353 * n < 312129649 * m
above_fraction n m within some =
    let h : sum_to_e 25 * n ≤ m * factorial 25 = within 25 in
    omega (arith, h, sum_at_25, factorial_of_25, some)

-- so the product by it, rounded up, is the least
pub buckets_least : (n b m : ℕ) → 0 < n → n ≤ 395007541 → b ≡ div_ceil (n * 438351041) 161260336 → IsETimesWithin n m → b ≤ m
buckets_least n b m some few e within =
    let low : 848456353 * n < 312129649 * m = above_fraction n m within some in
    elim (cases_lt m b) [
      | inl less ↦
          let near : b * 161260336 < n * 438351041 + 161260336 = omega (arith, e, (div_ceil_times (n * 438351041) 161260336 (omega arith)).1) in
          absurd (omega (arith, less, near, low, few))
      | inr done ↦ done
    ]

-- and a greater number asks for too many
pub buckets_many : (n m : ℕ) → 395007541 < n → IsETimesWithin n m → 1073741824 ≤ m
buckets_many n m many within = omega (arith, above_fraction n m within (omega (arith, many)), many)

-- the fraction in upper bounds is below e, so that e times n being within the buckets bounds the margin
pub margin_within : (total buckets n : ℕ) → IsETimesWithin n buckets → n * (total * 2718281828459045235 / (1000000000000000000 * buckets)) ≤ total
margin_within total buckets n within =
    let h : sum_to_e 25 * n ≤ buckets * factorial 25 = within 25 in
    let below : 2718281828459045235 * n ≤ 1000000000000000000 * buckets = omega (arith, h, sum_at_25, factorial_of_25) in
    let scale : ℕ = 1000000000000000000 * buckets in
    let m : ℕ = total * 2718281828459045235 / scale in
    let whole : m * scale ≤ total * 2718281828459045235 = div-mul-le_self (total * 2718281828459045235) scale in
    let times : n * (m * scale) ≤ n * (total * 2718281828459045235) = mul-le n (m * scale) n (total * 2718281828459045235) (omega arith) whole in
    let more : total * (2718281828459045235 * n) ≤ total * scale = mul-le total (2718281828459045235 * n) total scale (omega arith) below in
    let all : n * m * scale ≤ total * scale = omega (arith, times, more) in
    elim (cases_lt 0 buckets) [
      | inl some ↦ le_of_mul-le-mul_right all (omega (arith, some))
      | inr none ↦
          let zero : n ≡ 0 = omega (arith, below, none) in
          let nothing : n * m ≡ 0 * m = ap (λ (x : ℕ). x * m) zero in
          omega (arith, nothing)
    ]
