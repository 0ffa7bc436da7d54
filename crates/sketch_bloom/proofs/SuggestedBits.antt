-- As many bits as the formula asks for, where the logarithm of the questions is rounded up to 64ths.
use Rattle.std.proofs.Common.{◌≡◌, ◌≢◌, ℕ, zero, suc, refl, ◌+◌, ◌*◌, ◌<◌, ◌≤◌, ◌^◌, inl, inr, ap, arith}
use Rattle.std.proofs.Math.Nat.{le_of_mul-le-mul_right, pow-le-pow_left, pow-lt-pow_left}
use Rattle.std.proofs.Math.Pow.{pow_mono}
use Rattle.std.specs.Int.{div_ceil}
use Rattle.std.proofs.lemmas.Bool.{cases_lt}
use Rattle.std.proofs.lemmas.Grind.{div_ceil_times}
use Rattle.std.proofs.lemmas.Nat.{mul-le}
use Rattle.sketch_bloom.specs.Sizes.{denominator, sum_to_ln2, IsWithinLn2Times, AreEnoughBits, AreEnoughBitsRounded}
use Rattle.sketch_bloom.proofs.Logarithms.{pow-pow}
use Rattle.sketch_bloom.proofs.SeriesOfLn2.{fraction_below, fraction_above, positive_denominator}

-- n over the fraction below ln 2, rounded up, is enough
reached : (n b : ℕ) → b ≡ div_ceil (n * 7702871984889) 341710335906560 → IsWithinLn2Times n (64 * b)
reached n b e =
    let s : ℕ = sum_to_ln2 91 in
    let d : ℕ = denominator 91 in
    let up : n * 7702871984889 ≤ b * 341710335906560 = omega (arith, e, (div_ceil_times (n * 7702871984889) 341710335906560 (omega arith)).0) in
    let one : n * 7702871984889 * d ≤ b * 341710335906560 * d = mul-le (n * 7702871984889) d (b * 341710335906560) d up (omega arith) in
    let two : 64 * b * (5339223998540 * d) ≤ 64 * b * (s * 7702871984889) = mul-le (64 * b) (5339223998540 * d) (64 * b) (s * 7702871984889) (omega arith) fraction_below in
    let all : n * d * 7702871984889 ≤ s * (64 * b) * 7702871984889 = omega (arith, one, two) in
    (91, le_of_mul-le-mul_right all (omega arith))

-- what is within m times ln 2 is within m times the fraction above
within_fraction : (n m : ℕ) → IsWithinLn2Times n m → 16413504057361 * n ≤ 11376974060469 * m
within_fraction n m within =
    let s : ℕ = sum_to_ln2 within.0 in
    let d : ℕ = denominator within.0 in
    let h : n * d ≤ s * m = within.1 in
    let one : n * d * 16413504057361 ≤ s * m * 16413504057361 = mul-le (n * d) 16413504057361 (s * m) 16413504057361 h (omega arith) in
    let two : s * 16413504057361 * m ≤ 11376974060469 * d * m = mul-le (s * 16413504057361) m (11376974060469 * d) m (fraction_above within.0) (omega arith) in
    let all : 16413504057361 * n * d ≤ 11376974060469 * m * d = omega (arith, one, two) in
    le_of_mul-le-mul_right all (positive_denominator within.0)

-- and of all that are enough it is the least
least_reached : (n b m : ℕ) → m ≤ 137438953152 → b ≡ div_ceil (n * 7702871984889) 341710335906560 → IsWithinLn2Times n (64 * m) → b ≤ m
least_reached n b m few e within =
    let high : 16413504057361 * n ≤ 11376974060469 * (64 * m) = within_fraction n (64 * m) within in
    elim (cases_lt m b) [
      | inl less ↦
          let near : b * 341710335906560 < n * 7702871984889 + 341710335906560 = omega (arith, e, (div_ceil_times (n * 7702871984889) 341710335906560 (omega arith)).1) in
          absurd (omega (arith, less, near, high, few))
      | inr done ↦ done
    ]

-- so by the logarithm, rounded up
pub bits_enough : (items n t b : ℕ) → n ^ 64 ≤ 2 ^ t → b ≡ div_ceil (items * t * 7702871984889) 341710335906560 → AreEnoughBitsRounded items n b
bits_enough items n t b log e = (t, log, reached (items * t) b e)

pub bits_least : (items n t b m : ℕ) → ((u : ℕ) → n ^ 64 ≤ 2 ^ u → t ≤ u) → b ≡ div_ceil (items * t * 7702871984889) 341710335906560 → m ≤ 137438953152 → AreEnoughBitsRounded items n m → b ≤ m
bits_least items n t b m least e few enough =
    let u : ℕ = enough.0 in
    let d : ℕ = denominator enough.2.0 in
    let less : items * t * d ≤ items * u * d = mul-le (items * t) d (items * u) d (mul-le items t items u (omega arith) (least u enough.1)) (omega arith) in
    least_reached (items * t) b m few e (enough.2.0, omega (arith, less, enough.2.1))

-- what is enough with the rounded logarithm is enough by the formula
pub bits_by_formula : (items n b : ℕ) → AreEnoughBitsRounded items n b → AreEnoughBits items n b
bits_by_formula items n b enough =
    let t : ℕ = enough.0 in
    let k : ℕ = enough.2.0 in
    let s : ℕ = sum_to_ln2 k in
    let d : ℕ = denominator k in
    let e : ℕ = items * d in
    let h : items * t * d ≤ s * (64 * b) = enough.2.1 in
    let logs : (n ^ 64) ^ e ≤ (2 ^ t) ^ e = pow-le-pow_left enough.1 e in
    let order : t * e ≤ s * b * 64 = omega (arith, h) in
    let up : 2 ^ (t * e) ≤ 2 ^ (s * b * 64) = pow_mono order in
    let turned : 64 * e ≡ e * 64 = omega arith in
    let same : n ^ (64 * e) ≡ n ^ (e * 64) = ap (λ (x : ℕ). n ^ x) turned in
    let all : (n ^ e) ^ 64 ≤ (2 ^ (s * b)) ^ 64 = omega (arith, logs, up, same, pow-pow n 64 e, pow-pow n e 64, pow-pow 2 t e, pow-pow 2 (s * b) 64) in
    elim (cases_lt (2 ^ (s * b)) (n ^ e)) [
      | inl less ↦
          let some : 64 ≢ zero = omega arith in
          let more : (2 ^ (s * b)) ^ 64 < (n ^ e) ^ 64 = pow-lt-pow_left less some in
          absurd (omega (arith, more, all))
      | inr done ↦ (k, done)
    ]

-- some bits are asked for where there are items and a question may be answered wrongly
log_positive : (n t : ℕ) → 1 < n → n ^ 64 ≤ 2 ^ t → 0 < t
log_positive n zero many log =
    let low : 2 ≤ n = omega (arith, many) in
    let two : 2 ^ 64 ≤ n ^ 64 = pow-le-pow_left low 64 in
    let one : 2 ^ 0 ≡ 1 = refl in
    absurd (omega (arith, two, one, log))
log_positive n (suc t) many log = omega arith

pub bits_positive : (items n t b : ℕ) → 0 < items → 1 < n → n ^ 64 ≤ 2 ^ t → b ≡ div_ceil (items * t * 7702871984889) 341710335906560 → 1 ≤ b
bits_positive items n t b some many log e =
    let product : 1 * 1 ≤ items * t = mul-le 1 1 items t some (log_positive n t many log) in
    omega (arith, product, e, (div_ceil_times (items * t * 7702871984889) 341710335906560 (omega arith)).0)
