-- As many hashes as the formula asks for, and no more.
use Rattle.std.proofs.Common.{◌≡◌, ℕ, ◌+◌, ◌*◌, ◌<◌, ◌≤◌, inl, inr, ap, arith}
use Rattle.std.proofs.Math.Nat.{le_of_mul-le-mul_right}
use Rattle.std.specs.Int.{div_ceil}
use Rattle.std.proofs.lemmas.Bool.{cases_lt}
use Rattle.std.proofs.lemmas.Grind.{div_ceil_times}
use Rattle.std.proofs.lemmas.Nat.{mul-le}
use Rattle.sketch_bloom.specs.Sizes.{denominator, sum_to_ln2, IsLn2TimesWithin}
use Rattle.sketch_bloom.proofs.SeriesOfLn2.{fraction_below, fraction_above, positive_denominator}

-- n times the fraction above is at least n times ln 2
times_enough : (n c : ℕ) → c ≡ div_ceil (n * 11376974060469) 16413504057361 → IsLn2TimesWithin n c
times_enough n c e j =
    let s : ℕ = sum_to_ln2 j in
    let d : ℕ = denominator j in
    let up : n * 11376974060469 ≤ c * 16413504057361 = omega (arith, e, (div_ceil_times (n * 11376974060469) 16413504057361 (omega arith)).0) in
    let one : n * (s * 16413504057361) ≤ n * (11376974060469 * d) = mul-le n (s * 16413504057361) n (11376974060469 * d) (omega arith) (fraction_above j) in
    let two : n * 11376974060469 * d ≤ c * 16413504057361 * d = mul-le (n * 11376974060469) d (c * 16413504057361) d up (omega arith) in
    let all : s * n * 16413504057361 ≤ c * d * 16413504057361 = omega (arith, one, two) in
    le_of_mul-le-mul_right all (omega arith)

-- what n times ln 2 is at most is at least n times the fraction below
above_fraction : (n m : ℕ) → IsLn2TimesWithin n m → 5339223998540 * n ≤ 7702871984889 * m
above_fraction n m within =
    let s : ℕ = sum_to_ln2 91 in
    let d : ℕ = denominator 91 in
    let h : s * n ≤ m * d = within 91 in
    let one : 5339223998540 * d * n ≤ s * 7702871984889 * n = mul-le (5339223998540 * d) n (s * 7702871984889) n fraction_below (omega arith) in
    let two : s * n * 7702871984889 ≤ m * d * 7702871984889 = mul-le (s * n) 7702871984889 (m * d) 7702871984889 h (omega arith) in
    let all : 5339223998540 * n * d ≤ 7702871984889 * m * d = omega (arith, one, two) in
    le_of_mul-le-mul_right all (positive_denominator 91)

times_least : (n c m : ℕ) → n ≤ 137438953152 → c ≡ div_ceil (n * 11376974060469) 16413504057361 → IsLn2TimesWithin n m → c ≤ m
times_least n c m few e within =
    elim (cases_lt m c) [
      | inl less ↦
          let near : c * 16413504057361 < n * 11376974060469 + 16413504057361 = omega (arith, e, (div_ceil_times (n * 11376974060469) 16413504057361 (omega arith)).1) in
          absurd (omega (arith, less, near, above_fraction n m within, few))
      | inr done ↦ done
    ]

-- so many hashes, times the items, reach it
pub hashes_enough : (bits items c k : ℕ) → 0 < items → c ≡ div_ceil (bits * 11376974060469) 16413504057361 → k ≡ div_ceil c items → IsLn2TimesWithin bits (k * items)
hashes_enough bits items c k some e f j =
    let up : c ≤ k * items = omega (arith, ap (λ (x : ℕ). x * items) f, (div_ceil_times c items some).0) in
    let more : c * denominator j ≤ k * items * denominator j = mul-le c (denominator j) (k * items) (denominator j) up (omega arith) in
    omega (arith, times_enough bits c e j, more)

-- and fewer do not
pub hashes_least : (bits items c k m : ℕ) → 0 < items → bits ≤ 137438953152 → c ≡ div_ceil (bits * 11376974060469) 16413504057361 → k ≡ div_ceil c items → IsLn2TimesWithin bits (m * items) → k ≤ m
hashes_least bits items c k m some few e f within =
    let reached : c ≤ m * items = times_least bits c (m * items) few e within in
    elim (cases_lt m k) [
      | inl less ↦
          let near : k * items < c + items = omega (arith, ap (λ (x : ℕ). x * items) f, (div_ceil_times c items some).1) in
          let more : (m + 1) * items ≤ k * items = mul-le (m + 1) items k items (omega (arith, less)) (omega arith) in
          absurd (omega (arith, reached, near, more))
      | inr done ↦ done
    ]

-- no number of hashes reaches it for no items
pub none_for_none : (bits items m : ℕ) → 0 < bits → items ≡ 0 → IsLn2TimesWithin bits (m * items) → ⊥
none_for_none bits items m some none within =
    let one : sum_to_ln2 1 * bits ≤ m * items * denominator 1 = within 1 in
    let zero : m * items ≡ m * 0 = ap (λ (x : ℕ). m * x) none in
    absurd (omega (arith, one, some, zero))
