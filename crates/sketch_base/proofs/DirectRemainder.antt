-- The remainder by a product and a subtraction is the remainder.
use Rattle.std.proofs.Common.{◌≡◌, ℕ, ◌+◌, ◌-◌, ◌*◌, ◌/◌, ◌%◌, ◌^◌, ◌<◌, ◌≤◌, sym, ap, ◌∙◌, min, inl, inr, arith}
use Rattle.std.proofs.Math.Nat.{min-eq_left, min-eq_right}
use Rattle.std.proofs.lemmas.Bool.{cases_lt}
use Rattle.std.proofs.lemmas.Nat.{div-add-mod', mod-mul-add, mul-le}

-- what the multiplier lacks: with it, the multiplier times the divisor is 2 ^ 64
lack : (m d : ℕ) → 0 < d → (2 ^ 64 - 1) / d ≡ m → (r : ℕ) × (m * d + r ≡ 2 ^ 64) × (r ≤ d)
lack m d pos e =
    let n : ℕ = 2 ^ 64 - 1 in
    let whole : m * d + n % d ≡ n = ap (λ (k : ℕ). k * d + n % d) (sym e) ∙ div-add-mod' n d in
    let less : n % d < d = omega arith in
    (n % d + 1, omega arith, omega arith)

-- the product with the multiplier, times the divisor, and what is lacking
multiplied : (k low m a d r : ℕ) → k * 2 ^ 64 + low ≡ a * m → m * d + r ≡ 2 ^ 64 → k * d * 2 ^ 64 + low * d + r * a ≡ a * 2 ^ 64
multiplied k low m a d r p q = omega (arith, ap (λ (n : ℕ). n * d) p, ap (λ (n : ℕ). n * a) q)

-- the upper half of the product is the quotient or one less
pub near_quotient : (a m d : ℕ) → 0 < d → a < 2 ^ 64 → (2 ^ 64 - 1) / d ≡ m → (a * m / 2 ^ 64 * d ≤ a) × (a - a * m / 2 ^ 64 * d < 2 * d)
near_quotient a m d pos fits e =
    let k : ℕ = a * m / 2 ^ 64 in
    let low : ℕ = a * m % 2 ^ 64 in
    let over : (r : ℕ) × (m * d + r ≡ 2 ^ 64) × (r ≤ d) = lack m d pos e in
    let r : ℕ = over.0 in
    let all : k * d * 2 ^ 64 + low * d + r * a ≡ a * 2 ^ 64 = multiplied k low m a d r (div-add-mod' (a * m) (2 ^ 64)) over.1 in
    let below : low < 2 ^ 64 = omega arith in
    let one : low * d < d * 2 ^ 64 = omega (arith, mul-le (low + 1) d (2 ^ 64) d (omega arith) (omega arith)) in
    let two : r * a ≤ d * 2 ^ 64 = omega (arith, mul-le r a d (2 ^ 64) over.2 (omega arith)) in
    (omega arith, omega arith)

-- what is left of a number after so many divisors is the remainder, if it is below the divisor
remainder_is : (a d k : ℕ) → k * d ≤ a → a - k * d < d → a - k * d ≡ a % d
remainder_is a d k le lt =
    let rest : a ≡ k * d + (a - k * d) = omega arith in
    sym (ap (λ (n : ℕ). n % d) rest ∙ mod-mul-add k d (a - k * d) lt)

-- and the same after one divisor more
remainder_after : (a d k : ℕ) → k * d ≤ a → d ≤ a - k * d → a - k * d < 2 * d → a - k * d - d ≡ a % d
remainder_after a d k le due lt =
    let next : (k + 1) * d ≡ k * d + d = omega arith in
    let same : a - (k + 1) * d ≡ a - k * d - d = omega (arith, next) in
    sym same ∙ remainder_is a d (k + 1) (omega (arith, next)) (omega (arith, next))

-- the lesser of the rest and the rest without the divisor, which goes round where the rest is below it
pub lesser_rest : (a d k : ℕ) → a < 2 ^ 64 → d < 2 ^ 64 → k * d ≤ a → a - k * d < 2 * d → min (a - k * d) ((a - k * d + (2 ^ 64 - d)) % 2 ^ 64) ≡ a % d
lesser_rest a d k fits small le lt =
    let rest : ℕ = a - k * d in
    let other : ℕ = (rest + (2 ^ 64 - d)) % 2 ^ 64 in
    elim (cases_lt rest d) [
      | inl below ↦
          let order : rest ≤ other = omega arith in
          min-eq_left order ∙ remainder_is a d k le below
      | inr due ↦
          let order : other ≤ rest = omega arith in
          let same : other ≡ rest - d = omega arith in
          min-eq_right order ∙ (same ∙ remainder_after a d k le due lt)
    ]
