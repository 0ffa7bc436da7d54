-- A product by a fraction takes two multiplications.
use Rattle.std.proofs.Common.{◌≡◌, ℕ, ◌+◌, ◌-◌, ◌*◌, ◌/◌, ◌%◌, ◌^◌, ◌<◌, ◌≤◌, refl, sym, ap, ◌∙◌, arith, inl, inr}
use Rattle.std.proofs.Math.Nat.{mod-lt}
use Rattle.std.proofs.lemmas.Bool.{cases_lt}
use Rattle.std.proofs.lemmas.Nat.{div-add-mod', div-mul-add, mul-le}

-- the multiplier times the denominator is 2 ^ 128 times the numerator, and at most the denominator more
multiplied : (n d m : ℕ) → 0 < d → n * 2 ^ 128 / d + 1 ≡ m → (e : ℕ) × (m * d ≡ n * 2 ^ 128 + e) × (0 < e) × (e ≤ d)
multiplied n d m p h =
    let k : ℕ = n * 2 ^ 128 / d in
    let t : ℕ = n * 2 ^ 128 % d in
    let whole : k * d + t ≡ n * 2 ^ 128 = div-add-mod' (n * 2 ^ 128) d in
    let less : t < d = mod-lt (n * 2 ^ 128) p in
    let all : k * d + d ≡ m * d = omega (arith, ap (λ (x : ℕ). x * d) h) in
    (d - t, omega (arith, whole, less, all), omega (arith, less), omega arith)

-- a number between two multiples of 2 ^ 128, and of 2 ^ 64
between : (a q : ℕ) → q * 2 ^ 128 ≤ a → a < (q + 1) * 2 ^ 128 → a / 2 ^ 128 ≡ q
between a q low high = omega (arith, low, high)

between_words : (a q : ℕ) → q * 2 ^ 64 ≤ a → a < (q + 1) * 2 ^ 64 → a / 2 ^ 64 ≡ q
between_words a q low high = omega (arith, low, high)

-- less by a factor
cancel : (a b d : ℕ) → a * d < b * d → a < b
cancel a b d lt = elim (cases_lt a b) [
  | inl less ↦ less
  | inr le ↦ absurd (omega (arith, mul-le b d a d le (omega arith), lt))
]

cancel_le : (a b d : ℕ) → 0 < d → a * d ≤ b * d → a ≤ b
cancel_le a b d p le = elim (cases_lt b a) [
  | inl less ↦ absurd (omega (arith, mul-le (b + 1) d a d (omega arith) (omega arith), le, p))
  | inr done ↦ done
]

-- the whole part is that of the product
product : (v n d m : ℕ) → v < 2 ^ 64 → d < 2 ^ 64 → 0 < d → n * 2 ^ 128 / d + 1 ≡ m → v * m / 2 ^ 128 ≡ v * n / d
product v n d m fits small p h =
    let q : ℕ = v * n / d in
    let s : ℕ = v * n % d in
    let whole : q * d + s ≡ v * n = div-add-mod' (v * n) d in
    let less : s < d = mod-lt (v * n) p in
    let over : (e : ℕ) × (m * d ≡ n * 2 ^ 128 + e) × (0 < e) × (e ≤ d) = multiplied n d m p h in
    let e : ℕ = over.0 in
    let all : v * m * d ≡ v * n * 2 ^ 128 + v * e = omega (arith, ap (λ (x : ℕ). v * x) over.1) in
    let few : v * e ≤ (2 ^ 64 - 1) * (2 ^ 64 - 1) = mul-le v e (2 ^ 64 - 1) (2 ^ 64 - 1) (omega arith) (omega (arith, over.3)) in
    let low : q * 2 ^ 128 * d ≤ v * m * d = omega (arith, all, whole) in
    let high : v * m * d < (q + 1) * 2 ^ 128 * d = omega (arith, all, whole, few, less) in
    between (v * m) q (cancel_le (q * 2 ^ 128) (v * m) d p low) (cancel (v * m) ((q + 1) * 2 ^ 128) d high)

-- and so by the halves
pub product_by_halves : (v n d upper lower : ℕ) → v < 2 ^ 64 → d < 2 ^ 64 → 0 < d → n * 2 ^ 128 / d + 1 ≡ upper * 2 ^ 64 + lower
    → (v * upper + v * lower / 2 ^ 64) / 2 ^ 64 ≡ v * n / d
product_by_halves v n d upper lower fits small p h =
    let both : v * (upper * 2 ^ 64 + lower) ≡ v * upper * 2 ^ 64 + v * lower = omega arith in
    let halves : (v * upper + v * lower / 2 ^ 64) / 2 ^ 64 ≡ (v * upper * 2 ^ 64 + v * lower) / 2 ^ 128 = omega arith in
    halves ∙ (ap (λ (x : ℕ). x / 2 ^ 128) (sym both) ∙ product v n d (upper * 2 ^ 64 + lower) fits small p h)

-- a division by digits of 64 bits
pub by_digits : (n d : ℕ) → 0 < d → n * 2 ^ 64 / d * 2 ^ 64 + n * 2 ^ 64 % d * 2 ^ 64 / d ≡ n * 2 ^ 128 / d
by_digits n d p =
    let u : ℕ = n * 2 ^ 64 / d in
    let r : ℕ = n * 2 ^ 64 % d in
    let l : ℕ = r * 2 ^ 64 / d in
    let t : ℕ = r * 2 ^ 64 % d in
    let first : u * d + r ≡ n * 2 ^ 64 = div-add-mod' (n * 2 ^ 64) d in
    let second : l * d + t ≡ r * 2 ^ 64 = div-add-mod' (r * 2 ^ 64) d in
    let less : t < d = mod-lt (r * 2 ^ 64) p in
    let both : (u * 2 ^ 64 + l) * d + t ≡ n * 2 ^ 128 = omega (arith, first, second) in
    sym (ap (λ (x : ℕ). x / d) (sym both) ∙ div-mul-add (u * 2 ^ 64 + l) d t less)

-- the multiplier has 128 bits
fits : (n d : ℕ) → n < d → d < 2 ^ 64 → n * 2 ^ 128 / d + 1 < 2 ^ 128
fits n d lt small =
    let m : ℕ = n * 2 ^ 128 / d + 1 in
    let over : (e : ℕ) × (m * d ≡ n * 2 ^ 128 + e) × (0 < e) × (e ≤ d) = multiplied n d m (omega arith) refl in
    cancel m (2 ^ 128) d (omega (arith, over.1, over.3))

-- its halves
pub multiplier_fits : (n d : ℕ) → n < d → d < 2 ^ 64 → n * 2 ^ 64 / d * 2 ^ 64 + n * 2 ^ 64 % d * 2 ^ 64 / d + 1 < 2 ^ 128
multiplier_fits n d lt small = omega (arith, by_digits n d (omega arith), fits n d lt small)

pub upper_fits : (n d : ℕ) → n < d → d < 2 ^ 64 → (n * 2 ^ 64 / d * 2 ^ 64 + n * 2 ^ 64 % d * 2 ^ 64 / d + 1) / 2 ^ 64 < 2 ^ 64
upper_fits n d lt small = omega (arith, by_digits n d (omega arith), fits n d lt small)

pub halves_are : (n d : ℕ) → n < d
    → let m = n * 2 ^ 64 / d * 2 ^ 64 + n * 2 ^ 64 % d * 2 ^ 64 / d + 1 in n * 2 ^ 128 / d + 1 ≡ m / 2 ^ 64 * 2 ^ 64 + m % 2 ^ 64
halves_are n d lt = omega (arith, by_digits n d (omega arith))

-- where 2 ^ 64 times the fraction is whole, one product does for all numbers
pub short_of_whole : (n d v : ℕ) → 0 < d → n * 2 ^ 64 % d ≡ 0 → v * (n * 2 ^ 64 / d) / 2 ^ 64 ≡ v * n / d
short_of_whole n d v p none =
    let u : ℕ = n * 2 ^ 64 / d in
    let whole : u * d + n * 2 ^ 64 % d ≡ n * 2 ^ 64 = div-add-mod' (n * 2 ^ 64) d in
    let exact : v * u * d ≡ v * n * 2 ^ 64 = omega (arith, ap (λ (x : ℕ). v * x) whole, ap (λ (x : ℕ). v * x) none) in
    let q : ℕ = v * n / d in
    let s : ℕ = v * n % d in
    let parts : q * d + s ≡ v * n = div-add-mod' (v * n) d in
    let less : s < d = mod-lt (v * n) p in
    let low : q * 2 ^ 64 * d ≤ v * u * d = omega (arith, exact, parts) in
    let high : v * u * d < (q + 1) * 2 ^ 64 * d = omega (arith, exact, parts, less) in
    between_words (v * u) q (cancel_le (q * 2 ^ 64) (v * u) d p low) (cancel (v * u) ((q + 1) * 2 ^ 64) d high)

-- and else for those whose product with the denominator has 64 bits
pub short_of_few : (n d v : ℕ) → 0 < d → v ≤ (2 ^ 64 - 1) / d → v * (n * 2 ^ 64 / d + 1) / 2 ^ 64 ≡ v * n / d
short_of_few n d v p few =
    let u : ℕ = n * 2 ^ 64 / d in
    let t : ℕ = n * 2 ^ 64 % d in
    let whole : u * d + t ≡ n * 2 ^ 64 = div-add-mod' (n * 2 ^ 64) d in
    let rest : t < d = mod-lt (n * 2 ^ 64) p in
    let q : ℕ = v * n / d in
    let s : ℕ = v * n % d in
    let parts : q * d + s ≡ v * n = div-add-mod' (v * n) d in
    let less : s < d = mod-lt (v * n) p in
    let room : v * d < 2 ^ 64 = omega (arith, mul-le v d ((2 ^ 64 - 1) / d) d few (omega arith), div-add-mod' (2 ^ 64 - 1) d) in
    let all : v * u * d + v * t ≡ v * n * 2 ^ 64 = omega (arith, ap (λ (x : ℕ). v * x) whole) in
    let over : v * t ≤ v * d = mul-le v t v d (omega arith) (omega (arith, rest)) in
    let low : q * 2 ^ 64 * d ≤ v * (u + 1) * d = omega (arith, all, over, parts) in
    let high : v * (u + 1) * d < (q + 1) * 2 ^ 64 * d = omega (arith, all, parts, less, room) in
    between_words (v * (u + 1)) q (cancel_le (q * 2 ^ 64) (v * (u + 1)) d p low) (cancel (v * (u + 1)) ((q + 1) * 2 ^ 64) d high)
