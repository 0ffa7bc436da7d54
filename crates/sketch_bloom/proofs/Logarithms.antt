-- The binary logarithm, rounded up to 64ths, by the powers of 2 in steps of a 64th.
use Rattle.std.proofs.Common.{◌≡◌, ℕ, zero, suc, ◌+◌, ◌*◌, ◌/◌, ◌%◌, ◌<◌, ◌≤◌, ◌^◌, Bool, true, List, [], ◌∷◌, length, get_or, leb, ltb, ◌&&◌, inl, inr, ap, refl, subst, arith}
use Rattle.std.proofs.Math.Nat.{pow-zero, pow-suc, pow-le-pow_left, le_of_mul-le-mul_right, div-mul-le_self, mod-lt}
use Rattle.std.proofs.Math.Pow.{pow_mono}
use Rattle.std.proofs.lemmas.Bool.{cases_lt, leb-true, ltb-true, and_parts}
use Rattle.std.proofs.lemmas.Nat.{mul-le, mul-pow, pow-add, pow_pos, pow_below, div-add-mod'}
use Rattle.sketch_bloom.specs.declared.sizes.TheConstants.{POWERS_OF_TWO}

-- a power of a power
pub pow-pow : (n i j : ℕ) → (n ^ i) ^ j ≡ n ^ (i * j)
pow-pow n i zero =
    let e : i * 0 ≡ 0 = omega arith in
    let same : n ^ (i * 0) ≡ n ^ 0 = ap (λ (x : ℕ). n ^ x) e in
    omega (arith, pow-zero (n ^ i), pow-zero n, same)
pow-pow n i (suc j) =
    let e : i * j + i ≡ i * suc j = omega arith in
    let product : (n ^ i) ^ suc j ≡ (n ^ i) ^ j * n ^ i = pow-suc (n ^ i) j in
    let before : (n ^ i) ^ j * n ^ i ≡ n ^ (i * j) * n ^ i = ap (λ (x : ℕ). x * n ^ i) (pow-pow n i j) in
    let joined : n ^ (i * j + i) ≡ n ^ (i * j) * n ^ i = pow-add n (i * j) i in
    let whole : n ^ (i * j + i) ≡ n ^ (i * suc j) = ap (λ (x : ℕ). n ^ x) e in
    omega (arith, product, before, joined, whole)

-- t is the power e / 64 of 2, rounded down
record IsPower (e t : ℕ) : Type 0 where
  pub low : t ^ 64 ≤ 2 ^ e
  pub high : 2 ^ e < (t + 1) ^ 64

-- each number of a list is such a power, from e on
are_powers : ℕ → List ℕ → Bool
are_powers e [] = true
are_powers e (t ∷ ts) = leb (t ^ 64) (2 ^ e) && (ltb (2 ^ e) ((t + 1) ^ 64) && are_powers (suc e) ts)

power_at : (e i : ℕ) (ts : List ℕ) → are_powers e ts ≡ true → i < length ts → IsPower (i + e) (get_or ts i 0)
unfolding are_powers
power_at e i [] test lt = absurd (omega (arith, lt))
power_at e zero (t ∷ ts) test lt =
    let first : (leb (t ^ 64) (2 ^ e) ≡ true) × ((ltb (2 ^ e) ((t + 1) ^ 64) && are_powers (suc e) ts) ≡ true) = and_parts _ _ test in
    let second : (ltb (2 ^ e) ((t + 1) ^ 64) ≡ true) × (are_powers (suc e) ts ≡ true) = and_parts _ _ first.1 in
    let here : IsPower e t = record { low = leb-true _ _ first.0; high = ltb-true _ _ second.0 } in
    let same : e ≡ zero + e = omega arith in
    subst (λ (n : ℕ). IsPower n t) same here
power_at e (suc i) (t ∷ ts) test lt =
    let first : (leb (t ^ 64) (2 ^ e) ≡ true) × ((ltb (2 ^ e) ((t + 1) ^ 64) && are_powers (suc e) ts) ≡ true) = and_parts _ _ test in
    let second : (ltb (2 ^ e) ((t + 1) ^ 64) ≡ true) × (are_powers (suc e) ts ≡ true) = and_parts _ _ first.1 in
    let there : IsPower (i + suc e) (get_or ts i 0) = power_at (suc e) i ts second.1 (omega (arith, lt)) in
    let same : i + suc e ≡ suc i + e = omega arith in
    subst (λ (n : ℕ). IsPower n (get_or ts i 0)) same there

table_holds : are_powers 4032 POWERS_OF_TWO ≡ true
unfolding are_powers
table_holds = refl

-- the numbers n that are moved up by s indices
moved : (n s : ℕ) → (n * 2 ^ s) ^ 64 ≡ n ^ 64 * 2 ^ (s * 64)
moved n s = omega (arith, mul-pow n (2 ^ s) 64, ap (λ (x : ℕ). n ^ 64 * x) (pow-pow 2 s 64))

parts_of : (q r s : ℕ) → q + s ≡ 63 → 2 ^ (r + 4032) ≡ 2 ^ (64 * q + r) * 2 ^ (s * 64)
parts_of q r s e =
    let sum : r + 4032 ≡ 64 * q + r + s * 64 = omega (arith, e) in
    let whole : 2 ^ (r + 4032) ≡ 2 ^ (64 * q + r + s * 64) = ap (λ (x : ℕ). 2 ^ x) sum in
    omega (arith, whole, pow-add 2 (64 * q + r) (s * 64))

-- a number that is at most one of the table, moved down
pub log_enough : (n q r s : ℕ) → q + s ≡ 63 → r < 64 → n ≤ get_or POWERS_OF_TWO r 0 / 2 ^ s → n ^ 64 ≤ 2 ^ (64 * q + r)
log_enough n q r s e lt le =
    let t : ℕ = get_or POWERS_OF_TWO r 0 in
    let p : IsPower (r + 4032) t = power_at 4032 r POWERS_OF_TWO table_holds lt in
    let down : t / 2 ^ s * 2 ^ s ≤ t = div-mul-le_self t (2 ^ s) in
    let up : n * 2 ^ s ≤ t / 2 ^ s * 2 ^ s = mul-le n (2 ^ s) (t / 2 ^ s) (2 ^ s) le (omega arith) in
    let powers : (n * 2 ^ s) ^ 64 ≤ t ^ 64 = pow-le-pow_left (omega (arith, down, up)) 64 in
    let all : n ^ 64 * 2 ^ (s * 64) ≤ 2 ^ (64 * q + r) * 2 ^ (s * 64) = omega (arith, powers, p.low, moved n s, parts_of q r s e) in
    le_of_mul-le-mul_right all (pow_pos (s * 64))

-- a number above one of the table, moved down
pub log_above : (n q r s u : ℕ) → q + s ≡ 63 → r < 64 → get_or POWERS_OF_TWO r 0 / 2 ^ s < n → n ^ 64 ≤ 2 ^ u → 64 * q + r < u
log_above n q r s u e lt above within =
    let t : ℕ = get_or POWERS_OF_TWO r 0 in
    let p : IsPower (r + 4032) t = power_at 4032 r POWERS_OF_TWO table_holds lt in
    let up : (t / 2 ^ s + 1) * 2 ^ s ≤ n * 2 ^ s = mul-le (t / 2 ^ s + 1) (2 ^ s) n (2 ^ s) (omega (arith, above)) (omega arith) in
    let rest : t % 2 ^ s < 2 ^ s = mod-lt t (pow_pos s) in
    let powers : (t + 1) ^ 64 ≤ (n * 2 ^ s) ^ 64 = pow-le-pow_left (omega (arith, up, rest, div-add-mod' t (2 ^ s))) 64 in
    elim (cases_lt (64 * q + r) u) [
      | inl done ↦ done
      | inr small ↦
          let low : 2 ^ u ≤ 2 ^ (64 * q + r) = pow_mono small in
          let more : n ^ 64 * 2 ^ (s * 64) ≤ 2 ^ (64 * q + r) * 2 ^ (s * 64) = mul-le (n ^ 64) (2 ^ (s * 64)) (2 ^ (64 * q + r)) (2 ^ (s * 64)) (omega (arith, within, low)) (omega arith) in
          absurd (omega (arith, powers, p.high, more, moved n s, parts_of q r s e))
    ]

-- a number between two powers of 2
pub log_below : (n q : ℕ) → n < 2 * 2 ^ q → n ^ 64 ≤ 2 ^ (64 * q + 64)
log_below n q lt =
    let twice : 2 ^ suc q ≡ 2 ^ q * 2 = pow-suc 2 q in
    let powers : n ^ 64 ≤ (2 ^ suc q) ^ 64 = pow-le-pow_left (omega (arith, lt, twice)) 64 in
    let e : suc q * 64 ≡ 64 * q + 64 = omega arith in
    let same : 2 ^ (suc q * 64) ≡ 2 ^ (64 * q + 64) = ap (λ (x : ℕ). 2 ^ x) e in
    omega (arith, powers, pow-pow 2 (suc q) 64, same)

pub log_least : (n q u : ℕ) → 2 ^ q ≤ n → n ^ 64 ≤ 2 ^ u → 64 * q ≤ u
log_least n q u le within =
    let powers : (2 ^ q) ^ 64 ≤ n ^ 64 = pow-le-pow_left le 64 in
    let e : q * 64 ≡ 64 * q = omega arith in
    let same : 2 ^ (q * 64) ≡ 2 ^ (64 * q) = ap (λ (x : ℕ). 2 ^ x) e in
    elim (cases_lt u (64 * q)) [
      | inl less ↦
          let up : 2 ^ u < 2 ^ (64 * q) = pow_below u (64 * q) less in
          absurd (omega (arith, up, powers, within, pow-pow 2 q 64, same))
      | inr done ↦ done
    ]

-- and both for the least, behind all that are below the number
pub log_least_at : (n q k s u : ℕ) → q + s ≡ 63 → k ≤ 64 → 2 ^ q ≤ n → ((i : ℕ) → i < k → get_or POWERS_OF_TWO i 0 / 2 ^ s < n) → n ^ 64 ≤ 2 ^ u → 64 * q + k ≤ u
log_least_at n q zero s u e few le above within = omega (arith, log_least n q u le within)
log_least_at n q (suc k) s u e few le above within = omega (arith, log_above n q k s u e (omega (arith, few)) (above k (omega arith)) within)
