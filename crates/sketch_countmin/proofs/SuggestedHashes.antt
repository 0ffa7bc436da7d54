-- The powers of e, rounded down.
use Rattle.std.proofs.Common.{◌≡◌, ℕ, zero, suc, ◌+◌, ◌*◌, ◌<◌, ◌≤◌, ◌^◌, Bool, true, List, [], ◌∷◌, length, get_or, leb, ltb, ◌&&◌, inl, inr, refl, subst, arith}
use Rattle.std.proofs.Math.Nat.{one-le-pow, pow-le-pow_left}
use Rattle.std.proofs.lemmas.Bool.{cases_lt, leb-true, ltb-true, and_parts}
use Rattle.std.proofs.lemmas.Nat.{mul-le, mul-pow}
use Rattle.sketch_countmin.specs.Sizes.{factorial, sum_to_e, IsWithinPowerOfE}
use Rattle.sketch_countmin.specs.declared.sizes.TheConstants.{POWERS_OF_E}
use Rattle.sketch_countmin.proofs.SeriesOfE.{all_below, numerator, denominator, sum_at_25, factorial_of_25}

positive_factorial : (k : ℕ) → 0 < factorial k
positive_factorial zero = omega arith
positive_factorial (suc k) = omega (arith, mul-le 1 1 (suc k) (factorial k) (omega arith) (positive_factorial k))

-- t is a power of the fraction a over f, rounded down, and one of the fraction above it too
record IsPower (a f k t : ℕ) : Type 0 where
  pub low : t * f ^ k ≤ a ^ k
  pub high : (a + 1) ^ k < (t + 1) * f ^ k

-- each number of a list is such a power, from the power k on
are_powers : (a f k : ℕ) → List ℕ → Bool
are_powers a f k [] = true
are_powers a f k (t ∷ ts) = leb (t * f ^ k) (a ^ k) && (ltb ((a + 1) ^ k) ((t + 1) * f ^ k) && are_powers a f (suc k) ts)

power_at : (a f k i : ℕ) (ts : List ℕ) → are_powers a f k ts ≡ true → i < length ts → IsPower a f (i + k) (get_or ts i 0)
unfolding are_powers
power_at a f k i [] test lt = absurd (omega (arith, lt))
power_at a f k zero (t ∷ ts) test lt =
    let first : (leb (t * f ^ k) (a ^ k) ≡ true) × ((ltb ((a + 1) ^ k) ((t + 1) * f ^ k) && are_powers a f (suc k) ts) ≡ true) = and_parts _ _ test in
    let second : (ltb ((a + 1) ^ k) ((t + 1) * f ^ k) ≡ true) × (are_powers a f (suc k) ts ≡ true) = and_parts _ _ first.1 in
    let here : IsPower a f k t = record { low = leb-true _ _ first.0; high = ltb-true _ _ second.0 } in
    let e : k ≡ zero + k = omega arith in
    subst (λ (n : ℕ). IsPower a f n t) e here
power_at a f k (suc i) (t ∷ ts) test lt =
    let first : (leb (t * f ^ k) (a ^ k) ≡ true) × ((ltb ((a + 1) ^ k) ((t + 1) * f ^ k) && are_powers a f (suc k) ts) ≡ true) = and_parts _ _ test in
    let second : (ltb ((a + 1) ^ k) ((t + 1) * f ^ k) ≡ true) × (are_powers a f (suc k) ts ≡ true) = and_parts _ _ first.1 in
    let there : IsPower a f (i + suc k) (get_or ts i 0) = power_at a f (suc k) i ts second.1 (omega (arith, lt)) in
    let e : i + suc k ≡ suc i + k = omega arith in
    subst (λ (n : ℕ). IsPower a f n (get_or ts i 0)) e there

table_holds : are_powers numerator denominator 0 POWERS_OF_E ≡ true
unfolding are_powers
table_holds = refl

table_at : (i : ℕ) → i < 45 → IsPower numerator denominator i (get_or POWERS_OF_E i 0)
table_at i lt =
    let e : i + 0 ≡ i = omega arith in
    subst (λ (n : ℕ). IsPower numerator denominator n (get_or POWERS_OF_E i 0)) e (power_at _ _ 0 i POWERS_OF_E table_holds lt)

-- a number up to one of the table
pub hashes_enough : (n k : ℕ) → k < 45 → n ≤ get_or POWERS_OF_E k 0 → IsWithinPowerOfE n k
hashes_enough n k lt le =
    let t : ℕ = get_or POWERS_OF_E k 0 in
    let p : IsPower numerator denominator k t = table_at k lt in
    let more : n * denominator ^ k ≤ t * denominator ^ k = mul-le n _ t _ le (omega arith) in
    (25, omega (arith, more, p.low))

-- a number above t is not reached by the power of a sum that is at most (a + 1) / f, where t is that power, rounded down
not_reached : (a f m t n s g : ℕ) → IsPower a f m t → t < n → s * f ≤ (a + 1) * g → 0 < g → n * g ^ m ≤ s ^ m → ⊥
not_reached a f m t n s g p lt le some reached =
    let one : (s * f) ^ m ≤ ((a + 1) * g) ^ m = pow-le-pow_left le m in
    let two : s ^ m * f ^ m ≤ (a + 1) ^ m * g ^ m = omega (arith, one, mul-pow s f m, mul-pow (a + 1) g m) in
    let some_power : 1 ≤ g ^ m = one-le-pow m g some in
    let three : (a + 1) ^ m * g ^ m < (t + 1) * f ^ m * g ^ m = omega (arith, mul-le ((a + 1) ^ m + 1) (g ^ m) ((t + 1) * f ^ m) (g ^ m) (omega (arith, p.high)) (omega arith), some_power) in
    let four : (t + 1) * (f ^ m * g ^ m) ≤ n * (f ^ m * g ^ m) = mul-le (t + 1) _ n _ (omega (arith, lt)) (omega arith) in
    let five : n * g ^ m * f ^ m ≤ s ^ m * f ^ m = mul-le _ (f ^ m) _ (f ^ m) reached (omega arith) in
    absurd (omega (arith, two, three, four, five))

-- a number above all before some power is not within one of them
pub hashes_least : (n k m : ℕ) → k ≤ 45 → ((i : ℕ) → i < k → get_or POWERS_OF_E i 0 < n) → IsWithinPowerOfE n m → k ≤ m
hashes_least n k m few above within =
    elim (cases_lt m k) [
      | inl less ↦
          let sum_below : sum_to_e within.0 * denominator ≤ (numerator + 1) * factorial within.0 =
          all_below (numerator + 1) denominator 25 within.0 (omega arith) (omega (arith, sum_at_25, factorial_of_25)) in
          absurd (not_reached _ _ m _ n _ _ (table_at m (omega (arith, less, few))) (above m less) sum_below (positive_factorial within.0) within.1)
      | inr done ↦ done
    ]
