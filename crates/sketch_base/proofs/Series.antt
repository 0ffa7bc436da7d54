-- What the sums of a series stay below.
use Rattle.std.proofs.Common.{◌≡◌, ℕ, zero, suc, ◌+◌, ◌*◌, ◌<◌, ◌≤◌, inl, inr, subst, sym, arith}
use Rattle.std.proofs.Math.Nat.{le_of_mul-le-mul_left}
use Rattle.std.proofs.lemmas.Bool.{cases_lt}
use Rattle.std.proofs.lemmas.Nat.{mul-le}

-- what each step from k on keeps holds of all numbers that follow k
following : (P : ℕ → Type 0) (k m : ℕ) → ((n : ℕ) → k ≤ n → P n → P (suc n)) → k ≤ m → P k → P m
following P k zero step le h =
    let e : k ≡ zero = omega (arith, le) in
    subst P e h
following P k (suc m) step le h = elim (cases_lt m k) [
  | inl last ↦
      let e : k ≡ suc m = omega (arith, last, le) in
      subst P e h
  | inr more ↦ step m more (following P k m step more h)
]

-- what each step back keeps holds of all numbers up to m
preceding : (P : ℕ → Type 0) (k m : ℕ) → ((n : ℕ) → P (suc n) → P n) → k ≤ m → P m → P k
preceding P k zero back le h =
    let e : zero ≡ k = omega (arith, le) in
    subst P e h
preceding P k (suc m) back le h = elim (cases_lt m k) [
  | inl last ↦
      let e : suc m ≡ k = omega (arith, last, le) in
      subst P e h
  | inr more ↦ preceding P k m back more (back m h)
]

-- the sums are sum n over denominator n. Each denominator is so many times the one before, the sums never fall, and from k on
-- a sum and its rest are at most the one before and its rest
pub record IsSeries (k : ℕ) (sum rest denominator factor : ℕ → ℕ) : Type 0 where
  pub positive : (n : ℕ) → 0 < factor n
  pub denominators : (n : ℕ) → denominator (suc n) ≡ factor n * denominator n
  pub sums : (n : ℕ) → factor n * sum n ≤ sum (suc n)
  pub rests : (n : ℕ) → k ≤ n → sum (suc n) + rest (suc n) ≤ factor n * (sum n + rest n)

module _ (k : ℕ) (sum rest denominator factor : ℕ → ℕ) (series : IsSeries k sum rest denominator factor) (p q : ℕ) where
  -- p over q that is not below a sum and its rest is not below the next ones
  next_below : (n : ℕ) → k ≤ n → (sum n + rest n) * q ≤ p * denominator n → (sum (suc n) + rest (suc n)) * q ≤ p * denominator (suc n)
  next_below n le h =
      let scaled : factor n * ((sum n + rest n) * q) ≤ factor n * (p * denominator n) = mul-le (factor n) ((sum n + rest n) * q) (factor n) (p * denominator n) (omega arith) h in
      let fewer : (sum (suc n) + rest (suc n)) * q ≤ factor n * (sum n + rest n) * q = mul-le (sum (suc n) + rest (suc n)) q (factor n * (sum n + rest n)) q (series.rests n le) (omega arith) in
      subst (λ (d : ℕ). (sum (suc n) + rest (suc n)) * q ≤ p * d) (sym (series.denominators n)) (omega (arith, scaled, fewer))

  -- and where it is not below a sum, it is not below the one before
  one_before : (n : ℕ) → sum (suc n) * q ≤ p * denominator (suc n) → sum n * q ≤ p * denominator n
  one_before n h =
      let more : factor n * sum n * q ≤ sum (suc n) * q = mul-le (factor n * sum n) q (sum (suc n)) q (series.sums n) (omega arith) in
      let under : sum (suc n) * q ≤ p * (factor n * denominator n) = subst (λ (d : ℕ). sum (suc n) * q ≤ p * d) (series.denominators n) h in
      let scaled : factor n * (sum n * q) ≤ factor n * (p * denominator n) = omega (arith, more, under) in
      le_of_mul-le-mul_left scaled (series.positive n)

  -- so it is not below any sum, where it is not below sum k and its rest
  pub below_all : (sum k + rest k) * q ≤ p * denominator k → (j : ℕ) → sum j * q ≤ p * denominator j
  below_all h j =
      let far : (sum (k + j) + rest (k + j)) * q ≤ p * denominator (k + j) = following (λ (n : ℕ). (sum n + rest n) * q ≤ p * denominator n) k (k + j) next_below (omega arith) h in
      preceding (λ (n : ℕ). sum n * q ≤ p * denominator n) j (k + j) one_before (omega arith) (omega (arith, far))
