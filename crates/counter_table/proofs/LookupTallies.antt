-- How many numbers below n pass a test.
use Rattle.std.proofs.Common.{◌≡◌, ℕ, zero, suc, ◌+◌, ◌-◌, ◌<◌, ◌≤◌, min, max, Bool, true, false, cond, leb, inl, inr, refl, ap, sym, ◌∙◌, arith}
use Rattle.std.proofs.lemmas.Bool.{cases_lt, cases_eq, le-leb, lt-leb}
use Rattle.counter_table.specs.Homes.{distance}
use Rattle.counter_table.proofs.ArithmeticRing.{distance_is}

abbrev pub tally : (ℕ → Bool) → ℕ → ℕ
tally f zero = 0
tally f (suc m) = tally f m + cond (f m) 1 0

pub tally_front : (f : ℕ → Bool) (m : ℕ) → tally f (suc m) ≡ cond (f 0) 1 0 + tally (λ k. f (suc k)) m
tally_front f zero = omega arith
tally_front f (suc m) = omega (arith, tally_front f m)

one : (b c : Bool) → (b ≡ true → c ≡ true) → cond b 1 0 ≤ cond c 1 0
one true c h = rw (h refl) (omega arith)
one false c h = omega arith

pub tally_le : (f g : ℕ → Bool) (n : ℕ) → ((k : ℕ) → k < n → f k ≡ true → g k ≡ true) → tally f n ≤ tally g n
tally_le f g zero h = omega arith
tally_le f g (suc n) h = omega (arith, tally_le f g n (λ k l. h k (omega arith)), one (f n) (g n) (h n (omega arith)))

pub tally_lt : (f g : ℕ → Bool) (n p : ℕ) → p < n → f p ≡ false → g p ≡ true → ((k : ℕ) → k < n → f k ≡ true → g k ≡ true) → tally f n < tally g n
tally_lt f g zero p l a b h = absurd (omega arith)
tally_lt f g (suc n) p l a b h = elim (cases_eq p n) [
  | inl e ↦
      let a' : f n ≡ false = ap f (sym e) ∙ a in let b' : g n ≡ true = ap g (sym e) ∙ b in
      rw (a', b') (omega (arith, tally_le f g n (λ k l. h k (omega arith))))
  | inr e ↦ omega (arith, tally_lt f g n p (omega arith) a b (λ k l. h k (omega arith)), one (f n) (g n) (h n (omega arith)))
]

-- how many of the indices below m are at most b back from p
part : (n p b : ℕ) → p < n → b < n → (m : ℕ) → m ≤ n → tally (λ k. leb (distance n k p) b) m ≡ (min m (p + 1) - (p - b)) + (m - max (p + 1) (p + n - b))
part n p b l h zero w = omega arith
part n p b l h (suc m) w =
    let d = distance_is n m p (omega arith) l in
    let i = part n p b l h m (omega arith) in
    elim (cases_lt b (distance n m p)) [
      | inl e ↦ rw (lt-leb _ _ e) (omega arith)
      | inr e ↦ rw (le-leb _ _ e) (omega arith)
    ]

pub window : (n p b : ℕ) → p < n → b < n → tally (λ k. leb (distance n k p) b) n ≡ b + 1
window n p b l h = omega (arith, part n p b l h n (omega arith))
