-- Indices counted round the end.
use Rattle.std.proofs.Common.{◌≡◌, ℕ, ◌+◌, ◌-◌, ◌%◌, ◌<◌, ◌≤◌, ◌⊎◌, inl, inr, ◌∙◌, arith}
use Rattle.std.proofs.Math.Nat.{mod-eq_of_lt, mod-eq-sub-mod}
use Rattle.std.proofs.lemmas.Bool.{cases_lt}
use Rattle.counter_table.specs.Homes.{ahead, distance}

-- d is the distance from h to p
pub record Apart (n h p d : ℕ) : Type 0 where
  pub below : d < n
  pub sum : (h + d ≡ p) ⊎ (h + d ≡ p + n)

-- a is the index j indices on from p
pub record Ahead (n p j a : ℕ) : Type 0 where
  pub below : a < n
  pub sum : (a ≡ p + j) ⊎ (a + n ≡ p + j)

mod_once : (n a : ℕ) → a < n + n → Ahead n a 0 (a % n)
mod_once n a h = elim (cases_lt a n) [
  | inl l ↦ let e = mod-eq_of_lt l in record { below = omega (arith, e); sum = inl (omega (arith, e)) }
  | inr g ↦ let k : a - n < n = omega arith in let e = mod-eq-sub-mod g ∙ mod-eq_of_lt k in record { below = omega (arith, e); sum = inr (omega (arith, e)) }
]

pub ahead_is : (n p j : ℕ) → p < n → j ≤ n → Ahead n p j (ahead n p j)
unfolding ahead
ahead_is n p j h l =
    let o = mod_once n (p + j) (omega arith) in
    record { below = o.below; sum = elim (o.sum) [ inl e ↦ inl (omega arith) | inr e ↦ inr (omega arith) ] }

pub distance_is : (n h p : ℕ) → h < n → p < n → Apart n h p (distance n h p)
unfolding distance
distance_is n h p l m =
    let o = mod_once n (p + (n - h)) (omega arith) in
    record { below = o.below; sum = elim (o.sum) [ inl e ↦ inr (omega arith) | inr e ↦ inl (omega arith) ] }

pub ahead-distance : (n h p : ℕ) → h < n → p < n → ahead n h (distance n h p) ≡ p
ahead-distance n h p l m = let d = distance_is n h p l m in let a = ahead_is n h (distance n h p) l (omega arith) in omega arith

pub distance-ahead : (n h j : ℕ) → h < n → j < n → distance n h (ahead n h j) ≡ j
distance-ahead n h j l m = let a = ahead_is n h j l (omega arith) in let d = distance_is n h (ahead n h j) l a.below in omega arith

pub back-distance : (n p k : ℕ) → p < n → k < n → ahead n p (n - distance n k p) ≡ k
back-distance n p k l m = let d = distance_is n k p m l in let a = ahead_is n p (n - distance n k p) l (omega arith) in omega arith

-- k is not before h on the way to p
pub distance-between : (n h k p : ℕ) → h < n → k < n → p < n → distance n h k < distance n h p → distance n k p ≤ distance n h p
distance-between n h k p a b c l = let d = distance_is n h k a b in let e = distance_is n h p a c in let f = distance_is n k p b c in omega arith

-- an index f that is m back from p, where h is as far back or further, and k is nearer
pub passes : (n h k p m : ℕ) → h < n → k < n → p < n → distance n k p < m → m ≤ distance n h p → (distance n h p - m ≤ distance n h k) × (ahead n h (distance n h p - m) ≡ ahead n p (n - m))
passes n h k p m a b c l g =
    let d = distance_is n h k a b in let e = distance_is n h p a c in let f = distance_is n k p b c in
    let u = ahead_is n h (distance n h p - m) a (omega arith) in let v = ahead_is n p (n - m) c (omega arith) in (omega arith, omega arith)

pub distance-same : (n p : ℕ) → p < n → distance n p p ≡ 0
distance-same n p l = let d = distance_is n p p l l in omega arith

-- an index k that is no more than j back from the index j indices on from h
pub ahead-back : (n h k j : ℕ) → h < n → k < n → j < n → distance n k (ahead n h j) ≤ j → ahead n h (j - distance n k (ahead n h j)) ≡ k
ahead-back n h k j l m b near =
    let a = ahead_is n h j l (omega arith) in
    let d = distance_is n k (ahead n h j) m a.below in
    let e = ahead_is n h (j - distance n k (ahead n h j)) l (omega arith) in
    omega arith
