-- A filter of a permutation is a permutation of the filter. No clause cites this module. It is a lemma for the proofs here and
-- in the crate above.
use Rattle.std.proofs.Common.{ℕ, ◌<◌, zero, suc, Bool, true, false, cond, List, [], ◌∷◌, length, get_or, arith, IsPermutation}
use Rattle.std.proofs.Math.ListN.{set}
use Rattle.std.specs.List.{filter, swap}
use Rattle.std.proofs.lemmas.List.Sorted.{IsPermutation-refl, IsPermutation-cons, IsPermutation-trans, IsPermutation-append_comm, IsPermutation-append_left, IsPermutation-keeps}

-- cases on a test
by_test : (b : Bool) (P : Bool → Type 0) → P true → P false → P b
by_test true P t f = t
by_test false P t f = f

-- the first two are swapped
two : {X : Type 0} (a b : X) (xs : List X) → IsPermutation (a ∷ b ∷ xs) (b ∷ a ∷ xs)
two a b xs = IsPermutation-append_left xs (a ∷ b ∷ []) (b ∷ a ∷ []) (IsPermutation-append_comm (a ∷ []) (b ∷ []))

-- each side of a filter, with one more in front
module _ {X : Type 0} (p : X → Bool) where
  more : (a : X) (xs ys : List X) → IsPermutation (filter p xs) (filter p ys) → IsPermutation (filter p (a ∷ xs)) (filter p (a ∷ ys))
  more a xs ys h = by_test (p a) (λ b. IsPermutation (cond b (a ∷ filter p xs) (filter p xs)) (cond b (a ∷ filter p ys) (filter p ys))) (IsPermutation-cons a (filter p xs) (filter p ys) h) (h)

  two_kept : (a b : X) (xs : List X) → IsPermutation (filter p (a ∷ b ∷ xs)) (filter p (b ∷ a ∷ xs))
  two_kept a b xs =
      let fs = filter p xs in
      by_test (p a) (λ u. IsPermutation (cond u (a ∷ cond (p b) (b ∷ fs) fs) (cond (p b) (b ∷ fs) fs)) (cond (p b) (b ∷ cond u (a ∷ fs) fs) (cond u (a ∷ fs) fs)))
      (by_test (p b) (λ v. IsPermutation (a ∷ cond v (b ∷ fs) fs) (cond v (b ∷ a ∷ fs) (a ∷ fs))) (two a b fs) (IsPermutation-refl (a ∷ fs)))
      (by_test (p b) (λ v. IsPermutation (cond v (b ∷ fs) fs) (cond v (b ∷ fs) fs)) (IsPermutation-refl (b ∷ fs)) (IsPermutation-refl fs))

  -- z in front and the item at j are swapped
  front : (z d : X) (xs : List X) (j : ℕ) → j < length xs → IsPermutation (filter p (z ∷ xs)) (filter p (get_or xs j d ∷ set xs j z))
  front z d [] j h = absurd (omega arith)
  front z d (a ∷ xs) zero h = two_kept z a xs
  front z d (a ∷ xs) (suc j) h =
      IsPermutation-trans (filter p (z ∷ a ∷ xs)) (filter p (a ∷ z ∷ xs)) (filter p (get_or xs j d ∷ a ∷ set xs j z)) (two_kept z a xs)
      (IsPermutation-trans (filter p (a ∷ z ∷ xs)) (filter p (a ∷ get_or xs j d ∷ set xs j z)) (filter p (get_or xs j d ∷ a ∷ set xs j z))
      (more a (z ∷ xs) (get_or xs j d ∷ set xs j z) (front z d xs j (omega arith))) (two_kept a (get_or xs j d) (set xs j z)))

  swapped : (d : X) (xs : List X) (i j : ℕ) → i < length xs → j < length xs → IsPermutation (filter p xs) (filter p (set (set xs i (get_or xs j d)) j (get_or xs i d)))
  swapped d [] i j h k = absurd (omega arith)
  swapped d (a ∷ xs) zero zero h k = IsPermutation-refl (filter p (a ∷ xs))
  swapped d (a ∷ xs) zero (suc j) h k = front a d xs j (omega arith)
  swapped d (a ∷ xs) (suc i) zero h k = front a d xs i (omega arith)
  swapped d (a ∷ xs) (suc i) (suc j) h k = more a xs (set (set xs i (get_or xs j d)) j (get_or xs i d)) (swapped d xs i j (omega arith) (omega arith))

  swap_kept : (xs : List X) (i j : ℕ) → i < length xs → j < length xs → IsPermutation (filter p xs) (filter p (swap xs i j))
  swap_kept [] i j h k = absurd (omega arith)
  swap_kept (a ∷ xs) i j h k = swapped a (a ∷ xs) i j h k

  pub filter-permutation : (xs ys : List X) → IsPermutation xs ys → IsPermutation (filter p xs) (filter p ys)
  filter-permutation xs ys h = IsPermutation-keeps xs (λ l. IsPermutation (filter p xs) (filter p l)) (IsPermutation-refl (filter p xs)) (λ l i j u v q. IsPermutation-trans (filter p xs) (filter p l) (filter p (swap l i j)) q (swap_kept l i j u v)) ys h
