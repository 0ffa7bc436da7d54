-- A stride that is odd leads through every index of a table whose size is a power of two, before it comes to one again.
use Rattle.std.proofs.Common.{◌≡◌, ◌≢◌, ℕ, ◌+◌, ◌-◌, ◌*◌, ◌/◌, ◌%◌, ◌^◌, ◌<◌, ◌≤◌, zero, suc, List, [], ◌∷◌, ◌++◌, length, get_or, refl, ap, sym, ◌∙◌, subst, arith, ⊎_elim}
use Rattle.std.specs.List.{range_with_len, flat_map}
use Rattle.std.specs.Prelude.{IsPermutation, Contains, remove}
use Rattle.std.proofs.Math.Nat.{pow-suc, div-add-mod}
use Rattle.std.proofs.lemmas.Bool.{cases_lt}
use Rattle.std.proofs.lemmas.Nat.{pow_pos, mod_below}
use Rattle.std.proofs.lemmas.List.Sorted.{IsPermutation-refl, IsPermutation-trans, IsPermutation-append_comm, IsPermutation-append_left, IsPermutation-append_right}
use Rattle.std.proofs.lemmas.List.FromFn.{length-range_with_len, get_or-range_with_len, length-map-range_with_len, get_or-map-range_with_len}
use Rattle.std.proofs.lemmas.List.{append_assoc, nil_from_length, get_or_default}
use Rattle.std.proofs.lemmas.List.Edits.{length-remove}
use Rattle.std.proofs.lemmas.Grind.{in_remove}
use Rattle.counter_table.specs.Indices.{index_at, indices}

halves : (h b t q p : ℕ) → b < 2 → (2 * h + b) * (2 * t + 1) ≡ q * (2 * p) → (b ≡ 0) × (h * (2 * t + 1) ≡ q * p)
halves h zero t q p l e = (refl, omega arith)
halves h (suc zero) t q p l e = absurd (omega arith)
halves h (suc (suc b)) t q p l e = absurd (omega arith)

-- the numbers named, so that each is a variable
odd_step : (s t d h b q p : ℕ) → s ≡ 2 * t + 1 → d ≡ 2 * h + b → b < 2 → d * s ≡ q * (2 * p) → ((n : ℕ) → n * s ≡ q * p → (r : ℕ) × (n ≡ r * p)) → (r : ℕ) × (d ≡ r * (2 * p))
odd_step s t d h b q p es ed low e less =
    let both = halves h b t q p low (rw (es, ed) at e) in
    let below = less h (rw es both.1) in
    let r = below.0 in
    let er : h ≡ r * p = below.1 in
    let eb : b ≡ 0 = both.0 in
    (r, omega arith)

-- a power of two that divides an odd multiple of d divides d
odd_cancels : (k s d q : ℕ) → s % 2 ≡ 1 → d * s ≡ q * 2 ^ k → (r : ℕ) × (d ≡ r * 2 ^ k)
odd_cancels zero s d q odd e = (d, omega arith)
odd_cancels (suc k) s d q odd e =
    let two : 2 ^ suc k ≡ 2 * 2 ^ k = omega (arith, pow-suc 2 k) in
    rw two (odd_step s (s / 2) d (d / 2) (d % 2) q (2 ^ k) (omega arith) (omega arith) (omega arith) (rw two at e) (λ n f. odd_cancels k s n q odd f))

-- two multiples that leave the same differ by a multiple of n
same_rest : (n s i d a b m : ℕ) → 0 < n → (i + d) * s ≡ n * a + m → i * s ≡ n * b + m → (c : ℕ) × (d * s ≡ c * n)
same_rest n s i d a b m pos e f =
    ⊎_elim
    (λ (lt : a < b). let c = b - a - 1 in let eb : b ≡ a + c + 1 = omega arith in let g : i * s ≡ n * (a + c + 1) + m = rw eb at f in absurd (omega arith))
    (λ (le : b ≤ a). let c = a - b in let ea : a ≡ b + c = omega arith in let g : (i + d) * s ≡ n * (b + c) + m = rw ea at e in (c, omega arith))
    (cases_lt a b)

no_multiple : (n d r : ℕ) → 0 < d → d < n → d ≢ r * n
no_multiple n d zero pos below e = omega arith
no_multiple n d (suc r) pos below e = omega arith

-- indices that are apart by fewer steps than the size are two indices
pub apart : (k s i j : ℕ) → s % 2 ≡ 1 → i < j → j < 2 ^ k → index_at (2 ^ k) s i ≢ index_at (2 ^ k) s j
apart k s i j odd lt below e =
    let n = 2 ^ k in
    let d = j - i in
    let ej : i + d ≡ j = omega arith in
    let far : (i + d) * s ≡ n * (j * s / n) + (i * s) % n = rw (ej, e) (sym (div-add-mod (j * s) n)) in
    let near : i * s ≡ n * (i * s / n) + (i * s) % n = sym (div-add-mod (i * s) n) in
    let c = same_rest n s i d (j * s / n) (i * s / n) ((i * s) % n) (pow_pos k) far near in
    let r = odd_cancels k s d c.0 odd c.1 in
    no_multiple n d r.0 (omega arith) (omega arith) r.1

-- ---- a list of numbers that has each of others once
module _ {A : Type 0} (f : ℕ → List A) where
  at_removed : (ys : List ℕ) (i : ℕ) → i < length ys → IsPermutation (flat_map f ys) (f (get_or ys i 0) ++ flat_map f (remove ys i))
  at_removed [] i h = absurd (omega arith)
  at_removed (y ∷ ys) zero h = IsPermutation-refl (flat_map f (y ∷ ys))
  at_removed (y ∷ ys) (suc i) h =
      let x = get_or ys i 0 in
      let r = flat_map f (remove ys i) in
      IsPermutation-trans (f y ++ flat_map f ys) (f y ++ (f x ++ r)) (f x ++ (f y ++ r))
      (IsPermutation-append_right (f y) (flat_map f ys) (f x ++ r) (at_removed ys i (omega arith)))
      (subst (λ (l : List A). IsPermutation l (f x ++ (f y ++ r))) (append_assoc (f y) (f x) r) (subst (λ (l : List A). IsPermutation ((f y ++ f x) ++ r) l) (append_assoc (f x) (f y) r) (IsPermutation-append_left r (f y ++ f x) (f x ++ f y) (IsPermutation-append_comm (f y) (f x)))))

  -- xs has as many numbers as ys, each of them in ys, and no two equal
  rearranged : (xs ys : List ℕ) → length xs ≡ length ys → ((k : ℕ) → k < length xs → Contains ys (get_or xs k 0)) → ((i j : ℕ) → i < j → j < length xs → get_or xs i 0 ≢ get_or xs j 0) → IsPermutation (flat_map f ys) (flat_map f xs)
  rearranged [] ys same among differ = rw (nil_from_length ys (sym same)) (IsPermutation-refl [])
  rearranged (x ∷ xs) ys same among differ =
      let here = among 0 (omega arith) in
      let i = here.0 in
      let lt : i < length ys = here.1 in
      let at : get_or ys i 0 ≡ x = get_or_default ys i 0 x lt ∙ here.2 in
      let count : length (remove ys i) + 1 ≡ length ys = length-remove ys i lt in
      let kept = λ (k : ℕ) (h : k < length xs).
      let q = get_or xs k 0 in
      let there = among (suc k) (omega arith) in
      let m = there.0 in
      let there_lt : m < length ys = there.1 in
      let at_m : get_or ys m q ≡ q = there.2 in
      let other : m ≢ i = λ (p : m ≡ i). differ 0 (suc k) (omega arith) (omega arith) (sym at ∙ ap (λ (n : ℕ). get_or ys n 0) (sym p) ∙ get_or_default ys m 0 q there_lt ∙ at_m) in
      (in_remove ys i m q lt there_lt (sym at_m) other).1 in
      IsPermutation-trans (flat_map f ys) (f x ++ flat_map f (remove ys i)) (f x ++ flat_map f xs)
      (subst (λ (n : ℕ). IsPermutation (flat_map f ys) (f n ++ flat_map f (remove ys i))) at (at_removed ys i lt))
      (IsPermutation-append_right (f x) (flat_map f (remove ys i)) (flat_map f xs) (rearranged xs (remove ys i) (omega arith) kept (λ i j l m. differ (suc i) (suc j) (omega arith) (omega arith))))

  -- the walk's indices are all indices, in another order
  pub strided : (k s : ℕ) → s % 2 ≡ 1 → IsPermutation (flat_map f (range_with_len 0 (2 ^ k))) (flat_map f (indices (2 ^ k) s 0 (2 ^ k)))
  strided k s odd =
      let n = 2 ^ k in
      let long : length (indices n s 0 n) ≡ n = length-map-range_with_len (index_at n s) 0 n in
      let at = λ (i : ℕ) (h : i < n). get_or-map-range_with_len (index_at n s) 0 n i i 0 h (omega arith) in
      rearranged (indices n s 0 n) (range_with_len 0 n) (long ∙ sym (length-range_with_len 0 n))
      (λ i h.
      let p = index_at n s i in
      let low : p < n = mod_below (i * s) n (pow_pos k) in
      let none : 0 + p ≡ p = omega arith in
      let within : p < length (range_with_len 0 n) = omega (arith, length-range_with_len 0 n) in
      let found : Contains (range_with_len 0 n) p = (p, within, get_or-range_with_len 0 n p p low ∙ none) in
      subst (λ (x : ℕ). Contains (range_with_len 0 n) x) (sym (at i (omega arith))) found)
      (λ i j l m e. apart k s i j odd l (omega arith) (sym (at i (omega arith)) ∙ e ∙ at j (omega arith)))
