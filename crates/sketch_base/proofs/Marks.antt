-- The marks of a list: the number whose bit i is set exactly if element i passes a test.
use Rattle.std.proofs.Common.{◌≡◌, ℕ, zero, suc, ◌+◌, ◌*◌, ◌-◌, ◌/◌, ◌%◌, ◌^◌, ◌<◌, ◌≤◌, Bool, true, false, cond, List, [], ◌∷◌, length, map, take, drop, refl, sym, ◌∙◌, ap, arith, length-drop}
use Rattle.std.proofs.Math.Nat.{add-mul, zero-div, div-one, div-div-eq-div-mul, mod-eq_of_lt, pow-suc, mul_assoc, mul_comm}
use Rattle.std.proofs.Math.Pow.{pow_mono}
use Rattle.std.proofs.Math.Seq.{drop-nil}
use Rattle.std.proofs.lemmas.List.{drop-drop, drop_all, length-map, take_all}
use Rattle.std.proofs.lemmas.Nat.{pow-add}
use Rattle.std.proofs.lemmas.Simd.{mask_l-lt}
use lib.Lanes.{mask_l}

module _ (p : ℕ → Bool) where
  -- the marks of a list
  abbrev pub marks : List ℕ → ℕ
  marks xs = mask_l (map p xs)

  half : (b : Bool) (n : ℕ) → (cond b 1 0 + 2 * n) / 2 ≡ n
  half true n = omega arith
  half false n = omega arith

  -- those from an element on
  pub marks_drop : (xs : List ℕ) (k : ℕ) → marks xs / 2 ^ k ≡ marks (drop k xs)
  marks_drop [] k = zero-div (2 ^ k) ∙ ap marks (sym (drop-nil k))
  marks_drop (x ∷ xs) zero = div-one (marks (x ∷ xs))
  marks_drop (x ∷ xs) (suc k) =
      ap (λ n. marks (x ∷ xs) / n) (pow-suc 2 k ∙ mul_comm (2 ^ k) 2) ∙ sym (div-div-eq-div-mul (marks (x ∷ xs)) 2 (2 ^ k))
      ∙ ap (λ n. n / 2 ^ k) (half (p x) (marks xs)) ∙ marks_drop xs k

  twice : (m t d n : ℕ) → m ≡ t + d * n → (c : ℕ) → c + 2 * m ≡ (c + 2 * t) + d * (n * 2)
  twice m t d n e c =
      let more : d * (n * 2) ≡ (d * n) * 2 = sym (mul_assoc d n 2) in
      omega (arith, e, more)

  -- those of the first elements, and of the others
  pub marks_split : (xs : List ℕ) (k : ℕ) → marks xs ≡ marks (take k xs) + marks (drop k xs) * 2 ^ k
  marks_split [] zero = refl
  marks_split [] (suc k) = omega arith
  marks_split (x ∷ xs) zero = omega arith
  marks_split (x ∷ xs) (suc k) =
      twice (marks xs) (marks (take k xs)) (marks (drop k xs)) (2 ^ k) (marks_split xs k) (cond (p x) 1 0)
      ∙ ap (λ n. cond (p x) 1 0 + 2 * marks (take k xs) + marks (drop k xs) * n) (sym (pow-suc 2 k))

  -- a list of at most 64 elements has marks of 64 bits
  pub marks_below : (xs : List ℕ) → length xs ≤ 64 → marks xs < 2 ^ 64
  marks_below xs few =
      let few' : length (map p xs) ≤ 64 = omega (arith, length-map xs p) in
      omega (arith, mask_l-lt (map p xs), pow_mono few')

  -- the marks of the next elements come after those of the elements before
  module _ (xs : List ℕ) (at n before found : ℕ) (few : length xs ≤ 64) (so_far : marks xs ≡ before + marks (drop at xs) * 2 ^ at) (seen : found ≡ marks (take n (drop at xs))) where
    scaled : (found' rest : ℕ) → (found' + rest * 2 ^ n) * 2 ^ at ≡ found' * 2 ^ at + rest * 2 ^ (at + n)
    scaled found' rest =
        add-mul found' (rest * 2 ^ n) (2 ^ at)
        ∙ ap (λ k. found' * 2 ^ at + k) (mul_assoc rest (2 ^ n) (2 ^ at) ∙ ap (λ k. rest * k) (mul_comm (2 ^ n) (2 ^ at) ∙ sym (pow-add 2 at n)))

    all_marks : marks xs ≡ before + (found * 2 ^ at + marks (drop (at + n) xs) * 2 ^ (at + n))
    all_marks =
        so_far
        ∙ ap (λ k. before + k)
        (ap (λ k. k * 2 ^ at) (marks_split (drop at xs) n ∙ (λ i. sym seen i + marks (drop-drop n at xs i) * 2 ^ n)) ∙ scaled found (marks (drop (at + n) xs)))

    whole : (found * 2 ^ at) % 2 ^ 64 ≡ found * 2 ^ at
    whole = mod-eq_of_lt (omega (arith, all_marks, marks_below xs few))

    pub next_fits : before + (found * 2 ^ at) % 2 ^ 64 < 2 ^ 64
    next_fits = omega (arith, whole, all_marks, marks_below xs few)

    pub next_marks : marks xs ≡ (before + (found * 2 ^ at) % 2 ^ 64) + marks (drop (at + n) xs) * 2 ^ (at + n)
    next_marks = omega (arith, whole, all_marks)

  -- the last elements, the first of which were marked before
  module _ (xs : List ℕ) (last at n found : ℕ) (long : length xs ≡ last + n) (le : last ≤ at) (seen : found ≡ marks (take n (drop last xs))) where
    pub last_marks : found / 2 ^ (at - last) ≡ marks (take n (drop at xs))
    last_marks =
        let same : last + (at - last) ≡ at = omega arith in
        let all : take n (drop last xs) ≡ drop last xs = take_all n (drop last xs) (omega (arith, length-drop last xs)) in
        let rest : take n (drop at xs) ≡ drop at xs = take_all n (drop at xs) (omega (arith, length-drop at xs)) in
        ap (λ k. k / 2 ^ (at - last)) (seen ∙ ap marks all) ∙ marks_drop (drop last xs) (at - last)
        ∙ ap marks (drop-drop (at - last) last xs ∙ ap (λ k. drop k xs) same ∙ sym rest)

    -- none is left
    pub none_left : marks (drop (at + n) xs) ≡ 0
    none_left = ap marks (drop_all (at + n) xs (omega arith))
