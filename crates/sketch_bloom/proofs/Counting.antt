-- How many numbers stand in words: as many as their bits that are set.
use Rattle.std.proofs.Common.{◌≡◌, inl, inr, ℕ, zero, suc, ◌+◌, ◌*◌, ◌/◌, ◌%◌, ◌^◌, ◌<◌, ◌≤◌, ◌==◌, true, false, cond, ◌||◌, List, length, take, get_or, refl, sym, ap, ◌∙◌, add-zero, arith, eqb-true}
use Rattle.std.specs.Int.{bit_at}
use Rattle.std.specs.Int.RustNames.{count_ones}
use Rattle.std.specs.List.{sum_by}
use Rattle.std.proofs.lemmas.List.{take_all}
use Rattle.std.proofs.lemmas.List.Sums.{sum_by_more}
use Rattle.std.proofs.lemmas.Nat.{pow_pos, mod-pow-add, ones_cat, mod_below}
use Rattle.std.proofs.lemmas.Nat.Bits.{bit_at-lt, bit_at-zero}
use Rattle.std.proofs.Math.ListN.{get_or-eq_default}
use Rattle.std.proofs.Math.Nat.{div-add-mod, mod-eq_of_lt, mod-one}
use Rattle.std.proofs.lemmas.Bool.{cases_lt}
use Rattle.std.proofs.lemmas.Bool.Decides.{nat_tests}
use Rattle.std.specs.FinSet as set
use Rattle.std.specs.Ordering.{nat_cmp}
use Rattle.sketch_bloom.specs.BitSet.{bit_in, set_below, set_of}
use Rattle.sketch_bloom.proofs.Bools.{same_tests}
use Rattle.sketch_bloom.proofs.Sets.{contains-empty, contains-insert, len-insert}

-- what stands below n is below n and has its bit set
pub in_set_below : (words : List ℕ) (n q : ℕ) → set.contains (set_below words n) q ≡ true → (q < n) × (bit_in words q ≡ true)
in_set_below words zero q h = absurd (let e = contains-empty q in cc)
in_set_below words (suc n) q has =
    elim (bit_in words n) as (λ b. bit_in words n ≡ b → set.contains (cond b (set.insert (set_below words n) n) (set_below words n)) q ≡ true → (q < suc n) × (bit_in words q ≡ true)) [
      | true ↦ λ e h. elim (q == n) as (λ b. (q == n) ≡ b → (b || set.contains (set_below words n) q) ≡ true → (q < suc n) × (bit_in words q ≡ true)) [
        | true ↦ λ s _. let same : q ≡ n = eqb-true q n s in (omega arith, ap (bit_in words) same ∙ e)
        | false ↦ λ _ g. let p = in_set_below words n q g in (omega arith, p.1)
      ] refl (sym (contains-insert (set_below words n) n q) ∙ h)
      | false ↦ λ _ h. let p = in_set_below words n q h in (omega arith, p.1)
    ] refl has

-- what is below n and has its bit set stands below n
pub set_below_has : (words : List ℕ) (n q : ℕ) → q < n → bit_in words q ≡ true → set.contains (set_below words n) q ≡ true
set_below_has words zero q l s = absurd (omega arith)
set_below_has words (suc n) q l s =
    elim (bit_in words n) as (λ b. bit_in words n ≡ b → set.contains (cond b (set.insert (set_below words n) n) (set_below words n)) q ≡ true) [
      | true ↦ λ e. contains-insert (set_below words n) n q ∙ (elim (q == n) as (λ b. (q == n) ≡ b → (b || set.contains (set_below words n) q) ≡ true) [
        | true ↦ λ _. refl
        | false ↦ λ d. set_below_has words n q (below q n l d) s
      ] refl)
      | false ↦ λ e. elim (q == n) as (λ b. (q == n) ≡ b → set.contains (set_below words n) q ≡ true) [
        | true ↦ λ d. let same : q ≡ n = eqb-true q n d in absurd (let f = ap (bit_in words) same in cc)
        | false ↦ λ d. set_below_has words n q (below q n l d) s
      ] refl
    ] refl
  where
    below : (q n : ℕ) → q < suc n → (q == n) ≡ false → q < n
    below q n l d = grind (arith, nat_tests)

-- a number stands in the words where its bit is set
pub contains-set_of : (words : List ℕ) (q : ℕ) → set.contains (set_of words) q ≡ bit_in words q
unfolding set_of
contains-set_of words q = same_tests _ _
    (λ h. (in_set_below words (64 * length words) q h).1)
    (λ h. set_below_has words (64 * length words) q (within words q h) h)
  where
    -- past the last word no bit is set
    within : (words : List ℕ) (q : ℕ) → bit_in words q ≡ true → q < 64 * length words
    within words q h = elim (cases_lt (q / 64) (length words)) as (λ _. q < 64 * length words) [
      | inl l ↦ omega (arith, div-add-mod q 64)
      | inr g ↦ absurd (let e : get_or words (q / 64) 0 ≡ 0 = get_or-eq_default words 0 g in let z = bit_at-zero (q % 64) in let f : bit_at (get_or words (q / 64) 0) (q % 64) ≡ 0 = ap (λ w. bit_at w (q % 64)) e ∙ z in let t : (0 == 1) ≡ true = sym (ap (λ n. n == 1) f) ∙ h in cc)
    ]

-- one more number below n, where its bit is set
pub len-set_below-suc : (words : List ℕ) (n : ℕ) → set.len (set_below words (suc n)) ≡ set.len (set_below words n) + bit_at (get_or words (n / 64) 0) (n % 64)
len-set_below-suc words n =
    elim (bit_in words n) as (λ b. bit_in words n ≡ b → set.len (cond b (set.insert (set_below words n) n) (set_below words n)) ≡ set.len (set_below words n) + bit_at (get_or words (n / 64) 0) (n % 64)) [
      | true ↦ λ e. elim (set.contains (set_below words n) n) as (λ b. set.contains (set_below words n) n ≡ b → set.len (set.insert (set_below words n) n) ≡ set.len (set_below words n) + bit_at (get_or words (n / 64) 0) (n % 64)) [
        | true ↦ λ f. absurd (let p = in_set_below words n n f in omega arith)
        | false ↦ λ f. len-insert (set_below words n) n ∙ ap (λ b. cond b (set.len (set_below words n)) (set.len (set_below words n) + 1)) f ∙ ap (λ k. set.len (set_below words n) + k) (sym (eqb-true (bit_at (get_or words (n / 64) 0) (n % 64)) 1 e))
      ] refl
      | false ↦ λ e. let low : bit_at (get_or words (n / 64) 0) (n % 64) < 2 = bit_at-lt (get_or words (n / 64) 0) (n % 64) in let unset : bit_at (get_or words (n / 64) 0) (n % 64) ≡ 0 = not_one (bit_at (get_or words (n / 64) 0) (n % 64)) low e in omega arith
    ] refl
  where
    not_one : (n : ℕ) → n < 2 → (n == 1) ≡ false → n ≡ 0
    not_one n l e = grind (arith, nat_tests)

-- the ones of the lowest bits, with one bit more
ones-suc : (w k : ℕ) → count_ones (w % 2 ^ (suc k)) ≡ count_ones (w % 2 ^ k) + bit_at w k
unfolding count_ones
ones-suc w k =
    ap (λ j. count_ones (w % 2 ^ j)) (omega arith)
    ∙ ap count_ones (mod-pow-add w 1 k)
    ∙ ones_cat k (w / 2 ^ k % 2) (w % 2 ^ k) (mod_below w (2 ^ k) (pow_pos k))
    ∙ omega (arith, ones_of_bit (bit_at w k) (bit_at-lt w k))
  where
    ones_of_bit : (b : ℕ) → b < 2 → count_ones b ≡ b
    ones_of_bit zero l = refl
    ones_of_bit (suc zero) l = refl
    ones_of_bit (suc (suc b)) l = absurd (omega arith)

-- the numbers below a index in word i, when those below the word are known
len-in_word : (words : List ℕ) (i k : ℕ) → k ≤ 64 → set.len (set_below words (64 * i + k)) ≡ set.len (set_below words (64 * i)) + count_ones (get_or words i 0 % 2 ^ k)
unfolding count_ones
len-in_word words i zero l =
    let same : 64 * i + 0 ≡ 64 * i = omega arith in
    let none : get_or words i 0 % 2 ^ 0 ≡ 0 = mod-one (get_or words i 0) in
    ap (λ n. set.len (set_below words n)) same ∙ (sym (add-zero (set.len (set_below words (64 * i)))) ∙ ap (λ n. set.len (set_below words (64 * i)) + count_ones n) (sym none))
len-in_word words i (suc k) l =
    let row : (64 * i + k) / 64 ≡ i = omega arith in
    let column : (64 * i + k) % 64 ≡ k = omega arith in
    let same : bit_at (get_or words ((64 * i + k) / 64) 0) ((64 * i + k) % 64) ≡ bit_at (get_or words i 0) k = ap (λ r. bit_at (get_or words r 0) ((64 * i + k) % 64)) row ∙ ap (bit_at (get_or words i 0)) column in
    let step : set.len (set_below words (suc (64 * i + k))) ≡ set.len (set_below words (64 * i + k)) + bit_at (get_or words i 0) k = len-set_below-suc words (64 * i + k) ∙ ap (λ b. set.len (set_below words (64 * i + k)) + b) same in
    let before : set.len (set_below words (64 * i + k)) ≡ set.len (set_below words (64 * i)) + count_ones (get_or words i 0 % 2 ^ k) = len-in_word words i k (omega arith) in
    let ones : count_ones (get_or words i 0 % 2 ^ (suc k)) ≡ count_ones (get_or words i 0 % 2 ^ k) + bit_at (get_or words i 0) k = ones-suc (get_or words i 0) k in
    let next : 64 * i + suc k ≡ suc (64 * i + k) = omega arith in
    ap (λ n. set.len (set_below words n)) next ∙ omega arith

-- the numbers in the first words
len-first_words : (words : List ℕ) (i : ℕ) → i ≤ length words → ((k : ℕ) → get_or words k 0 < 2 ^ 64) → set.len (set_below words (64 * i)) ≡ sum_by count_ones (take i words)
len-first_words words zero l fits = set.len-empty nat_cmp
len-first_words words (suc i) l fits =
    let before : set.len (set_below words (64 * i)) ≡ sum_by count_ones (take i words) = len-first_words words i (omega arith) fits in
    let word : set.len (set_below words (64 * i + 64)) ≡ set.len (set_below words (64 * i)) + count_ones (get_or words i 0 % 2 ^ 64) = len-in_word words i 64 (omega arith) in
    let whole : get_or words i 0 % 2 ^ 64 ≡ get_or words i 0 = mod-eq_of_lt (fits i) in
    let ones : count_ones (get_or words i 0 % 2 ^ 64) ≡ count_ones (get_or words i 0) = ap count_ones whole in
    let sums : sum_by count_ones (take (i + 1) words) ≡ sum_by count_ones (take i words) + count_ones (get_or words i 0) = sum_by_more count_ones words i 0 (omega arith) in
    let one : i + 1 ≡ suc i = omega arith in
    let next : sum_by count_ones (take (i + 1) words) ≡ sum_by count_ones (take (suc i) words) = ap (λ n. sum_by count_ones (take n words)) one in
    let indices : 64 * suc i ≡ 64 * i + 64 = omega arith in
    ap (λ n. set.len (set_below words n)) indices ∙ omega arith

-- the size of the set is the number of bits that are set
pub len-set_of : (words : List ℕ) → ((k : ℕ) → get_or words k 0 < 2 ^ 64) → set.len (set_of words) ≡ sum_by count_ones words
unfolding set_of
len-set_of words fits = len-first_words words (length words) (omega arith) fits ∙ ap (sum_by count_ones) (take_all (length words) words (omega arith))

-- no more numbers stand below n than there are
len-set_below-le : (words : List ℕ) (n : ℕ) → set.len (set_below words n) ≤ n
len-set_below-le words zero = omega (arith, set.len-empty nat_cmp)
len-set_below-le words (suc n) = omega (arith, len-set_below-suc words n, len-set_below-le words n, bit_at-lt (get_or words (n / 64) 0) (n % 64))

-- at most 64 numbers a word
pub len-set_of-le : (words : List ℕ) → set.len (set_of words) ≤ 64 * length words
unfolding set_of
len-set_of-le words = len-set_below-le words (64 * length words)
