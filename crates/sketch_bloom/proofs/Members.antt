-- Which numbers stand in words after a change.
use Rattle.std.proofs.Common.{◌≡◌, ◌≢◌, inl, inr, ℕ, zero, suc, ◌+◌, ◌-◌, ◌*◌, ◌/◌, ◌%◌, ◌^◌, ◌<◌, ◌≤◌, ◌==◌, Bool, true, false, ◌&&◌, ◌||◌, not, List, [], ◌∷◌, length, get_or, set, min, max, bit_or, w64, refl, sym, ap, subst, ◌∙◌, arith, eq-eqb, replicate}
use Rattle.std.specs.Int.{bit_at, bit_not}
use Rattle.std.proofs.lemmas.List.{get_or-set_same, get_or-set_other}
use Rattle.std.proofs.lemmas.Nat.Bits.{bit_at-lt, bit_at-zero, bit_at_and, bit_at_or, bit_at_not, bit_at_set_same, bit_at_set_other, same_from_bits_below}
use Rattle.std.proofs.lemmas.Nat.{or_lt, and_le_l}
use Rattle.std.proofs.lemmas.Bool.{cases_lt, cases_eq}
use Rattle.std.proofs.lemmas.Bool.Decides.{nat_tests}
use Rattle.std.proofs.Math.Nat.{div-add-mod}
use Rattle.std.proofs.Math.ListN.{get_or-eq_default}
use Rattle.std.specs.FinSet as numbers
use lib.Lanes.{zip2}
use Rattle.sketch_bloom.specs.BitSet.{Numbers, bit_in, set_of}
use Rattle.sketch_bloom.specs.Operations.{on_sets, on_words}
use Rattle.sketch_bloom.specs.declared.set_operation.SetOperation.{SetOperation}
use Rattle.sketch_bloom.specs.declared.set_operation.SetOperation.TheVariants.{Union, Intersection, Difference}
use Rattle.sketch_bloom.proofs.Sets.{same_members, contains-insert, contains-empty, contains-union, contains-intersection, contains-difference}
use Rattle.sketch_bloom.proofs.Counting.{in_set_below, contains-set_of}

-- what stands in the words is below 64 for each of them
pub below_capacity : (words : List ℕ) (p : ℕ) → numbers.contains (set_of words) p ≡ true → p < 64 * length words
unfolding set_of
below_capacity words p h = (in_set_below words (64 * length words) p h).0

-- the word at a index after an operation on each
word_of_each : (f : ℕ → ℕ → ℕ) → f 0 0 ≡ 0 → (xs ys : List ℕ) → length xs ≡ length ys → (i : ℕ) → get_or (zip2 f xs ys) i 0 ≡ f (get_or xs i 0) (get_or ys i 0)
word_of_each f z [] [] e i = sym z
word_of_each f z [] (y ∷ ys) e i = absurd (omega arith)
word_of_each f z (x ∷ xs) [] e i = absurd (omega arith)
word_of_each f z (x ∷ xs) (y ∷ ys) e zero = refl
word_of_each f z (x ∷ xs) (y ∷ ys) e (suc i) = word_of_each f z xs ys (omega arith) i

-- the greater of two bits is set where one is
either_bit : (a b : ℕ) → a < 2 → b < 2 → (max a b == 1) ≡ ((a == 1) || (b == 1))
either_bit a b l m = grind (arith, nat_tests)

-- the smaller is set where both are
both_bits : (a b : ℕ) → a < 2 → b < 2 → (min a b == 1) ≡ ((a == 1) && (b == 1))
both_bits a b l m = grind (arith, nat_tests)

-- the other bit is set where one is not
other_bit : (b : ℕ) → b < 2 → ((1 - b) == 1) ≡ not (b == 1)
other_bit zero l = refl
other_bit (suc zero) l = refl
other_bit (suc (suc b)) l = absurd (omega arith)

-- what an operation does to two tests
on_tests : SetOperation → Bool → Bool → Bool
on_tests Union a b = a || b
on_tests Intersection a b = a && b
on_tests Difference a b = a && not b

-- it does so to the bits of two words
bit_of_words : (o : SetOperation) (x y k : ℕ) → y < 2 ^ 64 → k < 64 → (bit_at (on_words o x y) k == 1) ≡ on_tests o (bit_at x k == 1) (bit_at y k == 1)
unfolding on_tests
bit_of_words Union x y k fits inside = ap (λ n. n == 1) (bit_at_or x y k) ∙ either_bit (bit_at x k) (bit_at y k) (bit_at-lt x k) (bit_at-lt y k)
bit_of_words Intersection x y k fits inside = ap (λ n. n == 1) (bit_at_and x y k) ∙ both_bits (bit_at x k) (bit_at y k) (bit_at-lt x k) (bit_at-lt y k)
bit_of_words Difference x y k fits inside =
    let turned : bit_at (bit_not w64 y) k ≡ 1 - bit_at y k = bit_at_not w64 y k fits inside in
    ap (λ n. n == 1) (bit_at_and x (bit_not w64 y) k)
    ∙ both_bits (bit_at x k) (bit_at (bit_not w64 y) k) (bit_at-lt x k) (bit_at-lt (bit_not w64 y) k)
    ∙ ap (λ n. (bit_at x k == 1) && (n == 1)) turned
    ∙ ap (λ t. (bit_at x k == 1) && t) (other_bit (bit_at y k) (bit_at-lt y k))

-- and to the members of two sets
contains-on_sets : (o : SetOperation) (s t : Numbers) (q : ℕ) → numbers.contains (on_sets o s t) q ≡ on_tests o (numbers.contains s q) (numbers.contains t q)
unfolding on_tests
contains-on_sets Union s t q = contains-union s t q
contains-on_sets Intersection s t q = contains-intersection s t q
contains-on_sets Difference s t q = contains-difference s t q

-- zeros stay zero
zeros_stay : (o : SetOperation) → on_words o 0 0 ≡ 0
zeros_stay Union = refl
zeros_stay Intersection = refl
zeros_stay Difference = refl

-- an operation on each word is the operation on the sets
pub set_of-on_words : (o : SetOperation) (xs ys : List ℕ) → length xs ≡ length ys → ((k : ℕ) → get_or ys k 0 < 2 ^ 64)
    → set_of (zip2 (on_words o) xs ys) ≡ on_sets o (set_of xs) (set_of ys)
set_of-on_words o xs ys e fits = same_members (set_of (zip2 (on_words o) xs ys)) (on_sets o (set_of xs) (set_of ys)) (λ q.
    let inside : q % 64 < 64 = omega arith in
    contains-set_of (zip2 (on_words o) xs ys) q
    ∙ ap (λ w. bit_at w (q % 64) == 1) (word_of_each (on_words o) (zeros_stay o) xs ys e (q / 64))
    ∙ bit_of_words o (get_or xs (q / 64) 0) (get_or ys (q / 64) 0) (q % 64) (fits (q / 64)) inside
    ∙ ap (λ t. on_tests o t (bit_in ys q)) (sym (contains-set_of xs q))
    ∙ ap (λ t. on_tests o (numbers.contains (set_of xs) q) t) (sym (contains-set_of ys q))
    ∙ sym (contains-on_sets o (set_of xs) (set_of ys) q))

-- a word fits 64 bits after an operation where both do before it
word_fits : (o : SetOperation) (x y : ℕ) → x < 2 ^ 64 → y < 2 ^ 64 → on_words o x y < 2 ^ 64
word_fits Union x y l m = or_lt 64 x y l m
word_fits Intersection x y l m = omega (arith, and_le_l x y)
word_fits Difference x y l m = omega (arith, and_le_l x (bit_not w64 y))

-- and so does each word of two lists
pub words_fit : (o : SetOperation) (xs ys : List ℕ) → length xs ≡ length ys → ((k : ℕ) → get_or xs k 0 < 2 ^ 64) → ((k : ℕ) → get_or ys k 0 < 2 ^ 64) → (k : ℕ)
    → get_or (zip2 (on_words o) xs ys) k 0 < 2 ^ 64
words_fit o xs ys e fx fy k =
    subst (λ n. n < 2 ^ 64) (sym (word_of_each (on_words o) (zeros_stay o) xs ys e k)) (word_fits o (get_or xs k 0) (get_or ys k 0) (fx k) (fy k))

-- a bit is set at a number's index
pub set_of-set : (words : List ℕ) (p : ℕ) → p < 64 * length words
    → set_of (set words (p / 64) (bit_or (get_or words (p / 64) 0) (1 * 2 ^ (p % 64) % 2 ^ 64))) ≡ numbers.insert (set_of words) p
set_of-set words p l =
    let w : ℕ = get_or words (p / 64) 0 in
    let v : ℕ = bit_or w (1 * 2 ^ (p % 64) % 2 ^ 64) in
    let row : p / 64 < length words = omega arith in
    let column : p % 64 < 64 = omega arith in
    let new : List ℕ = set words (p / 64) v in
    same_members (set_of new) (numbers.insert (set_of words) p) (λ q.
    contains-set_of new q
    ∙ (elim (cases_eq (q / 64) (p / 64)) as (λ _. bit_in new q ≡ ((q == p) || bit_in words q)) [
      | inl same ↦
          let read : get_or new (q / 64) 0 ≡ v = ap (λ i. get_or new i 0) same ∙ get_or-set_same words (p / 64) v 0 row in
          let old : get_or words (q / 64) 0 ≡ w = ap (λ i. get_or words i 0) same in
          ap (λ x. bit_at x (q % 64) == 1) read
          ∙ (elim (cases_eq (q % 64) (p % 64)) as (λ _. (bit_at v (q % 64) == 1) ≡ ((q == p) || bit_in words q)) [
            | inl k ↦
                let whole : q ≡ p = omega (arith, div-add-mod q 64, div-add-mod p 64) in
                ap (λ j. bit_at v j == 1) k
                ∙ ap (λ n. n == 1) (bit_at_set_same w64 w (p % 64) column)
                ∙ sym (ap (λ t. t || bit_in words q) (eq-eqb q p whole))
            | inr k ↦
                let inside : q % 64 < 64 = omega arith in
                ap (λ n. n == 1) (bit_at_set_other w64 w (p % 64) column (q % 64) k)
                ∙ ap (λ x. bit_at x (q % 64) == 1) (sym old)
                ∙ sym (ap (λ t. t || bit_in words q) (differ q p (λ s. k (ap (λ n. n % 64) s))))
          ])
      | inr other ↦
          ap (λ x. bit_at x (q % 64) == 1) (get_or-set_other words (p / 64) (q / 64) v 0 other)
          ∙ sym (ap (λ t. t || bit_in words q) (differ q p (λ s. other (ap (λ n. n / 64) s))))
    ])
    ∙ ap (λ t. (q == p) || t) (sym (contains-set_of words q))
    ∙ sym (contains-insert (set_of words) p q))
  where
    differ : (q p : ℕ) → q ≢ p → (q == p) ≡ false
    differ q p h = grind (arith, nat_tests)

-- words of zeros hold nothing
pub set_of-zeros : (words : List ℕ) → ((i : ℕ) → get_or words i 0 ≡ 0) → set_of words ≡ numbers.empty
set_of-zeros words zeros = same_members (set_of words) numbers.empty (λ q.
    contains-set_of words q
    ∙ ap (λ w. bit_at w (q % 64) == 1) (zeros (q / 64))
    ∙ ap (λ n. n == 1) (bit_at-zero (q % 64))
    ∙ sym (contains-empty q))

-- two lists of one length that agree at each index
pub same_lists : (xs ys : List ℕ) → length xs ≡ length ys → ((i : ℕ) → get_or xs i 0 ≡ get_or ys i 0) → xs ≡ ys
same_lists [] [] e h = refl
same_lists [] (y ∷ ys) e h = absurd (omega arith)
same_lists (x ∷ xs) [] e h = absurd (omega arith)
same_lists (x ∷ xs) (y ∷ ys) e h = ap (λ z. z ∷ xs) (h 0) ∙ ap (λ zs. y ∷ zs) (same_lists xs ys (omega arith) (λ i. h (suc i)))

-- the same where they agree below their length
pub same_lists_below : (xs ys : List ℕ) (n : ℕ) → length xs ≡ length ys → length xs ≤ n → ((i : ℕ) → i < n → get_or xs i 0 ≡ get_or ys i 0) → xs ≡ ys
same_lists_below xs ys n e all h = same_lists xs ys e (λ i. elim (cases_lt i n) as (λ _. get_or xs i 0 ≡ get_or ys i 0) [
  | inl l ↦ h i l
  | inr g ↦ get_or-eq_default xs 0 (omega arith) ∙ sym (get_or-eq_default ys 0 (omega arith))
])

-- words are one to one with the set that stands in them
pub same_words : (xs ys : List ℕ) → length xs ≡ length ys → ((k : ℕ) → get_or xs k 0 < 2 ^ 64) → ((k : ℕ) → get_or ys k 0 < 2 ^ 64) → set_of xs ≡ set_of ys → xs ≡ ys
same_words xs ys e fx fy s = same_lists xs ys e (λ i. same_from_bits_below 64 (get_or xs i 0) (get_or ys i 0) (fx i) (fy i) (λ k l. same_bit i k l))
  where
    same_number : (a b : ℕ) → a < 2 → b < 2 → (a == 1) ≡ (b == 1) → a ≡ b
    same_number a b l m t = grind (arith, nat_tests)

    same_bit : (i k : ℕ) → k < 64 → bit_at (get_or xs i 0) k ≡ bit_at (get_or ys i 0) k
    same_bit i k l =
        let row : (64 * i + k) / 64 ≡ i = omega arith in
        let column : (64 * i + k) % 64 ≡ k = omega arith in
        let at_x : bit_in xs (64 * i + k) ≡ (bit_at (get_or xs i 0) k == 1) = ap (λ r. bit_at (get_or xs r 0) ((64 * i + k) % 64) == 1) row ∙ ap (λ j. bit_at (get_or xs i 0) j == 1) column in
        let at_y : bit_in ys (64 * i + k) ≡ (bit_at (get_or ys i 0) k == 1) = ap (λ r. bit_at (get_or ys r 0) ((64 * i + k) % 64) == 1) row ∙ ap (λ j. bit_at (get_or ys i 0) j == 1) column in
        let one : bit_in xs (64 * i + k) ≡ bit_in ys (64 * i + k) = sym (contains-set_of xs (64 * i + k)) ∙ ap (λ t. numbers.contains t (64 * i + k)) s ∙ contains-set_of ys (64 * i + k) in
        same_number (bit_at (get_or xs i 0) k) (bit_at (get_or ys i 0) k) (bit_at-lt (get_or xs i 0) k) (bit_at-lt (get_or ys i 0) k) (sym at_x ∙ one ∙ at_y)

-- a list of zeros is zero at each index
pub zero_everywhere : (words : List ℕ) (n : ℕ) → words ≡ replicate n 0 → (i : ℕ) → get_or words i 0 ≡ 0
zero_everywhere words n e i = ap (λ ws. get_or ws i 0) e ∙ of_copies n i
  where
    of_copies : (n i : ℕ) → get_or {A = ℕ} (replicate n 0) i 0 ≡ 0
    of_copies zero i = refl
    of_copies (suc n) zero = refl
    of_copies (suc n) (suc i) = of_copies n i
