-- The middle of counts that are split around it.
use Rattle.std.proofs.Common.{◌≡◌, ℕ, ◌+◌, ◌/◌, ◌≤◌, Bool, true, false, cond, List, [], ◌∷◌, ◌++◌, length, map, take, drop, inl, inr, refl, ap, sym, ◌∙◌, arith, ltb, leb, eqb, IsPermutation, count_by, length-take, eq-eqb}
use Rattle.std.specs.List.{list_any, All}
use Rattle.std.specs.List.Sorted.{IsSplitAround}
use Rattle.std.specs.Ordering.{nat_cmp}
use Rattle.std.proofs.lemmas.List.{take-append-drop}
use Rattle.std.proofs.lemmas.Bool.{cases_Bool, le-ltb, le-leb}
use Rattle.std.proofs.lemmas.List.Elements.{All-head, All-tail, All-from_get_or}
use Rattle.std.proofs.lemmas.List.Sums.{sum_by-cons, sum_by-append, count_by-le-length}
use Rattle.std.proofs.lemmas.List.Sorted.{sum_by-IsPermutation, list_any-IsPermutation, IsPermutation-refl}
use Rattle.std.proofs.lemmas.Map.Keys.{ge_from_not_lt}
use Rattle.counter_table.specs.Tables.{IsSampleMiddle}

-- a count of none, and of all
pub count_none : {X : Type 0} (p : X → Bool) (xs : List X) → All (λ x. p x ≡ false) xs → count_by p xs ≡ 0
count_none p [] h = refl
count_none {X} p (x ∷ xs) h = let f : X → ℕ = λ x. cond (p x) 1 0 in sum_by-cons f x xs ∙ rw (All-head (λ x. p x ≡ false) x xs h) (omega (arith, count_none p xs (All-tail (λ x. p x ≡ false) x xs h)))

pub count_all : {X : Type 0} (p : X → Bool) (xs : List X) → All (λ x. p x ≡ true) xs → count_by p xs ≡ length xs
count_all p [] h = refl
count_all {X} p (x ∷ xs) h = let f : X → ℕ = λ x. cond (p x) 1 0 in sum_by-cons f x xs ∙ rw (All-head (λ x. p x ≡ true) x xs h) (omega (arith, count_all p xs (All-tail (λ x. p x ≡ true) x xs h)))

-- the same count over the numbers
pub count_by-map : {X : Type 0} (f : X → ℕ) (p : ℕ → Bool) (xs : List X) → count_by p (map f xs) ≡ count_by (λ x. p (f x)) xs
count_by-map f p [] = refl
count_by-map {X} f p (x ∷ xs) = let a : ℕ → ℕ = λ v. cond (p v) 1 0 in let b : X → ℕ = λ x. cond (p (f x)) 1 0 in sum_by-cons a (f x) (map f xs) ∙ ap (λ n. b x + n) (count_by-map f p xs) ∙ sym (sum_by-cons b x xs)

list_any-map : {X : Type 0} (f : X → ℕ) (p : ℕ → Bool) (xs : List X) → list_any p (map f xs) ≡ list_any (λ x. p (f x)) xs
list_any-map f p [] = refl
list_any-map f p (x ∷ xs) = rw (list_any-map f p xs) refl

-- numbers that are split around one: none in front of it is greater, and none behind it is less
low_count : (front : List ℕ) (m : ℕ) (back : List ℕ) → IsSplitAround nat_cmp front m back → count_by (λ v. ltb v m) (front ++ m ∷ back) ≤ length front
low_count front m back s =
    let p : ℕ → Bool = λ v. ltb v m in
    let f : ℕ → ℕ = λ v. cond (p v) 1 0 in
    let none : count_by p back ≡ 0 = count_none p back (All-from_get_or (λ v. p v ≡ false) back 0 (λ i l. le-ltb _ _ (ge_from_not_lt _ _ (s.1 i 0 l)))) in
    let same : p m ≡ false = le-ltb m m (omega arith) in
    omega (arith, sum_by-append f front (m ∷ back), sum_by-cons f m back, ap {B = ℕ} (λ b. cond b 1 0) same, none, count_by-le-length p front)

high_count : (front : List ℕ) (m : ℕ) (back : List ℕ) → IsSplitAround nat_cmp front m back → length front + 1 ≤ count_by (λ v. leb v m) (front ++ m ∷ back)
high_count front m back s =
    let p : ℕ → Bool = λ v. leb v m in
    let f : ℕ → ℕ = λ v. cond (p v) 1 0 in
    let all : count_by p front ≡ length front = count_all p front (All-from_get_or (λ v. p v ≡ true) front 0 (λ i l. le-leb _ _ (ge_from_not_lt m _ (s.0 i 0 l)))) in
    let same : p m ≡ true = le-leb m m (omega arith) in
    omega (arith, sum_by-append f front (m ∷ back), sum_by-cons f m back, ap {B = ℕ} (λ b. cond b 1 0) same, all)

any_at : (front : List ℕ) (m : ℕ) (back : List ℕ) → list_any (λ v. eqb v m) (front ++ m ∷ back) ≡ true
any_at [] m back = rw (eq-eqb m m refl) refl
any_at (v ∷ front) m back = elim (cases_Bool (eqb v m)) [
  | inl t ↦ rw t refl
  | inr f ↦ rw f (any_at front m back)
]

-- the middle of the first n counts, by a split around it
pub IsSampleMiddle-from_split : {T : Type 0} (n : ℕ) (es : List (T × ℕ)) (front : List ℕ) (m : ℕ) (back : List ℕ) → n ≤ length es → length front ≡ n / 2 → IsPermutation (map (λ e. e.1) (take n es)) (front ++ m ∷ back) → IsSplitAround nat_cmp front m back → IsSampleMiddle n es m
IsSampleMiddle-from_split {T} n es front m back short half p s =
    let num : T × ℕ → ℕ = λ e. e.1 in
    let part = take n es in
    let ys = front ++ m ∷ back in
    let count = λ (q : ℕ → Bool). sum_by-IsPermutation (λ v. cond (q v) 1 0) (map num part) ys p ∙ count_by-map num q part in
    record {
      sample = part;
      rest = drop n es;
      is_part = rw (take-append-drop n es) (IsPermutation-refl es);
      size = length-take n es ∙ omega arith;
      below = omega (arith, half, count (λ v. ltb v m), low_count front m back s);
      at_most = omega (arith, half, count (λ v. leb v m), high_count front m back s);
      among = sym (list_any-map num (λ v. eqb v m) part) ∙ list_any-IsPermutation (λ v. eqb v m) (map num part) ys p ∙ any_at front m back;
    }
