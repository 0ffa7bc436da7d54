-- What a purge takes from the sums.
use Rattle.std.proofs.Common.{◌≡◌, ℕ, ◌+◌, ◌-◌, ◌*◌, ◌/◌, ◌≤◌, Bool, true, false, cond, not, ◌&&◌, ◌||◌, List, [], ◌∷◌, ◌++◌, length, map, refl, ap, ◌∙◌, arith, count_by, IsPermutation, ltb, leb}
use Rattle.std.specs.Cmp.{IsEquivalence}
use Rattle.std.specs.List.{IsDistinct, list_any, filter, AllByRecursion}
use Rattle.std.specs.Map.{keys_of}
use Rattle.std.proofs.lemmas.Bool.{false≢true, leb-true}
use Rattle.std.proofs.lemmas.Bool.Decides.{nat_tests}
use Rattle.std.proofs.lemmas.List.Sums.{sum_by-cons, sum_by-append, length-filter}
use Rattle.std.proofs.lemmas.List.Sorted.{sum_by-IsPermutation}
use Rattle.std.proofs.lemmas.Map.Made.{length-le_from_is_member}
use Rattle.counter_table.specs.Tables.{sum_outside, purged, IsSampleMiddle}
use Rattle.std.proofs.lemmas.List.{length-map}
use Rattle.std.proofs.lemmas.Map.Entries.{length-keys_of}
use Rattle.std.proofs.lemmas.Map.Keys.{IsDistinct-head, IsDistinct-tail, IsDistinct-cons}
use Rattle.sketch_frequencies.proofs.Cases.{by_test}
use Rattle.sketch_frequencies.proofs.Puts.{same_set_test}

-- how many entries outside the set have at least m
abbrev pub heavy_outside : {T : Type 0} → (T → T → Bool) → List T → ℕ → List (T × ℕ) → ℕ
heavy_outside eq set m es = count_by (λ e. not (list_any (eq e.0) set) && leb m e.1) es

-- each of them loses m, and no entry gains
pub purge_takes : {T : Type 0} (eq : T → T → Bool) (set : List T) (m : ℕ) (es : List (T × ℕ)) → sum_outside eq set (purged m es) + heavy_outside eq set m es * m ≤ sum_outside eq set es
purge_takes eq set m [] = omega arith
purge_takes {T} eq set m (e ∷ es) =
    let f : T × ℕ → ℕ = λ e. cond (list_any (eq e.0) set) 0 e.1 in
    let g : T × ℕ → ℕ = λ e. cond (not (list_any (eq e.0) set) && leb m e.1) 1 0 in
    let rest = purge_takes eq set m es in
    let less : T × ℕ = (e.0, e.1 - m) in
    let left = purged m es in
    let after : List (T × ℕ) → ℕ = λ l. sum_outside eq set l in
    let whole : after (e ∷ es) ≡ f e + after es = sum_by-cons f e es in
    let counted : heavy_outside eq set m (e ∷ es) ≡ g e + heavy_outside eq set m es = sum_by-cons g e es in
    by_test (list_any (eq e.0) set) (λ b. list_any (eq e.0) set ≡ b → after (purged m (e ∷ es)) + heavy_outside eq set m (e ∷ es) * m ≤ after (e ∷ es))
    (λ _ is.
    let none : g e ≡ 0 = ap (λ b. cond (not b && leb m e.1) 1 0) is in
    let same : heavy_outside eq set m (e ∷ es) * m ≡ heavy_outside eq set m es * m = ap (λ n. n * m) (counted ∙ ap (λ n. n + heavy_outside eq set m es) none ∙ omega arith) in
    let zero_before : f e ≡ 0 = ap (λ b. cond b 0 e.1) is in
    let zero_after : f less ≡ 0 = ap (λ b. cond b 0 (e.1 - m)) is in
    by_test (ltb m e.1) (λ d. after (map (λ e. (e.0, e.1 - m)) (cond d (e ∷ filter (λ e. ltb m e.1) es) (filter (λ e. ltb m e.1) es))) + heavy_outside eq set m (e ∷ es) * m ≤ after (e ∷ es))
    (λ _. omega (arith, sum_by-cons f less left, same, zero_before, zero_after, whole, rest))
    (λ _. omega (arith, same, zero_before, whole, rest)))
    (λ _ is.
    let before : f e ≡ e.1 = ap (λ b. cond b 0 e.1) is in
    let later : f less ≡ e.1 - m = ap (λ b. cond b 0 (e.1 - m)) is in
    let at : g e ≡ cond (leb m e.1) 1 0 = ap (λ b. cond (not b && leb m e.1) 1 0) is in
    by_test (leb m e.1) (λ c. leb m e.1 ≡ c → after (purged m (e ∷ es)) + heavy_outside eq set m (e ∷ es) * m ≤ after (e ∷ es))
    (λ _ high.
    let one : g e ≡ 1 = at ∙ ap (λ c. cond c 1 0) high in
    let same : heavy_outside eq set m (e ∷ es) * m ≡ (1 + heavy_outside eq set m es) * m = ap (λ n. n * m) (counted ∙ ap (λ n. n + heavy_outside eq set m es) one) in
    by_test (ltb m e.1) (λ d. after (map (λ e. (e.0, e.1 - m)) (cond d (e ∷ filter (λ e. ltb m e.1) es) (filter (λ e. ltb m e.1) es))) + heavy_outside eq set m (e ∷ es) * m ≤ after (e ∷ es))
    (λ _. omega (arith, sum_by-cons f less left, same, before, later, whole, rest, leb-true m e.1 high))
    (λ _. omega (arith, same, before, whole, rest, leb-true m e.1 high)))
    (λ _ low.
    let none : g e ≡ 0 = at ∙ ap (λ c. cond c 1 0) low in
    let same : heavy_outside eq set m (e ∷ es) * m ≡ heavy_outside eq set m es * m = ap (λ n. n * m) (counted ∙ ap (λ n. n + heavy_outside eq set m es) none ∙ omega arith) in
    by_test (ltb m e.1) (λ d. after (map (λ e. (e.0, e.1 - m)) (cond d (e ∷ filter (λ e. ltb m e.1) es) (filter (λ e. ltb m e.1) es))) + heavy_outside eq set m (e ∷ es) * m ≤ after (e ∷ es))
    (λ _. omega (arith, sum_by-cons f less left, same, before, later, whole, rest))
    (λ _. omega (arith, same, before, whole, rest))) refl) refl

-- counts, element by element
count_split : {X : Type 0} (p q : X → Bool) → ((x : X) → cond (p x) 1 0 + cond (q x) 1 0 ≡ 1) → (xs : List X) → count_by p xs + count_by q xs ≡ length xs
count_split p q one [] = refl
count_split {X} p q one (x ∷ xs) = let f : X → ℕ = λ x. cond (p x) 1 0 in let g : X → ℕ = λ x. cond (q x) 1 0 in omega (arith, sum_by-cons f x xs, sum_by-cons g x xs, one x, count_split p q one xs)

count_within : {X : Type 0} (p q r : X → Bool) → ((x : X) → cond (p x) 1 0 ≤ cond (q x) 1 0 + cond (r x) 1 0) → (xs : List X) → count_by p xs ≤ count_by q xs + count_by r xs
count_within p q r one [] = omega arith
count_within {X} p q r one (x ∷ xs) = let f : X → ℕ = λ x. cond (p x) 1 0 in let g : X → ℕ = λ x. cond (q x) 1 0 in let h : X → ℕ = λ x. cond (r x) 1 0 in omega (arith, sum_by-cons f x xs, sum_by-cons g x xs, sum_by-cons h x xs, one x, count_within p q r one xs)

count_in_part : {X : Type 0} (p : X → Bool) (xs ys zs : List X) → IsPermutation xs (ys ++ zs) → count_by p ys ≤ count_by p xs
count_in_part {X} p xs ys zs h = let f : X → ℕ = λ x. cond (p x) 1 0 in omega (arith, sum_by-IsPermutation f xs (ys ++ zs) h, sum_by-append f ys zs)

low_or_high : (m v : ℕ) → cond (ltb v m) 1 0 + cond (leb m v) 1 0 ≡ 1
low_or_high m v = grind (arith, nat_tests)

high_or_low : (m v : ℕ) → cond (ltb m v) 1 0 + cond (leb v m) 1 0 ≡ 1
high_or_low m v = grind (arith, nat_tests)

in_or_out : (b c : Bool) → cond c 1 0 ≤ cond (not b && c) 1 0 + cond b 1 0
in_or_out true c = grind arith
in_or_out false c = omega arith

-- the entries that pass a test still have different keys
filter_apart : {T : Type 0} (eq : T → T → Bool) (p : T × ℕ → Bool) (k : T) (es : List (T × ℕ)) → AllByRecursion (λ q. eq k q ≡ false) (keys_of es) → AllByRecursion (λ q. eq k q ≡ false) (keys_of (filter p es))
filter_apart eq p k [] h = tt
filter_apart eq p k (e ∷ es) h = by_test (p e) (λ b. AllByRecursion (λ q. eq k q ≡ false) (keys_of (cond b (e ∷ filter p es) (filter p es)))) (λ _. (h.0, filter_apart eq p k es h.1)) (λ _. filter_apart eq p k es h.1)

IsDistinct-filter : {T : Type 0} (eq : T → T → Bool) (p : T × ℕ → Bool) (es : List (T × ℕ)) → IsDistinct eq (keys_of es) → IsDistinct eq (keys_of (filter p es))
IsDistinct-filter eq p [] h = h
IsDistinct-filter eq p (e ∷ es) h =
    let rest = IsDistinct-filter eq p es (IsDistinct-tail eq e.0 (keys_of es) h) in
    by_test (p e) (λ b. IsDistinct eq (keys_of (cond b (e ∷ filter p es) (filter p es)))) (λ _. IsDistinct-cons eq e.0 (keys_of (filter p es)) (filter_apart eq p e.0 es (IsDistinct-head eq e.0 (keys_of es) h)) rest) (λ _. rest)

in_set : {T : Type 0} {eq : T → T → Bool} → IsEquivalence eq → (set : List T) (es : List (T × ℕ)) (q : T) → list_any (eq q) (keys_of (filter (λ e. list_any (eq e.0) set) es)) ≡ true → list_any (eq q) set ≡ true
in_set laws set [] q h = absurd (false≢true h)
in_set {eq = eq} laws set (e ∷ es) q h =
    by_test (list_any (eq e.0) set) (λ b. list_any (eq e.0) set ≡ b → list_any (eq q) (keys_of (cond b (e ∷ filter (λ e. list_any (eq e.0) set) es) (filter (λ e. list_any (eq e.0) set) es))) ≡ true → list_any (eq q) set ≡ true)
    (λ _ is there. by_test (eq q e.0) (λ c. eq q e.0 ≡ c → (c || list_any (eq q) (keys_of (filter (λ e. list_any (eq e.0) set) es))) ≡ true → list_any (eq q) set ≡ true)
    (λ _ same _. same_set_test laws set q e.0 same ∙ is) (λ _ _ later. in_set laws set es q later) refl there)
    (λ _ _ there. in_set laws set es q there) refl h

-- at least half of the sample, rounded up, has at least m
pub heavy : {T : Type 0} (n m : ℕ) (es : List (T × ℕ)) → IsSampleMiddle n es m → n ≤ count_by (λ e. leb m e.1) es + n / 2
heavy {T} n m es h = omega (arith, h.below, h.size, count_split (λ (e : T × ℕ). ltb e.1 m) (λ e. leb m e.1) (λ e. low_or_high m e.1) h.sample, count_in_part (λ (e : T × ℕ). leb m e.1) es h.sample h.rest h.is_part)

-- of those, the set holds at most as many as it has items
pub heavy_apart : {T : Type 0} {eq : T → T → Bool} → IsEquivalence eq → (set : List T) (m : ℕ) (es : List (T × ℕ)) → IsDistinct eq (keys_of es) → count_by (λ e. leb m e.1) es ≤ heavy_outside eq set m es + length set
heavy_apart {T} {eq} laws set m es h =
    let inside : T × ℕ → Bool = λ e. list_any (eq e.0) set in
    let held : length (keys_of (filter inside es)) ≤ length set = length-le_from_is_member laws (keys_of (filter inside es)) set (IsDistinct-filter eq inside es h) (λ q there. in_set laws set es q there) in
    omega (arith, count_within (λ (e : T × ℕ). leb m e.1) (λ e. not (inside e) && leb m e.1) inside (λ e. in_or_out (inside e) (leb m e.1)) es, held, length-keys_of (filter inside es), length-filter inside es)

-- a purge makes room
pub purged_shorter : {T : Type 0} (n m : ℕ) (es : List (T × ℕ)) → IsSampleMiddle n es m → length (purged m es) + (n / 2 + 1) ≤ length es
purged_shorter {T} n m es h = let p : T × ℕ → Bool = λ e. ltb m e.1 in omega (arith, h.at_most, count_in_part (λ (e : T × ℕ). leb e.1 m) es h.sample h.rest h.is_part, count_split p (λ e. leb e.1 m) (λ e. high_or_low m e.1) es, length-filter p es, length-map {B = T × ℕ} (filter p es) (λ e. (e.0, e.1 - m)))
