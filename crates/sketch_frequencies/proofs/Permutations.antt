-- What entries say in any order, and after a purge.
use Rattle.std.proofs.Common.{◌≡◌, ℕ, ◌+◌, ◌-◌, Bool, true, false, cond, List, [], ◌∷◌, ◌++◌, map, refl, ap, sym, ◌∙◌, arith, ltb, sum_by, IsPermutation, unwrap_or, Some, None, Option, is_some}
use Rattle.std.specs.Cmp.{IsEquivalence}
use Rattle.std.specs.List.{IsDistinct, AllByRecursion, filter}
use Rattle.std.specs.Map.{lookup, keys_of}
use Rattle.std.proofs.lemmas.Bool.{false≢true}
use Rattle.std.proofs.lemmas.Bool.Decides.{nat_tests}
use Rattle.std.proofs.lemmas.List.Sums.{sum_by-cons}
use Rattle.counter_table.specs.Filters.{filter-permutation}
use Rattle.std.proofs.lemmas.List.Sorted.{sum_by-IsPermutation, IsPermutation-map, list_any-IsPermutation, IsPermutation-append_left, IsPermutation-trans}
use Rattle.std.proofs.lemmas.Map.Keys.{IsDistinct-head, IsDistinct-tail, IsDistinct-cons, IsDistinct-IsPermutation}
use Rattle.counter_table.specs.Tables.{count_of, is_tracked, put, purged, IsSampleMiddle}
use Rattle.sketch_frequencies.proofs.Cases.{by_test}
use Rattle.sketch_frequencies.proofs.Puts.{is_tracked-keys, put_absent}

-- an item that no key is equal to has no count
pub absent_count : {T : Type 0} {eq : T → T → Bool} → IsEquivalence eq → (k y : T) (es : List (T × ℕ)) → AllByRecursion (λ q. eq k q ≡ false) (keys_of es) → eq y k ≡ true → count_of eq es y ≡ 0
absent_count laws k y [] all h = refl
absent_count laws k y (e ∷ es) all h = rw (laws.congr y k e.0 h ∙ all.0) (absent_count laws k y es all.1 h)

-- a count as a sum, which no order changes
unfoldable pub share : {T : Type 0} → (T → T → Bool) → T → T × ℕ → ℕ
share eq y e = cond (eq y e.0) e.1 0

absent_share : {T : Type 0} {eq : T → T → Bool} → IsEquivalence eq → (k y : T) (es : List (T × ℕ)) → AllByRecursion (λ q. eq k q ≡ false) (keys_of es) → eq y k ≡ true → sum_by (share eq y) es ≡ 0
unfolding share
absent_share laws k y [] all h = refl
absent_share {eq = eq} laws k y (e ∷ es) all h =
    let none = laws.congr y k e.0 h ∙ all.0 in
    sum_by-cons (share eq y) e es ∙ rw none (omega (arith, absent_share laws k y es all.1 h))

pub share_is : {T : Type 0} (eq : T → T → Bool) (y : T) (e : T × ℕ) → share eq y e ≡ cond (eq y e.0) e.1 0
unfolding share
share_is eq y e = refl

pub count_is_sum : {T : Type 0} {eq : T → T → Bool} → IsEquivalence eq → (es : List (T × ℕ)) (y : T) → IsDistinct eq (keys_of es) → count_of eq es y ≡ sum_by (share eq y) es
count_is_sum laws [] y h = refl
count_is_sum {eq = eq} laws (e ∷ es) y h =
    let first = sum_by-cons (share eq y) e es in
    let rest = count_is_sum laws es y (IsDistinct-tail eq e.0 (keys_of es) h) in
    by_test (eq y e.0) (λ b. eq y e.0 ≡ b → share eq y e ≡ cond b e.1 0 → unwrap_or (cond b (Some e.1) (lookup (eq y) es)) 0 ≡ sum_by (share eq y) (e ∷ es))
    (λ _ is f. omega (arith, f, first, absent_share laws e.0 y es (IsDistinct-head eq e.0 (keys_of es) h) is))
    (λ _ is f. omega (arith, f, first, rest)) refl (share_is eq y e)

pub count_of-permutation : {T : Type 0} {eq : T → T → Bool} → IsEquivalence eq → (es fs : List (T × ℕ)) (y : T) → IsDistinct eq (keys_of es) → IsPermutation es fs → count_of eq fs y ≡ count_of eq es y
count_of-permutation {eq = eq} laws es fs y h p =
    count_is_sum laws fs y (IsDistinct-IsPermutation eq laws.symm (keys_of es) (keys_of fs) (IsPermutation-map (λ e. e.0) es fs p) h)
    ∙ sum_by-IsPermutation (share eq y) es fs p ∙ sym (count_is_sum laws es y h)

pub is_tracked-permutation : {T : Type 0} {eq : T → T → Bool} → IsEquivalence eq → (es fs : List (T × ℕ)) (y : T) → IsPermutation es fs → is_tracked eq fs y ≡ is_tracked eq es y
is_tracked-permutation {eq = eq} laws es fs y p =
    is_tracked-keys eq fs y ∙ sym (list_any-IsPermutation (eq y) (keys_of es) (keys_of fs) (IsPermutation-map (λ e. e.0) es fs p)) ∙ sym (is_tracked-keys eq es y)

-- `put` where the item is tracked, in any order
pub bumped : {T : Type 0} → (T → T → Bool) → T → ℕ → T × ℕ → T × ℕ
bumped eq x w e = cond (eq x e.0) (e.0, e.1 + w) e

bumped_none : {T : Type 0} {eq : T → T → Bool} → IsEquivalence eq → (k x : T) (w : ℕ) (es : List (T × ℕ)) → AllByRecursion (λ q. eq k q ≡ false) (keys_of es) → eq x k ≡ true → map (bumped eq x w) es ≡ es
unfolding bumped
bumped_none laws k x w [] all h = refl
bumped_none laws k x w (e ∷ es) all h = rw (laws.congr x k e.0 h ∙ all.0, bumped_none laws k x w es all.1 h) refl

pub put_tracked : {T : Type 0} {eq : T → T → Bool} → IsEquivalence eq → (es : List (T × ℕ)) (x : T) (w : ℕ) → IsDistinct eq (keys_of es) → is_tracked eq es x ≡ true → put eq es x w ≡ map (bumped eq x w) es
unfolding bumped
put_tracked {eq = eq} laws [] x w h t = absurd (false≢true t)
put_tracked {eq = eq} laws (e ∷ es) x w h t =
    by_test (eq x e.0) (λ b. eq x e.0 ≡ b → is_some (cond b (Some e.1) (lookup (eq x) es)) ≡ true → cond b ((e.0, e.1 + w) ∷ es) (e ∷ put eq es x w) ≡ cond b (e.0, e.1 + w) e ∷ map (bumped eq x w) es)
    (λ _ is _. ap (λ l. (e.0, e.1 + w) ∷ l) (sym (bumped_none laws e.0 x w es (IsDistinct-head eq e.0 (keys_of es) h) is)))
    (λ _ _ there. ap (λ l. e ∷ l) (put_tracked laws es x w (IsDistinct-tail eq e.0 (keys_of es) h) there)) refl t

none_from_is_some : (o : Option ℕ) → is_some o ≡ false → o ≡ None
none_from_is_some None h = refl
none_from_is_some (Some v) h = absurd (false≢true (sym h))

pub put-permutation : {T : Type 0} {eq : T → T → Bool} → IsEquivalence eq → (es fs : List (T × ℕ)) (x : T) (w : ℕ) → IsDistinct eq (keys_of es) → IsPermutation es fs → IsPermutation (put eq es x w) (put eq fs x w)
put-permutation {eq = eq} laws es fs x w h p =
    by_test (is_tracked eq es x) (λ b. is_tracked eq es x ≡ b → IsPermutation (put eq es x w) (put eq fs x w))
    (λ _ is. rw (put_tracked laws es x w h is, put_tracked laws fs x w (IsDistinct-IsPermutation eq laws.symm (keys_of es) (keys_of fs) (IsPermutation-map (λ e. e.0) es fs p) h) (is_tracked-permutation laws es fs x p ∙ is)) (IsPermutation-map (bumped eq x w) es fs p))
    (λ _ is. rw (put_absent eq es x w (none_from_is_some _ is), put_absent eq fs x w (none_from_is_some _ (is_tracked-permutation laws es fs x p ∙ is))) (IsPermutation-append_left ((x, w) ∷ []) es fs p)) refl

-- a purge
pub keys_of-purged : {T : Type 0} {eq : T → T → Bool} → IsEquivalence eq → (m : ℕ) (es : List (T × ℕ)) (k : T) → AllByRecursion (λ q. eq k q ≡ false) (keys_of es) → AllByRecursion (λ q. eq k q ≡ false) (keys_of (purged m es))
keys_of-purged laws m [] k h = tt
keys_of-purged {eq = eq} laws m (e ∷ es) k h =
    by_test (ltb m e.1) (λ b. AllByRecursion (λ q. eq k q ≡ false) (keys_of (map (λ e. (e.0, e.1 - m)) (cond b (e ∷ filter (λ e. ltb m e.1) es) (filter (λ e. ltb m e.1) es)))))
    (λ _. (h.0, keys_of-purged laws m es k h.1)) (λ _. keys_of-purged laws m es k h.1)

pub IsDistinct-purged : {T : Type 0} {eq : T → T → Bool} → IsEquivalence eq → (m : ℕ) (es : List (T × ℕ)) → IsDistinct eq (keys_of es) → IsDistinct eq (keys_of (purged m es))
IsDistinct-purged laws m [] h = h
IsDistinct-purged {eq = eq} laws m (e ∷ es) h =
    let rest = IsDistinct-purged laws m es (IsDistinct-tail eq e.0 (keys_of es) h) in
    by_test (ltb m e.1) (λ b. IsDistinct eq (keys_of (map (λ e. (e.0, e.1 - m)) (cond b (e ∷ filter (λ e. ltb m e.1) es) (filter (λ e. ltb m e.1) es)))))
    (λ _. IsDistinct-cons eq e.0 _ (keys_of-purged laws m es e.0 (IsDistinct-head eq e.0 (keys_of es) h)) rest) (λ _. rest)

pub count_of-purged : {T : Type 0} {eq : T → T → Bool} → IsEquivalence eq → (m : ℕ) (es : List (T × ℕ)) (y : T) → IsDistinct eq (keys_of es) → count_of eq (purged m es) y ≡ count_of eq es y - m
count_of-purged laws m [] y h = omega arith
count_of-purged {eq = eq} laws m (e ∷ es) y h =
    let rest = count_of-purged laws m es y (IsDistinct-tail eq e.0 (keys_of es) h) in
    by_test (eq y e.0) (λ b. eq y e.0 ≡ b → count_of eq (purged m (e ∷ es)) y ≡ unwrap_or (cond b (Some e.1) (lookup (eq y) es)) 0 - m)
    (λ _ is. by_test (ltb m e.1) (λ c. ltb m e.1 ≡ c → count_of eq (map (λ e. (e.0, e.1 - m)) (cond c (e ∷ filter (λ e. ltb m e.1) es) (filter (λ e. ltb m e.1) es))) y ≡ e.1 - m)
    (λ _ _. rw is refl)
    (λ _ low. let gone = absent_count laws e.0 y es (IsDistinct-head eq e.0 (keys_of es) h) is in grind (arith, nat_tests, rest, gone, low)) refl)
    (λ _ is. by_test (ltb m e.1) (λ c. count_of eq (map (λ e. (e.0, e.1 - m)) (cond c (e ∷ filter (λ e. ltb m e.1) es) (filter (λ e. ltb m e.1) es))) y ≡ count_of eq es y - m)
    (λ _. rw is rest) (λ _. rest)) refl

pub purged-permutation : {T : Type 0} (m : ℕ) (es fs : List (T × ℕ)) → IsPermutation es fs → IsPermutation (purged m es) (purged m fs)
purged-permutation {T} m es fs h = let f : T × ℕ → T × ℕ = λ e. (e.0, e.1 - m) in IsPermutation-map f (filter (λ (e : T × ℕ). ltb m e.1) es) (filter (λ (e : T × ℕ). ltb m e.1) fs) (filter-permutation (λ (e : T × ℕ). ltb m e.1) es fs h)

pub IsSampleMiddle-permutation : {T : Type 0} (n m : ℕ) (es fs : List (T × ℕ)) → IsPermutation es fs → IsSampleMiddle n fs m → IsSampleMiddle n es m
IsSampleMiddle-permutation n m es fs p h = record { sample = h.sample; rest = h.rest; is_part = IsPermutation-trans es fs (h.sample ++ h.rest) p h.is_part; size = h.size; below = h.below; at_most = h.at_most; among = h.among }
