-- What `put` does to the keys, the counts and the sums.
use Rattle.std.proofs.Common.{◌≡◌, ℕ, ◌+◌, ◌<◌, ◌≤◌, Bool, true, cond, List, [], ◌∷◌, ◌++◌, length, None, refl, arith}
use Rattle.std.proofs.Math.ListN.{set}
use Rattle.std.proofs.lemmas.Bool.{false≢true}
use Rattle.std.specs.Cmp.{IsEquivalence}
use Rattle.std.specs.List.{IsDistinct, list_any, All}
use Rattle.std.specs.Map.{lookup, keys_of}
use Rattle.std.proofs.lemmas.Map.Keys.{IsDistinct-push}
use Rattle.std.proofs.lemmas.List.Sums.{sum_by-cons}
use Rattle.std.proofs.lemmas.List.Elements.{All-cons, All-nil, All-head, All-tail}
use Rattle.counter_table.specs.Tables.{count_by_key, count_of, is_tracked, put, sum_of, sum_outside}
use Rattle.sketch_frequencies.proofs.Cases.{by_test}

-- a push of an item that is not there
pub put_absent : {T : Type 0} (eq : T → T → Bool) (es : List (T × ℕ)) (x : T) (w : ℕ) → lookup (eq x) es ≡ None → put eq es x w ≡ es ++ (x, w) ∷ []
put_absent eq [] x w h = refl
put_absent eq (e ∷ es) x w h = grind (arith, put_absent eq es x w)

-- the keys
pub keys_of-put : {T : Type 0} (eq : T → T → Bool) (es : List (T × ℕ)) (x : T) (w : ℕ) → keys_of (put eq es x w) ≡ cond (is_tracked eq es x) (keys_of es) (keys_of es ++ x ∷ [])
keys_of-put eq [] x w = refl
keys_of-put eq (e ∷ es) x w = grind (arith, keys_of-put eq es x w)

pub is_tracked-keys : {T : Type 0} (eq : T → T → Bool) (es : List (T × ℕ)) (x : T) → is_tracked eq es x ≡ list_any (eq x) (keys_of es)
is_tracked-keys eq [] x = refl
is_tracked-keys eq (e ∷ es) x = grind (arith, is_tracked-keys eq es x)

push_or_not : {T : Type 0} {eq : T → T → Bool} → IsEquivalence eq → (ks : List T) (x : T) → IsDistinct eq ks → IsDistinct eq (cond (list_any (eq x) ks) ks (ks ++ x ∷ []))
push_or_not {eq = eq} laws ks x h = by_test (list_any (eq x) ks) (λ b. IsDistinct eq (cond b ks (ks ++ x ∷ []))) (λ _. h) (λ absent. IsDistinct-push laws ks x h absent)

pub IsDistinct-put : {T : Type 0} {eq : T → T → Bool} → IsEquivalence eq → (es : List (T × ℕ)) (x : T) (w : ℕ) → IsDistinct eq (keys_of es) → IsDistinct eq (keys_of (put eq es x w))
IsDistinct-put {eq = eq} laws es x w h = rw (keys_of-put eq es x w) (rw (is_tracked-keys eq es x) (push_or_not laws (keys_of es) x h))

pub length-put : {T : Type 0} (eq : T → T → Bool) (es : List (T × ℕ)) (x : T) (w : ℕ) → length (put eq es x w) ≡ cond (is_tracked eq es x) (length es) (length es + 1)
length-put eq [] x w = refl
length-put eq (e ∷ es) x w = grind (arith, length-put eq es x w)

pub length_put_le : {T : Type 0} (eq : T → T → Bool) (es : List (T × ℕ)) (x : T) (w : ℕ) → length (put eq es x w) ≤ length es + 1
length_put_le eq es x w = grind (arith, length-put eq es x w)

-- each count
pub count_of-put : {T : Type 0} {eq : T → T → Bool} → IsEquivalence eq → (es : List (T × ℕ)) (x : T) (w : ℕ) (y : T) → count_of eq (put eq es x w) y ≡ cond (eq x y) (count_of eq es y + w) (count_of eq es y)
count_of-put laws [] x w y = grind (arith, laws.symm)
count_of-put laws (e ∷ es) x w y = grind (arith, count_of-put laws es x w y, laws.symm, laws.congr)

-- the sums
pub same_set_test : {T : Type 0} {eq : T → T → Bool} → IsEquivalence eq → (set : List T) (x y : T) → eq x y ≡ true → list_any (eq x) set ≡ list_any (eq y) set
same_set_test laws [] x y h = refl
same_set_test laws (z ∷ set) x y h = rw (laws.congr x y z h, same_set_test laws set x y h) refl

pub count_by_key_le_sum : {T : Type 0} (names : T → Bool) (es : List (T × ℕ)) → count_by_key names es ≤ sum_of es
count_by_key_le_sum names [] = omega arith
count_by_key_le_sum names (e ∷ es) = grind (arith, count_by_key_le_sum names es, sum_by-cons (λ (e : _ × ℕ). e.1) e es)

pub count_le_sum : {T : Type 0} (eq : T → T → Bool) (es : List (T × ℕ)) (x : T) → count_of eq es x ≤ sum_of es
count_le_sum eq es x = count_by_key_le_sum (eq x) es

pub sum_of-put : {T : Type 0} (eq : T → T → Bool) (es : List (T × ℕ)) (x : T) (w : ℕ) → sum_of (put eq es x w) ≡ sum_of es + w
sum_of-put eq [] x w = refl
sum_of-put {T} eq (e ∷ es) x w =
    let f : T × ℕ → ℕ = λ e. e.1 in
    by_test (eq x e.0) (λ b. sum_of (cond b ((e.0, e.1 + w) ∷ es) (e ∷ put eq es x w)) ≡ sum_of (e ∷ es) + w)
    (λ _. omega (arith, sum_by-cons f (e.0, e.1 + w) es, sum_by-cons f e es))
    (λ _. omega (arith, sum_by-cons f e (put eq es x w), sum_by-cons f e es, sum_of-put eq es x w))

pub sum_outside-put : {T : Type 0} {eq : T → T → Bool} → IsEquivalence eq → (set : List T) (es : List (T × ℕ)) (x : T) (w : ℕ) → sum_outside eq set (put eq es x w) ≡ sum_outside eq set es + cond (list_any (eq x) set) 0 w
sum_outside-put laws set [] x w = refl
sum_outside-put {T} {eq} laws set (e ∷ es) x w =
    let f : T × ℕ → ℕ = λ e. cond (list_any (eq e.0) set) 0 e.1 in
    by_test (eq x e.0) (λ b. eq x e.0 ≡ b → sum_outside eq set (cond b ((e.0, e.1 + w) ∷ es) (e ∷ put eq es x w)) ≡ sum_outside eq set (e ∷ es) + cond (list_any (eq x) set) 0 w)
    (λ _ yes'. let same = same_set_test laws set x e.0 yes' in grind (arith, sum_by-cons f (e.0, e.1 + w) es, sum_by-cons f e es, same))
    (λ _ _. omega (arith, sum_by-cons f e (put eq es x w), sum_by-cons f e es, sum_outside-put laws set es x w)) refl

pub positive-put : {T : Type 0} (eq : T → T → Bool) (es : List (T × ℕ)) (x : T) (w : ℕ) → 0 < w → All (λ e. 0 < e.1) es → All (λ e. 0 < e.1) (put eq es x w)
positive-put {T} eq [] x w h all = let P : T × ℕ → Type 0 = λ e. 0 < e.1 in All-cons P (x, w) [] h (All-nil P)
positive-put eq (e ∷ es) x w h all = by_test (eq x e.0) (λ b. All (λ e. 0 < e.1) (cond b ((e.0, e.1 + w) ∷ es) (e ∷ put eq es x w))) (λ _. All-cons (λ e. 0 < e.1) _ es (omega (arith, All-head (λ e. 0 < e.1) e es all)) (All-tail (λ e. 0 < e.1) e es all)) (λ _. All-cons (λ e. 0 < e.1) e _ (All-head (λ e. 0 < e.1) e es all) (positive-put eq es x w h (All-tail (λ e. 0 < e.1) e es all)))

-- a tracked item has a count above 0
pub positive_from_tracked : {T : Type 0} (eq : T → T → Bool) (es : List (T × ℕ)) (y : T) → All (λ e. 0 < e.1) es → list_any (eq y) (keys_of es) ≡ true → 0 < count_of eq es y
positive_from_tracked eq [] y all h = absurd (false≢true h)
positive_from_tracked eq (e ∷ es) y all h = grind (arith, positive_from_tracked eq es y (All-tail (λ e. 0 < e.1) e es all), All-head (λ e. 0 < e.1) e es all, h)
