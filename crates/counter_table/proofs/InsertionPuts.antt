-- What `put` makes of the entries, of an item that is tracked and of one that is not.
use Rattle.std.proofs.Common.{◌≡◌, ℕ, ◌+◌, Bool, true, false, List, [], ◌∷◌, ◌++◌, length, refl, ap, sym, ◌∙◌, arith, IsPermutation, Option, None, Some, is_some, length-append}
use Rattle.std.specs.Cmp.{IsEquivalence}
use Rattle.std.specs.List.{IsDistinct, list_any}
use Rattle.std.specs.Map.{lookup, keys_of}
use Rattle.std.proofs.lemmas.Bool.{false≢true}
use Rattle.std.proofs.lemmas.List.{map-append}
use Rattle.std.proofs.lemmas.List.Sorted.{IsPermutation-map, list_any-IsPermutation}
use Rattle.std.proofs.lemmas.Map.Entries.{length-keys_of}
use Rattle.std.proofs.lemmas.Map.Keys.{IsDistinct-push}
use Rattle.counter_table.specs.Tables.{is_tracked, put}

-- ---- what is tracked
pub is_tracked-keys : {T : Type 0} (eq : T → T → Bool) (es : List (T × ℕ)) (x : T) → is_tracked eq es x ≡ list_any (eq x) (keys_of es)
is_tracked-keys eq [] x = refl
is_tracked-keys eq (e ∷ es) x = grind (arith, is_tracked-keys eq es x)

pub is_tracked-permutation : {T : Type 0} (eq : T → T → Bool) (es fs : List (T × ℕ)) (x : T) → IsPermutation es fs → is_tracked eq fs x ≡ is_tracked eq es x
is_tracked-permutation eq es fs x p =
    let keys = IsPermutation-map (λ e. e.0) es fs p in
    is_tracked-keys eq fs x ∙ sym (list_any-IsPermutation (eq x) (keys_of es) (keys_of fs) keys) ∙ sym (is_tracked-keys eq es x)

not_found : (o : Option ℕ) → is_some o ≡ false → o ≡ None
not_found None h = refl
not_found (Some v) h = absurd (false≢true (sym h))

-- ---- a tracked item
keys_tracked : {T : Type 0} (eq : T → T → Bool) (es : List (T × ℕ)) (x : T) (w : ℕ) → is_tracked eq es x ≡ true → keys_of (put eq es x w) ≡ keys_of es
keys_tracked eq [] x w there = absurd (false≢true there)
keys_tracked eq (e ∷ es) x w there = grind (arith, keys_tracked eq es x w, there)

pub distinct_tracked : {T : Type 0} (eq : T → T → Bool) (es : List (T × ℕ)) (x : T) (w : ℕ) → is_tracked eq es x ≡ true → IsDistinct eq (keys_of es) → IsDistinct eq (keys_of (put eq es x w))
distinct_tracked eq es x w there apart = rw (keys_tracked eq es x w there) apart

pub length_tracked : {T : Type 0} (eq : T → T → Bool) (es : List (T × ℕ)) (x : T) (w : ℕ) → is_tracked eq es x ≡ true → length (put eq es x w) ≡ length es
length_tracked eq es x w there = sym (length-keys_of (put eq es x w)) ∙ ap length (keys_tracked eq es x w there) ∙ length-keys_of es

-- ---- a new one stands last
put_last : {T : Type 0} (eq : T → T → Bool) (es : List (T × ℕ)) (x : T) (w : ℕ) → lookup (eq x) es ≡ None → put eq es x w ≡ es ++ (x, w) ∷ []
put_last eq [] x w none = refl
put_last eq (e ∷ es) x w none = grind (arith, put_last eq es x w)

pub put_new : {T : Type 0} (eq : T → T → Bool) (es : List (T × ℕ)) (x : T) (w : ℕ) → is_tracked eq es x ≡ false → put eq es x w ≡ es ++ (x, w) ∷ []
put_new eq es x w new = put_last eq es x w (not_found (lookup (eq x) es) new)

pub distinct_new : {T : Type 0} {eq : T → T → Bool} → IsEquivalence eq → (es : List (T × ℕ)) (x : T) (w : ℕ) → is_tracked eq es x ≡ false → IsDistinct eq (keys_of es) → IsDistinct eq (keys_of (put eq es x w))
distinct_new {T} {eq} laws es x w new apart =
    let keys : keys_of (put eq es x w) ≡ keys_of es ++ x ∷ [] = ap keys_of (put_new eq es x w new) ∙ map-append (λ (e : T × ℕ). e.0) es ((x, w) ∷ []) in
    rw keys (IsDistinct-push laws (keys_of es) x apart (sym (is_tracked-keys eq es x) ∙ new))

pub length_new : {T : Type 0} (eq : T → T → Bool) (es : List (T × ℕ)) (x : T) (w : ℕ) → is_tracked eq es x ≡ false → length (put eq es x w) ≡ length es + 1
length_new eq es x w new = ap length (put_new eq es x w new) ∙ length-append es ((x, w) ∷ [])
