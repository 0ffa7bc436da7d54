-- What an entry says of its item, and of the items before it.
use Rattle.std.proofs.Common.{◌≡◌, ℕ, Bool, true, false, List, [], ◌∷◌, ◌++◌, Some, is_some, refl, ap, sym, ◌∙◌}
use Rattle.counter_table.specs.Tables.{is_tracked}
use Rattle.std.specs.Cmp.{IsEquivalence}
use Rattle.std.specs.List.{IsDistinct, AllByRecursion, list_any}
use Rattle.std.specs.Map.{lookup, keys_of}
use Rattle.std.proofs.lemmas.Map.Keys.{IsDistinct-head, IsDistinct-tail}

-- what holds of all keys holds of the one in the middle
in_middle : {T : Type 0} (P : T → Type 0) (front : List (T × ℕ)) (e : T × ℕ) (back : List (T × ℕ)) → AllByRecursion P (keys_of (front ++ e ∷ back)) → P e.0
in_middle P [] e back all = all.0
in_middle P (a ∷ front) e back all = in_middle P front e back all.1

-- an item in the middle of entries whose items differ is found there
pub lookup_middle : {T : Type 0} {eq : T → T → Bool} → IsEquivalence eq → (front : List (T × ℕ)) (e : T × ℕ) (back : List (T × ℕ)) → IsDistinct eq (keys_of (front ++ e ∷ back)) → lookup (eq e.0) (front ++ e ∷ back) ≡ Some e.1
lookup_middle laws [] e back apart = rw (laws.refl e.0) refl
lookup_middle {eq = eq} laws (a ∷ front) e back apart =
    rw (laws.symm e.0 a.0 ∙ in_middle (λ q. eq a.0 q ≡ false) front e back (IsDistinct-head eq a.0 (keys_of (front ++ e ∷ back)) apart))
    (lookup_middle laws front e back (IsDistinct-tail eq a.0 (keys_of (front ++ e ∷ back)) apart))

-- and is equal to no item before it
pub absent_before : {T : Type 0} {eq : T → T → Bool} → IsEquivalence eq → (front : List (T × ℕ)) (e : T × ℕ) (back : List (T × ℕ)) → IsDistinct eq (keys_of (front ++ e ∷ back)) → list_any (eq e.0) (keys_of front) ≡ false
absent_before laws [] e back apart = refl
absent_before {eq = eq} laws (a ∷ front) e back apart =
    rw (laws.symm e.0 a.0 ∙ in_middle (λ q. eq a.0 q ≡ false) front e back (IsDistinct-head eq a.0 (keys_of (front ++ e ∷ back)) apart))
    (absent_before laws front e back (IsDistinct-tail eq a.0 (keys_of (front ++ e ∷ back)) apart))

-- equal items are looked up alike
pub lookup_same : {T : Type 0} {eq : T → T → Bool} → IsEquivalence eq → (es : List (T × ℕ)) (x y : T) → eq x y ≡ true → lookup (eq x) es ≡ lookup (eq y) es
lookup_same laws [] x y h = refl
lookup_same laws (e ∷ es) x y h = rw (laws.congr x y e.0 h, lookup_same laws es x y h) refl

-- and both or neither are tracked
pub tracked_alike : {T : Type 0} {eq : T → T → Bool} → IsEquivalence eq → (es : List (T × ℕ)) (x y : T) → eq x y ≡ true → is_tracked eq es y ≡ is_tracked eq es x
tracked_alike laws es x y h = ap is_some (sym (lookup_same laws es x y h))
