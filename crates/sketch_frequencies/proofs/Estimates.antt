-- What a count says of an estimate.
use Rattle.std.proofs.Common.{◌≡◌, ℕ, ◌+◌, ◌≤◌, Bool, true, Option, None, Some, is_some, unwrap_or, refl, ap, ◌∙◌, arith}
use Rattle.std.specs.Map.{lookup}
use Rattle.std.specs.Prelude.{if◌then◌else◌, IsTrue}
use Rattle.counter_table.specs.Keys.{lookup_by_key}
use Rattle.sketch_frequencies.specs.State.{FrequentState, estimate_by_key, estimate_of}
use Rattle.sketch_frequencies.specs.Stands.{IsExactOfFew}

pub some_from_count : (o : Option ℕ) → (unwrap_or o 0 ≡ 0 → ⊥) → is_some o ≡ true
some_from_count None h = absurd (h refl)
some_from_count (Some v) h = refl

-- what is not tracked is estimated at 0
pub estimate_none : {T : Type 0} (names : T → Bool) (s : FrequentState T) → lookup names s.counters ≡ None → 0 ≡ estimate_by_key names s
estimate_none names s h = rw h refl

-- the rest at its count and the error
pub estimate_some : {T : Type 0} (names : T → Bool) (s : FrequentState T) (c : ℕ) → lookup names s.counters ≡ Some c → c + s.error ≡ estimate_by_key names s
estimate_some names s c h = rw h refl

-- and so is each item that is named
pub estimate_item : {T : Type 0} {eq : T → T → Bool} (names : T → Bool) → ((x y : T) → IsTrue (names x) → names y ≡ eq x y) → (s : FrequentState T) (x : T) → IsTrue (names x) → estimate_by_key names s ≡ estimate_of eq s x
estimate_item names alike s x is = ap (λ o. if is_some o then unwrap_or o 0 + s.error else 0) (lookup_by_key names alike s.counters x is)

exact_by_cases : (o : Option ℕ) (e t : ℕ) → e ≡ 0 → unwrap_or o 0 ≤ t → t ≤ unwrap_or o 0 + e → (if is_some o then unwrap_or o 0 + e else 0) ≡ t
exact_by_cases None e t none low high = omega (arith, none, low, high)
exact_by_cases (Some v) e t none low high = omega (arith, none, low, high)

-- with no error it is the true weight
pub estimate_exact : {T : Type 0} (eq : T → T → Bool) (s : FrequentState T) (x : T) (n : ℕ) → n ≡ estimate_of eq s x → IsExactOfFew eq s x n
estimate_exact eq s x n is = λ h stands few. is ∙ exact_by_cases (lookup (eq x) s.counters) s.error _ (stands.exact few) (stands.at_least x) (stands.at_most x)
