-- Keys and the items that they name. No clause cites the lemmas. They are for the proofs here and in the crate above.
use Rattle.std.proofs.Common.{◌≡◌, ℕ, Bool, true, false, List, [], ◌∷◌, is_some, unwrap_or, refl, ap, sym}
use Rattle.std.specs.Prelude.{IsTrue}
use Rattle.std.specs.Map.{lookup}
use Rattle.std.proofs.lemmas.Bool.{false≢true}
use Rattle.counter_table.specs.Tables.{count_by_key, count_of, is_tracked_by_key, is_tracked}

-- a key names the items that are equal to one of them, and hashes as they do
pub record IsKey {T : Type 0} (eq : T → T → Bool) (hashed : T → ℕ) (names : T → Bool)
    (hash : ℕ) : Type 0 where
  pub same_hash : (x : T) → IsTrue (names x) → hash ≡ hashed x
  pub alike : (x y : T) → IsTrue (names x) → names y ≡ eq x y

by_test : (b : Bool) (P : Bool → Type 0) → P true → P false → P b
by_test true P t f = t
by_test false P t f = f

-- if a key has an entry, it names an item
pub item_by_key : {T : Type 0} (names : T → Bool) (es : List (T × ℕ)) → is_tracked_by_key names es ≡ true → (x : T) × IsTrue (names x)
item_by_key names [] h = absurd (false≢true h)
item_by_key {T} names (e ∷ es) h =
    by_test (names e.0) (λ b. names e.0 ≡ b → (x : T) × IsTrue (names x)) (λ t. (e.0, t)) (λ f. item_by_key names es (rw f at h)) refl

-- a key finds what each item that it names finds
pub lookup_by_key : {T : Type 0} {eq : T → T → Bool} (names : T → Bool) → ((x y : T) → IsTrue (names x) → names y ≡ eq x y) → (es : List (T × ℕ)) (x : T) → IsTrue (names x) → lookup names es ≡ lookup (eq x) es
lookup_by_key names alike [] x h = refl
lookup_by_key names alike (e ∷ es) x h = rw (alike x e.0 h, lookup_by_key names alike es x h) refl

-- a key is tracked if and only if each item that it names is
pub tracked_by_key : {T : Type 0} {eq : T → T → Bool} (names : T → Bool) → ((x y : T) → IsTrue (names x) → names y ≡ eq x y) → (es : List (T × ℕ)) (x : T) → IsTrue (names x) → is_tracked eq es x ≡ is_tracked_by_key names es
tracked_by_key names alike es x h = ap is_some (sym (lookup_by_key names alike es x h))

-- a key has the count of each item that it names
pub count_by_key_of : {T : Type 0} {eq : T → T → Bool} (names : T → Bool) → ((x y : T) → IsTrue (names x) → names y ≡ eq x y) → (es : List (T × ℕ)) (x : T) → IsTrue (names x) → count_by_key names es ≡ count_of eq es x
count_by_key_of names alike es x h = ap (λ o. unwrap_or o 0) (lookup_by_key names alike es x h)
