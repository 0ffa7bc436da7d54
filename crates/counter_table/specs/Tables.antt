-- A finite map from items to counts, as the list of its entries in some order. Items are compared by `eq` alone.
use Rattle.std.specs.Prelude.{◌≡◌, ℕ, ◌+◌, ◌-◌, ◌/◌, ◌≤◌, nat_lt, nat_le, ◌==◌, Bool, true, cond, List, [], ◌∷◌, ◌++◌, length, map, filter, sum_by, count_by, is_some, unwrap_or, IsPermutation}
use Rattle.std.specs.List.{list_any, AllZip}
use Rattle.std.specs.Map.{lookup}
use Rattle.counter_table.specs.declared.table_key.TableKey.{TableKey}

-- a table: its entries in some order, its size, its key, and the number of its purges modulo 2^64
pub record Table (T : Type 0) : Type 0 where
  pub entries : List (T × ℕ)
  pub size : ℕ
  pub key : TableKey
  pub purges : ℕ

-- the count of the item, 0 if it has none
abbrev pub count_of : {T : Type 0} → (T → T → Bool) → List (T × ℕ) → T → ℕ
count_of eq es x = unwrap_or (lookup (eq x) es) 0

-- whether the item has an entry
abbrev pub is_tracked : {T : Type 0} → (T → T → Bool) → List (T × ℕ) → T → Bool
is_tracked eq es x = is_some (lookup (eq x) es)

-- the count of the item that a key names, 0 if it has no entry
abbrev pub count_by_key : {T : Type 0} → (T → Bool) → List (T × ℕ) → ℕ
count_by_key names es = unwrap_or (lookup names es) 0

-- whether the item that a key names has an entry
abbrev pub is_tracked_by_key : {T : Type 0} → (T → Bool) → List (T × ℕ) → Bool
is_tracked_by_key names es = is_some (lookup names es)

-- the entries with w added at the item, which comes last if it had no entry
abbrev pub put : {T : Type 0} → (T → T → Bool) → List (T × ℕ) → T → ℕ → List (T × ℕ)
put eq [] x w = (x, w) ∷ []
put eq (e ∷ es) x w = cond (eq x e.0) ((e.0, e.1 + w) ∷ es) (e ∷ put eq es x w)

-- w was added at an item that a key names
pub record PutsByKey {T : Type 0} (eq : T → T → Bool) (names : T → Bool) (old : List (T × ℕ)) (w : ℕ)
    (new : List (T × ℕ)) : Type 0 where
  pub item : T
  pub named : names item ≡ true
  pub entries : IsPermutation (put eq old item w) new

-- w was added at an item equal to x
abbrev pub PutsEqual : {T : Type 0} → (T → T → Bool) → (old : List (T × ℕ)) → T → ℕ → (new : List (T × ℕ)) → Type 0
PutsEqual eq old x w new = PutsByKey eq (eq x) old w new

-- two entries of equal items with one count
abbrev pub IsSameEntry : {T : Type 0} → (T → T → Bool) → T × ℕ → T × ℕ → Type 0
IsSameEntry eq e f = (eq e.0 f.0 ≡ true) × (f.1 ≡ e.1)

-- the same map: in some order, entries of equal items with the same counts
pub record IsSameMap {T : Type 0} (eq : T → T → Bool) (es fs : List (T × ℕ)) : Type 0 where
  pub order : List (T × ℕ)
  pub whole : IsPermutation es order
  pub same : AllZip (IsSameEntry eq) order fs

-- the counts above m, each less m
abbrev pub purged : {T : Type 0} → ℕ → List (T × ℕ) → List (T × ℕ)
purged m es = map (λ e. (e.0, e.1 - m)) (filter (λ e. nat_lt m e.1) es)

-- m is in the middle of the counts of some n entries: it is one of them, at most half of them are below it, and more than
-- half are at most m
pub record IsSampleMiddle {T : Type 0} (n : ℕ) (es : List (T × ℕ)) (m : ℕ) : Type 0 where
  pub sample : List (T × ℕ)
  pub rest : List (T × ℕ)
  pub is_part : IsPermutation es (sample ++ rest)
  pub size : length sample ≡ n
  pub below : count_by (λ e. nat_lt e.1 m) sample ≤ n / 2
  pub at_most : n / 2 + 1 ≤ count_by (λ e. nat_le e.1 m) sample
  pub among : list_any (λ e. e.1 == m) sample ≡ true

-- the sum of all counts
abbrev pub sum_of : {T : Type 0} → List (T × ℕ) → ℕ
sum_of es = sum_by (λ e. e.1) es

-- the sum of the counts of the items that are equal to none of the set
abbrev pub sum_outside : {T : Type 0} → (T → T → Bool) → List T → List (T × ℕ) → ℕ
sum_outside eq set es = sum_by (λ e. cond (list_any (eq e.0) set) 0 e.1) es
