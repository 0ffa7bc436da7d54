-- The number of entries that a table keeps beside its slots.
use Rattle.std.proofs.Common.{◌≡◌, ℕ, ◌+◌, ◌≤◌, ◌^◌, Bool, true, false, not, inl, inr, refl, ap, sym, ◌∙◌, subst, arith, List, [], length, take, drop, ◌++◌, IsPermutation}
use Rattle.std.specs.Prelude.{IsTrue}
use Rattle.std.specs.Int.{is_power_of_two}
use Rattle.std.proofs.lemmas.Bool.{cases_Bool}
use Rattle.std.proofs.lemmas.List.{take-append-le, take_all}
use Rattle.std.proofs.lemmas.List.Sorted.{length_permutation}
use Rattle.counter_table.specs.declared.slot.Slot.{Slot}
use Rattle.counter_table.specs.Keys.{item_by_key, tracked_by_key}
use Rattle.counter_table.specs.Slots.{entries_of, table_of, IsCounted, IsSlots, IsTableSize}
use Rattle.counter_table.specs.Tables.{is_tracked_by_key, is_tracked, put, PutsByKey}
use Rattle.counter_table.specs.declared.table_key.TableKey.{TableKey}
use Rattle.counter_table.proofs.InsertionPuts.{length_tracked, length_new}

module _ {T : Type 0} {eq : T → T → Bool} {before hashed : T → ℕ} {old new : List (Slot T)} {active : ℕ} (was : IsCounted eq before old active) (ok : IsSlots eq hashed new) where
  -- an item that was there got more
  pub counted_kept : (x : T) (w : ℕ) → is_tracked eq (entries_of old) x ≡ true → IsPermutation (put eq (entries_of old) x w) (entries_of new) → IsCounted eq hashed new active
  counted_kept x w t perm = record { slots_ok = ok; active_is = omega (arith, was.active_is, length_tracked eq (entries_of old) x w t, length_permutation _ _ perm) }

  -- one that was not came in
  pub counted_more : (x : T) (w : ℕ) → is_tracked eq (entries_of old) x ≡ false → IsPermutation (put eq (entries_of old) x w) (entries_of new) → IsCounted eq hashed new (active + 1)
  counted_more x w f perm = record { slots_ok = ok; active_is = omega (arith, was.active_is, length_new eq (entries_of old) x w f, length_permutation _ _ perm) }

  -- a key's item was put
  pub counted_put : {names : T → Bool} → ((x y : T) → IsTrue (names x) → names y ≡ eq x y) → (w : ℕ) → PutsByKey eq names (entries_of old) w (entries_of new) → (b : Bool) → is_tracked_by_key names (entries_of old) ≡ not b → (b ≡ true → IsCounted eq hashed new (active + 1)) × (b ≡ false → IsCounted eq hashed new active)
  counted_put {names} alike w puts b tracked =
      let alike_is = tracked_by_key names alike (entries_of old) puts.item puts.named ∙ tracked in
      (λ t. counted_more puts.item w (alike_is ∙ ap not t) puts.entries, λ f. counted_kept puts.item w (alike_is ∙ ap not f) puts.entries)

  -- one that a key names got more if it was there
  pub counted_adjusted : {names : T → Bool} → ((x y : T) → IsTrue (names x) → names y ≡ eq x y) → (w : ℕ) (b : Bool) → b ≡ is_tracked_by_key names (entries_of old) → (b ≡ true → (x : T) → IsTrue (names x) → IsPermutation (put eq (entries_of old) x w) (entries_of new)) → (b ≡ false → new ≡ old) → IsCounted eq hashed new active
  counted_adjusted {names} alike w b tracked present absent = elim (cases_Bool b) [
    | inl t ↦
        let x = item_by_key names (entries_of old) (sym tracked ∙ t) in
        counted_kept x.0 w (tracked_by_key names alike (entries_of old) x.0 x.1 ∙ (sym tracked ∙ t)) (present t x.0 x.1)
    | inr f ↦ record { slots_ok = ok; active_is = was.active_is ∙ ap (λ l. length (entries_of l)) (sym (absent f)) }
  ]

pub table_size_of : (n m : ℕ) → n ≡ m → IsTrue (is_power_of_two m) → m ≤ 2 ^ 30 → IsTableSize n
table_size_of n m e power limit = let P : ℕ → Type 0 = λ k. IsTableSize k in subst P (sym e) (record { power = power; limit = limit })

-- a table without an entry
pub table_is : {T : Type 0} {key : TableKey} {purges : ℕ} (slots : List (Slot T)) (n : ℕ) → entries_of slots ≡ [] → length slots ≡ n → table_of key purges slots ≡ record { entries = []; size = n; key = key; purges = purges }
table_is slots n a b = rw (a, b) refl

-- a slice written back whole
pub written_whole : {X : Type 0} (n : ℕ) (a b : List X) → length a ≡ n → take n (a ++ drop (length a) b) ≡ a
written_whole n a b h = rw (← h) (take-append-le (length a) a (drop (length a) b) (omega arith) ∙ take_all (length a) a (omega arith))
