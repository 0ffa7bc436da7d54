-- What is put where the look-up of a key ended.
use Rattle.std.proofs.Common.{◌%◌, ◌≡◌, ℕ, ◌+◌, ◌<◌, ◌^◌, Bool, true, false, ap, ◌∙◌, subst, List, length, Option, Some, None, is_some}
use Rattle.std.specs.Cmp.{IsEquivalence}
use Rattle.std.specs.List.{concat}
use Rattle.std.specs.Map.{lookup}
use Rattle.std.specs.Prelude.{IsTrue}
use Rattle.counter_table.specs.declared.slot.Slot.{Slot}
use Rattle.counter_table.specs.Homes.{home_in}
use Rattle.counter_table.specs.Keys.{IsKey, tracked_by_key}
use Rattle.counter_table.specs.Probes.{IsFreeSlot, IsProbe}
use Rattle.counter_table.specs.Slots.{AddsAt, CountHasRoom, KeyedSlots, entries_of, IsSlots}
use Rattle.counter_table.specs.Tables.{count_by_key, is_tracked, is_tracked_by_key, PutsByKey}
use Rattle.counter_table.specs.TableHashes.{hash_of, hash_in}
use Rattle.counter_table.proofs.InsertionWrites.{wrote_by_key}
use Rattle.counter_table.proofs.LookupHomes.{remainder_below, some_size}
use Rattle.counter_table.proofs.LookupProbes.{fits_from_probe, free_slot_from_probe, key_found, probe_below}
use Rattle.counter_table.proofs.TableHashing.{hashed_as_named}

-- an item that is absent goes to this free slot
pub record GoesTo {T : Type 0} (eq : T → T → Bool) (hashed : T → ℕ) (slots : List (Slot T)) (item : T) (index probed hash : ℕ) : Type 0 where
  pub absent : is_tracked eq (entries_of slots) item ≡ false
  pub room : length (entries_of slots) + 1 < length slots
  pub free : IsFreeSlot (home_in hashed (length slots) item) slots index probed
  pub hash_is : hash ≡ hashed item

-- an amount was added to the item that a key names
pub record Added {T : Type 0} (eq : T → T → Bool) (hashed : T → ℕ) (names : T → Bool) (slots : List (Slot T)) (w : ℕ) (new : List (Slot T)) : Type 0 where
  pub slots_ok : IsSlots eq hashed new
  pub puts : PutsByKey eq names (entries_of slots) w (entries_of new)

-- the look-up of a key in the slots of a table ended at an index
pub record Ended {T : Type 0} (eq : T → T → Bool) (hashed : T → ℕ) (names : T → Bool) (fed : ℕ) (slots : List (Slot T)) (index : ℕ) (found : Option ℕ) (probed : ℕ) : Type 0 where
  pub key : IsKey eq hashed names fed
  pub slots_ok : IsSlots eq hashed slots
  pub probe : IsProbe names (fed % length slots) slots index found probed

pub ended_by_key : {T : Type 0} {eq : T → T → Bool} (input : T → List (List ℕ)) {names : T → Bool} {fed : List ℕ} → ((x : T) → IsTrue (names x) → fed ≡ concat (input x)) → ((x y : T) → IsTrue (names x) → names y ≡ eq x y) → (of : KeyedSlots T) → IsSlots eq (hash_in of.key input) of.slots → {index probed : ℕ} {found : Option ℕ}
    → IsProbe names (hash_of of.key fed % length of.slots) of.slots index found probed → Ended eq (hash_in of.key input) names (hash_of of.key fed) of.slots index found probed
ended_by_key input respects alike of ok probe = record { key = record { same_hash = hashed_as_named input of.key respects; alike = alike }; slots_ok = ok; probe = probe }

-- an item is a key of the items that are equal to it
pub ended_item : {T : Type 0} {eq : T → T → Bool} {input : T → List (List ℕ)} → IsEquivalence eq → ((x y : T) → IsTrue (eq x y) → input x ≡ input y) → (x : T) → (of : KeyedSlots T) → IsSlots eq (hash_in of.key input) of.slots → {index probed : ℕ} {found : Option ℕ}
    → IsProbe (eq x) (home_in (hash_in of.key input) (length of.slots) x) of.slots index found probed → Ended eq (hash_in of.key input) (eq x) (hash_in of.key input x) of.slots index found probed
ended_item {input = input} laws respects x of ok probe = ended_by_key input (λ y t. ap concat (respects x y t)) (laws.congr x) of ok probe

module _ {T : Type 0} {eq : T → T → Bool} {hashed : T → ℕ} {names : T → Bool} {fed : ℕ} {slots : List (Slot T)} {index probed : ℕ} {found : Option ℕ} (at : Ended eq hashed names fed slots index found probed) where
  looked_up : lookup names (entries_of slots) ≡ found
  looked_up = key_found at.key slots at.slots_ok index found probed at.probe

  -- the index is one of the table's
  pub end_below : index < length slots
  end_below = probe_below (remainder_below _ (length slots) (some_size _ at.slots_ok.size)) at.probe

  pub end_tracked : is_tracked_by_key names (entries_of slots) ≡ is_some found
  end_tracked = ap is_some looked_up

  -- at an item
  pub end_fits : {c : ℕ} → found ≡ Some c → (w : ℕ) → (is_tracked_by_key names (entries_of slots) ≡ true → count_by_key names (entries_of slots) + w < 2 ^ 64) → CountHasRoom slots index w
  end_fits hit w fits = fits_from_probe at.probe hit looked_up w fits

  pub end_added : IsEquivalence eq → {c : ℕ} → found ≡ Some c → (w : ℕ) {new : List (Slot T)} → AddsAt slots index w new → Added eq hashed names slots w new
  end_added laws hit w adds =
      let here = at.probe.here _ hit in
      let wrote = wrote_by_key laws at.slots_ok at.key.alike at.probe hit w adds here.0.item here.3 in
      record { slots_ok = wrote.slots_ok; puts = record { item = here.0.item; named = here.3; entries = wrote.entries } }

  -- at a free slot
  pub end_free : found ≡ None → (item : T) → IsTrue (names item) → (is_tracked_by_key names (entries_of slots) ≡ false → length (entries_of slots) + 1 < length slots) → (hash : ℕ) → hash ≡ fed → GoesTo eq hashed slots item index probed hash
  end_free none item named room hash is =
      let absent = end_tracked ∙ ap is_some none in
      record {
        absent = tracked_by_key names at.key.alike (entries_of slots) item named ∙ absent;
        room = room absent;
        free = subst (λ (h : ℕ). IsFreeSlot h slots index probed) (ap (λ f. f % length slots) (at.key.same_hash item named)) (free_slot_from_probe none at.probe);
        hash_is = is ∙ at.key.same_hash item named;
      }
