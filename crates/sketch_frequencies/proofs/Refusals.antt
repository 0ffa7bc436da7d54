-- What an image is refused for, by where its reader stops.
use Rattle.std.proofs.Common.{◌≡◌, inl, inr, ℕ, ◌+◌, ◌*◌, ◌<◌, ◌≤◌, true, false, List, drop, Option, None, Some, refl, sym, ap}
use Rattle.std.proofs.lemmas.Bool.{lt-ltb, le-ltb}
use denote.RattleType.{RattleType}
use Rattle.sketch_base.specs.Checks.{IsImageRefusal, first_failing, or_else}
use Rattle.sketch_base.specs.Errors.{ErrorValue, invalid_data, no_memory}
use Rattle.sketch_base.specs.declared.fault.Fault.{Fault}
use Rattle.sketch_base.specs.declared.fault.Fault.TheVariants.{TableTooLarge}
use Rattle.counter_table.specs.Bytes.{table_bytes}
use Rattle.sketch_frequencies.specs.Image.{says_empty, size_at, header_checks, count_checks, weight_checks, early_fault, early_fault_within, limit_fault, late_fault, active_at, restored_size, items_bytes, bytes_of_items, first_fault_within}
use Rattle.sketch_frequencies.specs.Items.{Codec, max_owned}
use Rattle.sketch_frequencies.specs.Memory.{memory_bytes}
use Rattle.sketch_frequencies.specs.Reading.{IsItemsRefusal}
use Rattle.sketch_frequencies.proofs.Cases.{by_cases}
use Rattle.sketch_frequencies.proofs.ImageSizes.{items_of_none}

pub first_of : (a b : Option Fault) {fault : Fault} → a ≡ Some fault → or_else a b ≡ Some fault
first_of a b h = rw h refl

behind : (a b : Option Fault) {rest : Option Fault} → a ≡ None → b ≡ rest → or_else a b ≡ rest
behind a b none h = rw none h

module _ (image : List ℕ) (header : first_failing (header_checks image) ≡ None) where
  pub none_of_empty : says_empty image ≡ true → early_fault image ≡ None
  none_of_empty empty = rw (header, empty) refl

  pub counts_of_full : {fault : Option Fault} → says_empty image ≡ false → first_failing (count_checks image) ≡ fault → early_fault image ≡ fault
  counts_of_full full counts = rw (header, full) counts

-- the limit is of the table that the sketch has, and of what its items may own
pub size_of_empty : (image : List ℕ) → says_empty image ≡ true → restored_size image ≡ 8
size_of_empty image empty = rw empty refl

pub size_of_full : (image : List ℕ) {size : ℕ} → says_empty image ≡ false → size ≡ size_at image → restored_size image ≡ size
size_of_full image full same = rw full (sym same)

pub room_of_empty : {C : Type 0} (codec : Codec C) (image bytes : List ℕ) → says_empty image ≡ true → bytes_of_items codec image ≡ items_bytes codec 0 bytes
room_of_empty codec image bytes empty = rw empty (sym (items_of_none codec bytes))

pub room_of_full : {C : Type 0} (codec : Codec C) (image bytes : List ℕ) {active : ℕ} → says_empty image ≡ false → active ≡ active_at image → bytes ≡ drop (32 + 8 * active) image → bytes_of_items codec image ≡ items_bytes codec active bytes
room_of_full codec image bytes full same is = rw (full, is) (ap (λ (n : ℕ). items_bytes codec n (drop (32 + 8 * n) image)) (sym same))

pub is_within : {C : Type 0} (item : RattleType) (most : ℕ) (codec : Codec C) (image : List ℕ) {size room : ℕ} → restored_size image ≡ size → bytes_of_items codec image ≡ room → memory_bytes (table_bytes item size) (max_owned codec room) ≤ most → limit_fault item most codec image ≡ None
is_within item most codec image same items within = rw (same, items, le-ltb _ _ within) refl

module _ {C : Type 0} (item : RattleType) (most : ℕ) (codec : Codec C) (image : List ℕ) (e : ErrorValue) where
  abbrev Refused : Type 0
  Refused = IsImageRefusal (early_fault_within item most codec image) (first_fault_within item most codec image) e

  -- before the limit
  pub early_refused : (e ≡ invalid_data e.fault) × (early_fault image ≡ Some e.fault) → Refused
  early_refused h = inr (h.0, first_of _ _ (first_of _ _ h.1))

  pub limit_refused : early_fault image ≡ None → {size room : ℕ} → restored_size image ≡ size → bytes_of_items codec image ≡ room → (e ≡ invalid_data TableTooLarge) × (most < memory_bytes (table_bytes item size) (max_owned codec room)) → Refused
  limit_refused early same items h =
      let over : limit_fault item most codec image ≡ Some TableTooLarge = rw (same, items, lt-ltb _ _ h.1) refl in
      rw h.0 (inr (refl, first_of _ _ (behind _ _ early over)))

  module _ (early : early_fault image ≡ None) (within : limit_fault item most codec image ≡ None) where
    none_within : early_fault_within item most codec image ≡ None
    none_within = behind _ _ early within

    pub memory_refused : e ≡ no_memory → Refused
    memory_refused h = inl (h, none_within)

    late_refused : (e ≡ invalid_data e.fault) × (late_fault codec image ≡ Some e.fault) → Refused
    late_refused h = inr (h.0, behind _ _ none_within h.1)

    module _ (full : says_empty image ≡ false) where
      pub weights_refused : (e ≡ invalid_data e.fault) × (first_failing (weight_checks image) ≡ Some e.fault) → Refused
      weights_refused h = late_refused (h.0, rw full (first_of _ _ h.1))

      pub items_refused : first_failing (weight_checks image) ≡ None → IsItemsRefusal codec image e → Refused
      items_refused weights h = by_cases h memory_refused (λ h. late_refused (h.0, rw full (behind _ _ weights h.1)))
