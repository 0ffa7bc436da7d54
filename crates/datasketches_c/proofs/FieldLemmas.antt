-- What was read of records, or why not.
use Rattle.std.proofs.Common.{◌≡◌, ℕ, ℤ, List, length, Option, None, Some, inl, inr, sym, ◌∙◌, ap, subst}
use Rattle.sketch_base.specs.Errors.{ErrorValue}
use Rattle.sketch_base.specs.declared.error.ErrorKind.TheVariants.{InvalidArgument, OutOfMemory}
use Rattle.sketch_text.specs.RecordItems.{AreItems, FailsItems, IsFirstBad, ItemsValue}
use Rattle.sketch_text.specs.Records.{records_by}
use Rattle.sketch_text.specs.declared.record_items.BadRecord.{BadRecord}
use Rattle.sketch_text.specs.declared.record_items.WeighedRecord.{WeighedRecord}
use Rattle.sketch_text.specs.declared.record_part.RecordPart.{RecordPart}
use Rattle.datasketches_c.specs.FieldUpdates.{IsPart, IsWeight, OnRead, no_field}
use Rattle.datasketches_c.specs.Numbers.{refusal_number}
use Rattle.datasketches_c.specs.declared.fields_argument.FieldsArgument.{FieldsArgument}
use Rattle.datasketches_c.specs.declared.fields_argument.FieldsRead.{FieldsRead}

module _ {W : Type 0} (reads : List ℕ → Option W) (one : W) (chosen : WeighedRecord) (bytes : List ℕ) (old new : FieldsRead) (result : ℤ) where
  -- a record has an error, or memory was exhausted
  pub record_refused : (bad : BadRecord) (unchanged : Type 0) (said : ItemsValue W → Type 0) → FailsItems reads one chosen bytes bad
      → result ≡ refusal_number bad.error.fault → (bad.error.kind ≡ InvalidArgument → new.offset ≡ bad.offset)
      → (new.num_records ≡ old.num_records) × (new.num_items ≡ old.num_items) → (bad.error.kind ≡ OutOfMemory → new ≡ old)
      → unchanged → OnRead reads one chosen bytes result old new unchanged said
  record_refused bad unchanged said (inl none) number offset kept untouched same = inl (inl (
    number ∙ ap (λ (e : ErrorValue). refusal_number e.fault) none,
    untouched (ap (λ (e : ErrorValue). e.kind) none),
    same,
  ))
  record_refused bad unchanged said (inr failed) number offset kept untouched same = inl (inr (
    record {
      fault = failed.0;
      is = number ∙ ap (λ (e : ErrorValue). refusal_number e.fault) failed.1;
      first = subst (λ (at : ℕ). IsFirstBad reads one chosen bytes at failed.0) (sym (offset (ap (λ (e : ErrorValue). e.kind) failed.1))) failed.2;
      num_records = kept.0;
      num_items = kept.1;
    },
    same,
  ))

  -- all records were read
  pub items_read : (found : ItemsValue W) (unchanged : Type 0) (said : ItemsValue W → Type 0) → AreItems reads one chosen (records_by chosen.item bytes) found
      → new.num_records ≡ found.num_records → new.num_items ≡ length found.items → new.offset ≡ old.offset → said found
      → OnRead reads one chosen bytes result old new unchanged said
  items_read found unchanged said are records items offset holds =
      inr (record { found = found; are = are; num_records = records; num_items = items; offset = offset; holds = holds })

  -- what is said of the items is said otherwise
  pub read_as : (unchanged unchanged' : Type 0) (said said' : ItemsValue W → Type 0) → (unchanged → unchanged') → ((found : ItemsValue W) → said found → said' found)
      → OnRead reads one chosen bytes result old new unchanged said → OnRead reads one chosen bytes result old new unchanged' said'
  read_as unchanged unchanged' said said' kept says (inl (inl none)) = inl (inl (none.0, none.1, kept none.2))
  read_as unchanged unchanged' said said' kept says (inl (inr refused)) = inl (inr (refused.0, kept refused.1))
  read_as unchanged unchanged' said said' kept says (inr all) = inr (record { found = all.found; are = all.are; num_records = all.num_records; num_items = all.num_items; offset = all.offset; holds = says all.found all.holds })

-- the weight names a field, and there is no such part
pub no_weight : (a : FieldsArgument) → (a.weight ≡ no_field → ⊥) → ((part : RecordPart) → IsPart a.format a.delimiter a.weight part → ⊥)
    → (weight : Option RecordPart) → IsWeight a weight → ⊥
no_weight a named none None is = named is
no_weight a named none (Some part) is = none part is.1
