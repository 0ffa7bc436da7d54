-- The greatest limit refuses nothing.
use Rattle.std.proofs.Common.{◌≡◌, ℕ, false, ltb, List, Result, Option, None, Some, refl, ap, subst, ◌∙◌, arith}
use Rattle.std.specs.Prelude.{IfErr}
use Rattle.std.proofs.lemmas.Bool.{le-ltb}
use denote.RattleType.{RattleType}
use Rattle.sketch_base.specs.Checks.{IsImageRefusal, or_else}
use Rattle.sketch_base.specs.Errors.{ErrorValue}
use Rattle.sketch_base.specs.declared.fault.Fault.{Fault}
use Rattle.counter_table.specs.Bytes.{table_bytes}
use Rattle.sketch_frequencies.specs.Image.{early_fault, early_fault_within, limit_fault, restored_size, bytes_of_items}
use Rattle.sketch_frequencies.specs.Items.{Codec, max_owned}
use Rattle.sketch_frequencies.specs.Memory.{memory_bytes}

none_above : {C : Type 0} (item : RattleType) (codec : Codec C) (image : List ℕ) → limit_fault item 18446744073709551615 codec image ≡ None
none_above item codec image =
    let table = table_bytes item (restored_size image) in
    let owned = max_owned codec (bytes_of_items codec image) in
    let within : ltb 18446744073709551615 (memory_bytes table owned) ≡ false = le-ltb _ _ (omega arith) in
    rw within refl

or_else-none : (a : Option Fault) → or_else a None ≡ a
or_else-none None = refl
or_else-none (Some fault) = refl

pub no_limit : {A C : Type 0} (item : RattleType) (codec : Codec C) (image : List ℕ) (late : Option Fault) (r : Result A ErrorValue)
    → IfErr r (IsImageRefusal (early_fault_within item 18446744073709551615 codec image) (or_else (early_fault_within item 18446744073709551615 codec image) late))
    → IfErr r (IsImageRefusal (early_fault image) (or_else (early_fault image) late))
no_limit item codec image late r h =
    let same : early_fault_within item 18446744073709551615 codec image ≡ early_fault image = ap (or_else (early_fault image)) (none_above item codec image) ∙ or_else-none (early_fault image) in
    subst (λ (early : Option Fault). IfErr r (IsImageRefusal early (or_else early late))) same h
