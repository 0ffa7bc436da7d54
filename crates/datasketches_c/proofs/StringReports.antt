-- Reports of strings in buffers.
use Rattle.std.proofs.Common.{◌≡◌, ℕ, ℤ, ◌+◌, ◌<◌, [], ◌++◌, List, length, map, take, drop, get_or, refl, sym, ap, subst, inl, pos, negsuc, ◌∙◌}
use Rattle.std.specs.Global.{Global}
use Rattle.std.specs.List.{concat}
use Rattle.std.specs.String.{string_bytes}
use Rattle.std.specs.declared.string.String.{String}
use Rattle.std.proofs.lemmas.List.{take_at, drop_at, length-map, get_or-map}
use Rattle.sketch_frequencies.specs.RowValue.{RowValue}
use Rattle.sketch_frequencies.specs.State.{FrequentState}
use Rattle.sketch_frequencies.specs.declared.error_type.ErrorType.{ErrorType}
use Rattle.datasketches_c.specs.FrequentRows.{AreRows, bounds_in}
use Rattle.datasketches_c.specs.FrequentStringRows.{LeavesStringRows, ReportsStrings, StringBuffers, StringsStandAtFront, WritesStringRows, row_strings}
use Rattle.datasketches_c.specs.FrequentStrings.{strings_eq}
use Rattle.datasketches_c.specs.Numbers.{OnDone, OnRefused, ok, no_room}
use Rattle.sketch_base.specs.Strings.{strings_of}
use Rattle.datasketches_c.specs.Strings.{offsets_from}
use Rattle.sketch_frequencies.specs.declared.item_bounds.ItemBounds.{ItemBounds}
use Rattle.datasketches_c.proofs.Reports.{when_refused}
use Rattle.datasketches_c.proofs.StringRows.{length-offsets_from, read_front}

-- there are as many strings as rows
pub length-row_strings : (rows : List (RowValue (String Global))) → length (row_strings rows) ≡ length rows
length-row_strings rows = length-map rows (λ (row : RowValue (String Global)). string_bytes row.item)

-- the string of a row
pub row_string_at : (rows : List (RowValue (String Global))) (i : ℕ) (row : RowValue (String Global)) → i < length rows → row ≡ get_or rows i row
    → string_bytes row.item ≡ get_or (row_strings rows) i []
row_string_at rows i row there is =
    let string : RowValue (String Global) → List ℕ = λ r. string_bytes r.item in
    ap string is ∙ sym (get_or-map string rows i row [] there)

-- what was written at the front of the buffers stands there
pub strings_stand : (rows : List (RowValue (String Global))) (old : StringBuffers) (bytes offsets : List ℕ) (bounds : List ItemBounds) (n : ℕ)
    → n ≡ length (concat (row_strings rows)) → bytes ≡ concat (row_strings rows) → offsets ≡ offsets_from 0 (row_strings rows) → bounds ≡ map bounds_in rows
    → StringsStandAtFront rows old (record {
      bytes = bytes ++ drop n old.bytes;
      offsets = offsets ++ drop (length rows + 1) old.offsets;
      bounds = bounds ++ drop (length rows) old.bounds;
    })
strings_stand rows old bytes offsets bounds n size is_bytes is_offsets is_bounds =
    let strings = row_strings rows in
    let whole : List ℕ = concat strings in
    let long_bytes : length bytes ≡ length whole = ap length is_bytes in
    let long_offsets : length offsets ≡ length rows + 1 = ap length is_offsets ∙ (length-offsets_from 0 strings ∙ ap (λ (k : ℕ). k + 1) (length-row_strings rows)) in
    let long_bounds : length bounds ≡ length rows = ap length is_bounds ∙ length-map rows bounds_in in
    let front_bytes : take (length whole) (bytes ++ drop n old.bytes) ≡ whole = take_at bytes (drop n old.bytes) (length whole) long_bytes ∙ is_bytes in
    let front_offsets : take (length rows + 1) (offsets ++ drop (length rows + 1) old.offsets) ≡ offsets_from 0 strings =
    take_at offsets (drop (length rows + 1) old.offsets) (length rows + 1) long_offsets ∙ is_offsets in
    record {
      bytes = front_bytes;
      behind_bytes = drop_at bytes (drop n old.bytes) (length whole) long_bytes ∙ ap (λ (k : ℕ). drop k old.bytes) size;
      offsets = front_offsets;
      behind_offsets = drop_at offsets (drop (length rows + 1) old.offsets) (length rows + 1) long_offsets;
      bounds = take_at bounds (drop (length rows) old.bounds) (length rows) long_bounds ∙ is_bounds;
      behind_bounds = drop_at bounds (drop (length rows) old.bounds) (length rows) long_bounds;
      read_back = ap (strings_of (bytes ++ drop n old.bytes)) front_offsets ∙ read_front (bytes ++ drop n old.bytes) strings front_bytes;
    }

-- a call that wrote nothing left all
pub string_rows_left : (there : StringBuffers) (count num_bytes : ℕ) (result : ℤ) → LeavesStringRows there there count count num_bytes num_bytes result
string_rows_left there count num_bytes result = record {
  untouched = when_refused result ((there.bytes ≡ there.bytes) × (there.offsets ≡ there.offsets) × (there.bounds ≡ there.bounds)) (refl, refl, refl);
  uncounted = λ not other. (refl, refl);
}

-- nor did one that found no room, apart from the counts
pub string_rows_counted : (old new : StringBuffers) (count_old count_new num_bytes_old num_bytes_new : ℕ) (result : ℤ) → OnRefused result (result ≡ no_room) → OnDone result (result ≡ ok)
    → OnRefused result ((new.bytes ≡ old.bytes) × (new.offsets ≡ old.offsets) × (new.bounds ≡ old.bounds))
    → LeavesStringRows old new count_old count_new num_bytes_old num_bytes_new result
string_rows_counted old new count_old count_new num_bytes_old num_bytes_new (pos n) few done left = record { untouched = left; uncounted = λ other none. absurd (other done) }
string_rows_counted old new count_old count_new num_bytes_old num_bytes_new (negsuc n) few done left = record { untouched = left; uncounted = λ other none. absurd (none few) }

-- the first of the rows that were found are a report, if they were copied
pub strings_reported : (kind : ErrorType) (threshold limit : ℕ) (s : FrequentState (String Global)) (all rows : List (RowValue (String Global))) (old new : StringBuffers) (count num_bytes : ℕ) (result : ℤ)
    → AreRows strings_eq kind threshold s all → rows ≡ take limit all → count ≡ length rows → ReportsStrings rows old new (length rows) num_bytes result
    → WritesStringRows kind threshold limit s old new count num_bytes result
strings_reported kind threshold limit s all rows old new count num_bytes result are first counted report =
    inl (rows, (all, are, first), subst (λ (n : ℕ). ReportsStrings rows old new n num_bytes result) (sym counted) report)
