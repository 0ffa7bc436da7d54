-- Reports on frequent items in buffers.
use Rattle.std.proofs.Common.{◌≡◌, ℕ, ℤ, pos, negsuc, ◌<◌, ◌≤◌, Bool, List, ◌++◌, length, map, drop, refl, ap, ◌∙◌, subst}
use Rattle.std.proofs.lemmas.List.{drop_at, take_at, length-map}
use Rattle.sketch_frequencies.specs.RowValue.{RowValue}
use Rattle.sketch_frequencies.specs.State.{FrequentState}
use Rattle.sketch_frequencies.specs.declared.error_type.ErrorType.{ErrorType}
use Rattle.datasketches_c.specs.FrequentRows.{AreFirstRows, LeavesRows, Reports, StandAtFront, bounds_in}
use Rattle.datasketches_c.specs.Numbers.{OnRefused, ok, no_room}
use Rattle.sketch_frequencies.specs.declared.item_bounds.ItemBounds.{ItemBounds}

-- what holds anyway is said of a call that is refused
pub when_refused : (result : ℤ) (P : Type 0) → P → OnRefused result P
when_refused (pos n) P said = tt
when_refused (negsuc n) P said = said

-- rows that were found and copied are a report
pub copied_rows : {T : Type 0} (eq : T → T → Bool) (kind : ErrorType) (threshold limit : ℕ) (s : FrequentState T) (rows : List (RowValue T)) (items_old items_new : List T)
    (bounds_old bounds_new : List ItemBounds) (count : ℕ) (result : ℤ) → AreFirstRows eq kind threshold s limit rows → count ≡ length rows
    → (length rows ≤ length items_old → length rows ≤ length bounds_old → (result ≡ ok) × StandAtFront rows items_old items_new bounds_old bounds_new)
    → (length items_old < length rows → result ≡ no_room) → (length bounds_old < length rows → result ≡ no_room)
    → Reports eq kind threshold s limit items_old items_new bounds_old bounds_new count result
copied_rows eq kind threshold limit s rows items_old items_new bounds_old bounds_new count result are counted written few_items few_bounds = record {
  rows = rows;
  are = are;
  counted = counted;
  written = λ items bounds. written (subst (λ (n : ℕ). n ≤ length items_old) counted items) (subst (λ (n : ℕ). n ≤ length bounds_old) counted bounds);
  few_items = λ few. few_items (subst (λ (n : ℕ). length items_old < n) counted few);
  few_bounds = λ few. few_bounds (subst (λ (n : ℕ). length bounds_old < n) counted few);
}

-- items and bounds that were written in front of what stood in the buffers stand there
pub rows_stand : {T : Type 0} (rows : List (RowValue T)) (items_old items : List T) (bounds_old bounds : List ItemBounds) → items ≡ map (λ row. row.item) rows → bounds ≡ map bounds_in rows
    → StandAtFront rows items_old (items ++ drop (length rows) items_old) bounds_old (bounds ++ drop (length rows) bounds_old)
rows_stand {T} rows items_old items bounds_old bounds is_items is_bounds =
    let item : RowValue T → T = λ row. row.item in
    let long_items : length items ≡ length rows = ap length is_items ∙ length-map rows item in
    let long_bounds : length bounds ≡ length rows = ap length is_bounds ∙ length-map rows bounds_in in
    record {
      items = take_at items (drop (length rows) items_old) (length rows) long_items ∙ is_items;
      behind_items = drop_at items (drop (length rows) items_old) (length rows) long_items;
      bounds = take_at bounds (drop (length rows) bounds_old) (length rows) long_bounds ∙ is_bounds;
      behind_bounds = drop_at bounds (drop (length rows) bounds_old) (length rows) long_bounds;
    }

-- a call that wrote nothing left all
pub rows_left : {T : Type 0} (items : List T) (bounds : List ItemBounds) (count : ℕ) (result : ℤ) → LeavesRows items items bounds bounds count count result
rows_left items bounds count result = record { untouched = when_refused result ((items ≡ items) × (bounds ≡ bounds)) (refl, refl); uncounted = λ not other. refl }
