-- The cells of a grid, written as a slice.
use Rattle.std.proofs.Common.{◌≡◌, ℕ, ◌*◌, List, map, length, ℤ, refl, sym, ap, ◌∙◌, subst}
use Rattle.std.specs.Prelude.{slice_index}
use Rattle.std.specs.Global.{Vec}
use Rattle.std.specs.Vec.{with_items}
use Rattle.std.proofs.lemmas.List.{length-map, with_items_is}
use Rattle.sketch_countmin.specs.Buckets.{bucket_by}
use Rattle.sketch_countmin.specs.Cells.{RowCounted}
use Rattle.sketch_countmin.specs.Grid.{GridState, grid_of, IsGrid, KeepsShape, AddsItem, CountsInRow}
use Rattle.sketch_countmin.specs.Items.{IsItemAdded}

-- the slice has a cell for each row and bucket; `lent` are the row seeds as they are read
pub slice_size : {T : Type 0} (number : T → ℤ) (row_seeds lent : List ℕ) (buckets : ℕ) (v : Vec T) (counts : List T)
    → IsGrid (grid_of row_seeds buckets (map number v.items)) → lent ≡ row_seeds → counts ≡ v.items → length counts ≡ length lent * buckets
slice_size number row_seeds lent buckets v counts grid seeds_are counts_are =
    ap length counts_are ∙ (sym (length-map v.items number) ∙ (grid.size ∙ ap (λ (seeds : List ℕ). length seeds * buckets) (sym seeds_are)))

-- what holds of the grid holds of the slice
pub of_slice : {T : Type 0} (number : T → ℤ) (P : ℕ → List ℤ → Type 0) (row_seeds : List ℕ) (buckets : ℕ) (items counts : List T) (old : GridState)
    → grid_of row_seeds buckets (map number items) ≡ old → counts ≡ items → P old.buckets old.cells → P buckets (map number counts)
of_slice number P row_seeds buckets items counts old is counts_are p =
    subst (λ (xs : List _). P buckets (map number xs)) (sym counts_are) (subst (λ (g : GridState). P g.buckets g.cells) (sym is) p)

-- what the grid is after the slice was written
written : {T : Type 0} (number : T → ℤ) (P : List ℕ → List ℤ → List ℤ → Type 0) (row_seeds lent : List ℕ) (v : Vec T) (counts new : List T)
    → lent ≡ row_seeds → counts ≡ v.items → length counts ≡ v.len → length new ≡ length counts
    → P lent (map number counts) (map number new) → P row_seeds (map number v.items) (map number (with_items v new).items)
written number P row_seeds lent v counts new seeds_are counts_are size long p =
    subst (λ (xs : List _). P row_seeds (map number v.items) (map number xs)) (sym (with_items_is v new (long ∙ size)))
    (subst (λ (xs : List _). P row_seeds (map number xs) (map number new)) counts_are
    (subst (λ (seeds : List ℕ). P seeds (map number counts) (map number new)) seeds_are p))

-- it has the shape that it had
same_shape : {T : Type 0} (number : T → ℤ) (row_seeds : List ℕ) (buckets : ℕ) (v : Vec T) (counts new : List T) → counts ≡ v.items → length counts ≡ v.len → length new ≡ length counts
    → KeepsShape (grid_of row_seeds buckets (map number v.items)) (grid_of row_seeds buckets (map number (with_items v new).items))
same_shape number row_seeds buckets v counts new counts_are size long = record {
  row_seeds = refl;
  buckets = refl;
  size = written number (λ _ before after. length after ≡ length before) row_seeds row_seeds v counts new refl counts_are size long
      (length-map new number ∙ (long ∙ sym (length-map counts number)));
}

-- an item was added
pub item_written : {T : Type 0} (number : T → ℤ) (bytes : List ℕ) (w : ℤ) (old : GridState) (row_seeds lent : List ℕ) (buckets : ℕ) (v : Vec T) (counts new : List T)
    → grid_of row_seeds buckets (map number v.items) ≡ old → lent ≡ row_seeds → counts ≡ v.items → length counts ≡ v.len → length new ≡ length counts
    → IsItemAdded buckets lent bytes w (map number counts) (map number new) → AddsItem bytes w old (grid_of row_seeds buckets (map number (with_items v new).items))
item_written number bytes w old row_seeds lent buckets v counts new is seeds_are counts_are size long added =
    subst (λ (g : GridState). AddsItem bytes w g (grid_of row_seeds buckets (map number (with_items v new).items))) is record {
      shape = same_shape number row_seeds buckets v counts new counts_are size long;
      added = written number (λ seeds before after. IsItemAdded buckets seeds bytes w before after) row_seeds lent v counts new seeds_are counts_are size long added;
    }

-- items were counted in a row
pub row_written : {T : Type 0} (number : T → ℤ) (items : List (List ℕ)) (row : ℕ) (old : GridState) (row_seeds lent : List ℕ) (buckets : ℕ) (v : Vec T) (counts new : List T)
    → grid_of row_seeds buckets (map number v.items) ≡ old → lent ≡ row_seeds → counts ≡ v.items → length counts ≡ v.len → length new ≡ length counts
    → RowCounted buckets (bucket_by buckets (slice_index lent row)) items row (map number counts) (map number new)
    → CountsInRow items row old (grid_of row_seeds buckets (map number (with_items v new).items))
row_written number items row old row_seeds lent buckets v counts new is seeds_are counts_are size long counted =
    subst (λ (g : GridState). CountsInRow items row g (grid_of row_seeds buckets (map number (with_items v new).items))) is record {
      shape = same_shape number row_seeds buckets v counts new counts_are size long;
      counted = written number (λ seeds before after. RowCounted buckets (bucket_by buckets (slice_index seeds row)) items row before after) row_seeds lent v counts new seeds_are counts_are size long counted;
    }
