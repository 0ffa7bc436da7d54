-- What is written is spelled for the sketch.
use Rattle.std.proofs.Common.{◌≡◌, ◌≢◌, ℕ, zero, suc, ◌*◌, List, [], ◌∷◌, ◌++◌, All, length, take, drop, get_or, ℤ, pos, unsigned_abs, ◌≤ℤ◌, refl, sym, ap, subst, ◌∙◌, arith, append_assoc, ⊎_elim}
use Rattle.std.specs.List.{flat_map}
use Rattle.std.proofs.lemmas.Bool.{cases_lt}
use Rattle.std.proofs.lemmas.Int.{ints}
use Rattle.std.proofs.lemmas.List.{take-append-drop, length-drop, get_or_past}
use Rattle.std.proofs.lemmas.List.Concat.{flat_map-cons}
use Rattle.std.proofs.lemmas.List.Elements.{All-get_or}
use Rattle.sketch_base.specs.Hashes.{seed_hash}
use Rattle.sketch_countmin.specs.Image.{IsSpelled, preamble, all_cells}
use Rattle.sketch_countmin.specs.Rows.{cell_at, rows_of}
use Rattle.sketch_countmin.specs.Table.{IsTable, state_of}
use Rattle.sketch_countmin.specs.Values.{InRange, bytes_of}
use Rattle.sketch_countmin.proofs.Tables.{is_state, rows_all}

-- the cells of the rows of a list are those of the list
pub all_rows : (m d : ℕ) (cells : List ℤ) → length cells ≡ m * d → all_cells (rows_of m d cells) ≡ cells
unfolding rows_of
all_rows zero d [] size = refl
all_rows zero d (z ∷ zs) size = absurd (omega arith)
all_rows (suc m) d cells size =
    flat_map-cons (λ (row : List ℤ). row) (take d cells) (rows_of m d (drop d cells))
    ∙ (ap (λ (zs : List ℤ). take d cells ++ zs) (all_rows m d (drop d cells) (omega (arith, length-drop d cells))) ∙ take-append-drop d cells)

-- a type with zero has each cell, where it has those of the list
cells_fit : (least : ℤ) (greatest m d : ℕ) (cells : List ℤ) → least ≤ℤ pos 0 → All (InRange least greatest) cells → (r b : ℕ) → InRange least greatest (cell_at (rows_of m d cells) r b)
cells_fit least greatest m d cells low fit r b = rows_all (InRange least greatest) none m d cells at r b
  where
    none : InRange least greatest (pos 0)
    none = (low, omega (arith, ints))

    at : (k : ℕ) → InRange least greatest (get_or cells k (pos 0))
    at k = ⊎_elim (λ lt. All-get_or (InRange least greatest) cells k (pos 0) lt fit) (λ le. subst (InRange least greatest) (sym (get_or_past cells k (pos 0) le)) (low, omega (arith, ints))) (cases_lt k (length cells))

-- a sketch whose total is 0
pub spelled_empty : (least : ℤ) (greatest : ℕ) (image seeds : List ℕ) (d seed : ℕ) (total : ℤ) (cells : List ℤ) → least ≤ℤ pos 0 → IsTable greatest seeds d seed total cells → total ≡ pos 0 → image ≡ preamble 1 d (length seeds) (seed_hash seed)
    → IsSpelled least greatest image (state_of seeds d seed total cells)
spelled_empty least greatest image seeds d seed total cells low table none is = record {
  state = is_state greatest seeds d seed total cells table;
  in_range = λ r b. rows_all (InRange least greatest) (low, omega (arith, ints)) (length seeds) d cells (λ k. let zero_cell : get_or cells k (pos 0) ≡ pos 0 = omega (arith, ints, table.bounded k, none) in (omega (arith, ints, low, zero_cell), omega (arith, ints, zero_cell))) r b;
  empty = λ _. is;
  full = λ some. absurd (some (ap unsigned_abs none));
}

-- a sketch whose total is another
pub spelled_full : (least : ℤ) (greatest : ℕ) (image seeds : List ℕ) (d seed : ℕ) (total : ℤ) (cells : List ℤ) → least ≤ℤ pos 0 → IsTable greatest seeds d seed total cells → total ≢ pos 0 → All (InRange least greatest) cells
    → image ≡ (preamble 0 d (length seeds) (seed_hash seed) ++ bytes_of total) ++ flat_map bytes_of cells → IsSpelled least greatest image (state_of seeds d seed total cells)
spelled_full least greatest image seeds d seed total cells low table some fit is = record {
  state = is_state greatest seeds d seed total cells table;
  in_range = cells_fit least greatest (length seeds) d cells low fit;
  empty = λ none. absurd (some (table.total_is ∙ ap pos none));
  full = λ _. is ∙ (append_assoc (preamble 0 d (length seeds) (seed_hash seed)) (bytes_of total) (flat_map bytes_of cells)
      ∙ ap (λ (bytes : List ℕ). preamble 0 d (length seeds) (seed_hash seed) ++ bytes) (ap (λ (z : ℤ). bytes_of z ++ flat_map bytes_of cells) table.total_is
      ∙ (ap (λ (zs : List ℤ). bytes_of (pos (unsigned_abs total)) ++ flat_map bytes_of zs) (sym (all_rows (length seeds) d cells table.size))
      ∙ sym (flat_map-cons bytes_of (pos (unsigned_abs total)) (all_cells (rows_of (length seeds) d cells))))));
}
