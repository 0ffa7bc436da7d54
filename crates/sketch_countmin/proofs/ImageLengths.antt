-- The length of what is written for a sketch, and that each of its cells is in the range of its type.
use Rattle.std.proofs.Common.{◌≡◌, ◌≢◌, ℕ, zero, suc, ◌+◌, ◌*◌, ◌<◌, ◌≤◌, ◌==◌, Bool, true, false, List, ◌++◌, All, length, map, get_or, ℤ, pos, negsuc, unsigned_abs, ◌≤ℤ◌, ◌+ℤ◌, refl, sym, ap, subst, ◌∙◌, arith, length-append, eq-eqb, eqb-true}
use Rattle.std.specs.Prelude.{if◌then◌else◌}
use Rattle.std.specs.List.{flat_map}
use Rattle.std.proofs.lemmas.Bool.{false≢true}
use Rattle.std.proofs.lemmas.Int.{ints}
use Rattle.std.proofs.lemmas.List.{get_or-map, length-map}
use Rattle.std.proofs.lemmas.List.Elements.{All-from_get_or}
use Rattle.sketch_base.specs.Hashes.{seed_hash}
use Rattle.sketch_countmin.specs.Image.{IsSpelled, all_cells, image_bytes, numbers_of, preamble}
use Rattle.sketch_countmin.specs.State.{CountState}
use Rattle.sketch_countmin.specs.Table.{IsTable, state_of}
use Rattle.sketch_countmin.specs.Values.{InRange, bytes_of}
use Rattle.sketch_countmin.proofs.RoundTrips.{length-all_cells, length-bytes}
use Rattle.sketch_countmin.proofs.Spellings.{spelled_empty, spelled_full}

-- each image that is written for a sketch has the length that the sketch's shape and total give
pub length-spelled : (least : ℤ) (greatest : ℕ) (image : List ℕ) (s : CountState) → IsSpelled least greatest image s → length image ≡ image_bytes s
length-spelled least greatest image s h = by_total (s.total == 0) refl where
  by_total : (b : Bool) → (s.total == 0) ≡ b → length image ≡ (if b then 16 else 24 + 8 * (s.hashes * s.buckets))
  by_total true e = ap length (h.empty (eqb-true _ 0 e))
  by_total false e =
      let some : s.total ≢ 0 = λ none. false≢true (sym e ∙ eq-eqb _ 0 none) in
      let numbers : List ℤ = numbers_of s in
      let cells : length (all_cells s.rows) ≡ s.hashes * s.buckets = length-all_cells s.buckets s.rows h.state.width ∙ ap (λ (m : ℕ). m * s.buckets) h.state.height in
      ap length (h.full some)
      ∙ (length-append (preamble 0 s.buckets s.hashes (seed_hash s.seed)) (flat_map bytes_of numbers)
      ∙ omega (arith, length-bytes numbers, cells))

-- there is an image for the sketch of these parts
some_image_of : (least : ℤ) (greatest : ℕ) (seeds : List ℕ) (d seed : ℕ) (total : ℤ) (cells : List ℤ) → least ≤ℤ pos 0 → IsTable greatest seeds d seed total cells → All (InRange least greatest) cells
    → (image : List ℕ) × IsSpelled least greatest image (state_of seeds d seed total cells)
some_image_of least greatest seeds d seed (pos zero) cells low table fit =
    (preamble 1 d (length seeds) (seed_hash seed), spelled_empty least greatest _ seeds d seed (pos zero) cells low table refl refl)
some_image_of least greatest seeds d seed (pos (suc n)) cells low table fit =
    let image = (preamble 0 d (length seeds) (seed_hash seed) ++ bytes_of (pos (suc n))) ++ flat_map bytes_of cells in
    (image, spelled_full least greatest image seeds d seed (pos (suc n)) cells low table (λ none. absurd (omega (arith, ints, none))) fit refl)
some_image_of least greatest seeds d seed (negsuc n) cells low table fit =
    let image = (preamble 0 d (length seeds) (seed_hash seed) ++ bytes_of (negsuc n)) ++ flat_map bytes_of cells in
    (image, spelled_full least greatest image seeds d seed (negsuc n) cells low table (λ none. absurd (omega (arith, ints, none))) fit refl)

-- values of a type with zero, in which each sum that is no further from zero than the maximum is in range
module _ {T : Type 0} (number : T → ℤ) (zero : T) (least : ℤ) (greatest : ℕ) (zero_is : number zero ≡ pos 0) (sums_fit : (x y : T) → unsigned_abs (number x +ℤ number y) ≤ greatest → InRange least greatest (number x +ℤ number y)) where
  -- each value that is no further from zero than the maximum is in range
  in_range : (x : T) → unsigned_abs (number x) ≤ greatest → InRange least greatest (number x)
  in_range x small =
      let same : number x +ℤ number zero ≡ number x = omega (arith, ints, zero_is) in
      subst (InRange least greatest) same (sums_fit x zero (subst (λ (z : ℤ). unsigned_abs z ≤ greatest) (sym same) small))

  -- so is each cell of a sketch
  pub cells_in_range : (seeds : List ℕ) (d seed : ℕ) (total : ℤ) (cells : List ℤ) (counts : List T) → map number counts ≡ cells → IsTable greatest seeds d seed total cells → All (InRange least greatest) cells
  cells_in_range seeds d seed total cells counts are table = subst (All (InRange least greatest)) are (All-from_get_or (InRange least greatest) (map number counts) (pos 0) each)
    where
      each : (k : ℕ) → k < length (map number counts) → InRange least greatest (get_or (map number counts) k (pos 0))
      each k lt =
          let is : get_or (map number counts) k (pos 0) ≡ number (get_or counts k zero) = get_or-map number counts k zero (pos 0) (omega (arith, lt, length-map counts number)) in
          let small : unsigned_abs (get_or (map number counts) k (pos 0)) ≤ greatest = subst (λ (zs : List ℤ). unsigned_abs (get_or zs k (pos 0)) ≤ greatest) (sym are) (omega (arith, table.bounded k, table.fits)) in
          subst (InRange least greatest) (sym is) (in_range (get_or counts k zero) (subst (λ (z : ℤ). unsigned_abs z ≤ greatest) is small))

  -- so there is an image of each sketch
  pub some_image : (seeds : List ℕ) (d seed : ℕ) (total : ℤ) (cells : List ℤ) (counts : List T) → map number counts ≡ cells → least ≤ℤ pos 0 → IsTable greatest seeds d seed total cells
      → (image : List ℕ) × IsSpelled least greatest image (state_of seeds d seed total cells)
  some_image seeds d seed total cells counts are low table =
      some_image_of least greatest seeds d seed total cells low table (cells_in_range seeds d seed total cells counts are table)
