-- Cells that are read from bytes where they lie.
use Rattle.std.proofs.Common.{◌≡◌, ℕ, zero, suc, ◌+◌, ◌*◌, ◌/◌, ◌<◌, ◌≤◌, List, take, drop, map, length, get_or, ℤ, pos, refl, ap, ◌∙◌, arith, drop-drop}
use Rattle.std.proofs.lemmas.List.{take-take, drop-take, length-take-le, length-map, get_or-map}
use Rattle.sketch_countmin.specs.Image.{number_at, numbers_in}
use Rattle.sketch_countmin.specs.Values.{number_in}
use Rattle.sketch_countmin.specs.View.{nearest, cells_of_bytes}
use Rattle.sketch_countmin.proofs.Images.{length-numbers_in}

-- a number is the one at its index
number_at_index : (least : ℤ) (n : ℕ) (bytes : List ℕ) (i : ℕ) → i < n → get_or (numbers_in least n bytes) i (pos 0) ≡ number_at least bytes (8 * i)
unfolding number_at
number_at_index least zero bytes i l = absurd (omega arith)
number_at_index least (suc n) bytes zero l = refl
number_at_index least (suc n) bytes (suc i) l =
    number_at_index least n (drop 8 bytes) i (omega arith)
    ∙ ap (λ (rest : List ℕ). number_in least (take 8 rest)) (drop-drop (8 * i) 8 bytes ∙ ap (λ (k : ℕ). drop k bytes) (omega arith))

-- there is a cell for each eight bytes
pub length-cells_of_bytes : (least : ℤ) (total : ℕ) (bytes : List ℕ) → length (cells_of_bytes least total bytes) ≡ length bytes / 8
length-cells_of_bytes least total bytes = length-map (numbers_in least (length bytes / 8) bytes) (nearest least total) ∙ length-numbers_in least (length bytes / 8) bytes

-- the bytes of a cell are there
pub cell_within : (least : ℤ) (total : ℕ) (bytes : List ℕ) (i : ℕ) → i < length (cells_of_bytes least total bytes) → 8 * i + 8 ≤ length bytes
cell_within least total bytes i l = omega (arith, length-cells_of_bytes least total bytes)

-- a cell of bytes
pub cell_of_bytes : (least : ℤ) (total : ℕ) (bytes : List ℕ) (i : ℕ) → i < length (cells_of_bytes least total bytes)
    → get_or (cells_of_bytes least total bytes) i (pos 0) ≡ nearest least total (number_at least bytes (8 * i))
cell_of_bytes least total bytes i l =
    let n : ℕ = length bytes / 8 in
    let there : i < n = omega (arith, length-cells_of_bytes least total bytes) in
    get_or-map (nearest least total) (numbers_in least n bytes) i (pos 0) (pos 0) (omega (arith, there, length-numbers_in least n bytes))
    ∙ ap (nearest least total) (number_at_index least n bytes i there)

-- the first numbers do not depend on what stands behind them
numbers_in_take : (least : ℤ) (n : ℕ) (bytes : List ℕ) → numbers_in least n (take (8 * n) bytes) ≡ numbers_in least n bytes
unfolding number_at
numbers_in_take least zero bytes = refl
numbers_in_take least (suc n) bytes =
    let size : 8 * suc n ≡ 8 + 8 * n = omega arith in
    let first : take 8 (take (8 * suc n) bytes) ≡ take 8 bytes = take-take 8 (8 * suc n) bytes (omega arith) in
    let rest : drop 8 (take (8 * suc n) bytes) ≡ take (8 * n) (drop 8 bytes) = ap (λ (k : ℕ). drop 8 (take k bytes)) size ∙ drop-take 8 (8 * n) bytes in
    rw (first, rest, numbers_in_take least n (drop 8 bytes)) refl

-- the cells of the bytes of some numbers
pub cells_of_part : (least : ℤ) (total n : ℕ) (bytes : List ℕ) → 8 * n ≤ length bytes → cells_of_bytes least total (take (8 * n) bytes) ≡ map (nearest least total) (numbers_in least n bytes)
cells_of_part least total n bytes fits =
    let size : length (take (8 * n) bytes) ≡ 8 * n = length-take-le (8 * n) bytes fits in
    ap (λ (k : ℕ). map (nearest least total) (numbers_in least k (take (8 * n) bytes))) (omega (arith, size))
    ∙ ap (map (nearest least total)) (numbers_in_take least n bytes)
