-- Weights for which a total has room.
use Rattle.std.proofs.Common.{◌≡◌, ℕ, ◌+◌, ◌<◌, ◌≤◌, List, length, take, get_or, ap, arith}
use Rattle.std.specs.Prelude.{sum_by}
use Rattle.std.proofs.lemmas.List.Sums.{sum_by_more, sum_by_more_le}

-- a weight fits where all of them fit
pub one_fits : {W : Type 0} (size : W → ℕ) (weights : List W) (i : ℕ) (w : W) (start now greatest : ℕ) → i < length weights → w ≡ get_or weights i w
    → start + sum_by size weights ≤ greatest → now ≡ start + sum_by size (take i weights) → now + size w ≤ greatest
one_fits size weights i w start now greatest there is fits so_far =
    let same : size w ≡ size (get_or weights i w) = ap size is in
    let most : sum_by size (take i weights) + size (get_or weights i w) ≤ sum_by size weights = sum_by_more_le size weights i w there in
    omega arith

-- and then the weights so far are one more
pub one_more : {W : Type 0} (size : W → ℕ) (weights : List W) (i : ℕ) (w : W) (start now after : ℕ) → i < length weights → w ≡ get_or weights i w
    → after ≡ now + size w → now ≡ start + sum_by size (take i weights) → after ≡ start + sum_by size (take (i + 1) weights)
one_more size weights i w start now after there is step so_far =
    let same : size w ≡ size (get_or weights i w) = ap size is in
    let more : sum_by size (take (i + 1) weights) ≡ sum_by size (take i weights) + size (get_or weights i w) = sum_by_more size weights i w there in
    omega arith

-- a weight above the room that the weights before it leave makes all of them too much
pub one_over : {W : Type 0} (size : W → ℕ) (weights : List W) (i : ℕ) (w : W) (start room greatest : ℕ) → i < length weights → w ≡ get_or weights i w
    → start + sum_by size (take i weights) + room ≡ greatest → room < size w → greatest < start + sum_by size weights
one_over size weights i w start room greatest there is so_far over =
    let same : size w ≡ size (get_or weights i w) = ap size is in
    let most : sum_by size (take i weights) + size (get_or weights i w) ≤ sum_by size weights = sum_by_more_le size weights i w there in
    omega arith
