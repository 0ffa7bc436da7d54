-- How many entries a purge drops.
use Rattle.std.proofs.Common.{ℕ, ◌+◌, ◌-◌, ◌/◌, ◌≤◌, cond, List, [], ◌∷◌, length, arith, count_by, ◌++◌, ltb, leb, Bool, ◌≡◌}
use Rattle.std.specs.List.{filter}
use Rattle.std.proofs.lemmas.Bool.Decides.{nat_tests}
use Rattle.std.proofs.lemmas.List.{length-map}
use Rattle.std.proofs.lemmas.List.Sums.{sum_by-cons, sum_by-append, length-filter}
use Rattle.std.proofs.lemmas.List.Sorted.{sum_by-IsPermutation}
use Rattle.counter_table.specs.Tables.{purged, IsSampleMiddle}

-- a count is above m, or no greater
above_or_not : {T : Type 0} (m : ℕ) (es : List (T × ℕ)) → count_by (λ e. ltb m e.1) es + count_by (λ e. leb e.1 m) es ≡ length es
above_or_not m [] = omega arith
above_or_not {T} m (e ∷ es) =
    let above : T × ℕ → ℕ = λ e. cond (ltb m e.1) 1 0 in
    let rest : T × ℕ → ℕ = λ e. cond (leb e.1 m) 1 0 in
    let one : above e + rest e ≡ 1 = grind (arith, nat_tests) in
    omega (arith, sum_by-cons above e es, sum_by-cons rest e es, one, above_or_not m es)

-- half of the sample and one entry more, since so many of the sample are no greater than its middle
pub purged_shorter : {T : Type 0} (n m : ℕ) (es : List (T × ℕ)) → IsSampleMiddle n es m → length (purged m es) + (n / 2 + 1) ≤ length es
purged_shorter {T} n m es h =
    let above : T × ℕ → Bool = λ e. ltb m e.1 in
    let low : T × ℕ → ℕ = λ e. cond (leb e.1 m) 1 0 in
    omega (arith, h.at_most, sum_by-IsPermutation low es (h.sample ++ h.rest) h.is_part, sum_by-append low h.sample h.rest, above_or_not m es, length-filter above es, length-map {B = T × ℕ} (filter above es) (λ e. (e.0, e.1 - m)))
