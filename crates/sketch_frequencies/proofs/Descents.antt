-- The order of sorted rows.
use Rattle.std.proofs.Common.{◌≡◌, ℕ, Bool, List, ap, arith}
use Rattle.std.specs.Borrow.{Bor}
use Rattle.std.specs.Cmp.{IsStrictWeakOrder, nat_cmp_total}
use Rattle.std.specs.Fn.{Mut, Called, ComparesAs}
use Rattle.std.specs.List.Sorted.{IsSortedBy}
use Rattle.std.specs.Ordering.{nat_cmp, is_lt}
use Rattle.std.specs.declared.cmp.Ordering.{Ordering}
use Rattle.std.proofs.lemmas.Fn.{always_returns_same}
use Rattle.std.proofs.lemmas.List.Sorted.{ranks_by, sorted_far, IsStrictWeakOrder-flip}
use Rattle.std.proofs.lemmas.Map.Keys.{ge_from_not_lt}
use Rattle.sketch_frequencies.specs.RowValue.{RowValue}
use Rattle.sketch_frequencies.specs.Rows.{Descends}

-- rows that a sort put so that no estimate is above the one before it
pub descends_from_sort : {T : Type 0} {F : Type 0} {g : Mut F (Bor (RowValue T) × (Bor (RowValue T) × Unit {0})) Ordering} {f : F} (rows : List (RowValue T)) → ((lt : RowValue T → RowValue T → Bool) → IsStrictWeakOrder lt → ComparesAs g lt f → IsSortedBy lt rows) → ((a : Bor (RowValue T) × (Bor (RowValue T) × Unit {0})) (r : Ordering) (f' : F) → Called g f a r f' → (r ≡ nat_cmp a.1.0.now.estimate a.0.now.estimate) × (f' ≡ f)) → Descends rows
descends_from_sort {T} {F} {g} {f} rows sorted answers = λ i j d below within.
    let n : RowValue T → ℕ = λ row. row.estimate in
    let earlier : RowValue T → RowValue T → Bool = λ a b. is_lt (nat_cmp (n b) (n a)) in
    let order = IsStrictWeakOrder-flip (λ a b. is_lt (nat_cmp (n a) (n b))) (ranks_by nat_cmp_total n) in
    let up = sorted earlier order (always_returns_same g (λ a r. is_lt r ≡ earlier a.0.now a.1.0.now) f (λ a r f' k. (ap is_lt (answers a r f' k).0, (answers a r f' k).1))) in
    ge_from_not_lt _ _ (sorted_far earlier order rows up i j d (omega (arith, below)) within)
