-- The order of the rows of a report.
use Rattle.std.proofs.Common.{◌≡◌, inl, inr, ◌<◌, Bool, false, List, get_or, refl, sym, ap, subst, arith}
use Rattle.std.proofs.lemmas.Bool.{false≢true}
use Rattle.std.proofs.lemmas.Cmp.{back_total, nat_cmp_total, nat_list_cmp_total, on_total, ranked, then_total}
use Rattle.std.proofs.lemmas.Fn.{always_returns_same}
use Rattle.std.proofs.lemmas.List.Sorted.{ranks_by, sorted_far}
use Rattle.std.specs.Borrow.{Bor}
use Rattle.std.specs.Cmp.{IsStrictWeakOrder, IsTotalOrder}
use Rattle.std.specs.Cmp.Lexicographic.{slice_cmp}
use Rattle.std.specs.Fn.{Mut, Called, ComparesAs}
use Rattle.std.specs.List.{AllPairs}
use Rattle.std.specs.List.Sorted.{IsSortedBy}
use Rattle.std.specs.Ordering.{MatchOrdering, is_gt, is_lt, nat_cmp, ordering_reverse, ordering_then}
use Rattle.std.specs.String.{string_bytes}
use Rattle.std.specs.declared.cmp.Ordering.{Ordering}
use Rattle.std.specs.declared.cmp.Ordering.TheVariants.{Less, Equal, Greater}
use Rattle.sketches.specs.Reports.{Row, Precedes, row_cmp}

rows_total : IsTotalOrder row_cmp
rows_total = then_total (back_total (on_total (λ (row : Row). row.upper_bound) nat_cmp_total)) (on_total (λ (row : Row). string_bytes row.item) nat_list_cmp_total)

reversed : (o : Ordering) → is_lt o ≡ false → is_gt (ordering_reverse o) ≡ false
reversed Less none = none
reversed Equal none = refl
reversed Greater none = refl

-- by the comparison of the upper bounds
by_bounds : (first : Ordering) (earlier later : Row) → MatchOrdering first (earlier.upper_bound < later.upper_bound) (earlier.upper_bound ≡ later.upper_bound) (later.upper_bound < earlier.upper_bound)
    → is_lt (ordering_then first (slice_cmp nat_cmp (string_bytes later.item) (string_bytes earlier.item))) ≡ false → Precedes earlier later
by_bounds Less earlier later bounds none = absurd (false≢true (sym none))
by_bounds Equal earlier later bounds none = inr (
  sym bounds,
  subst (λ (o : Ordering). is_gt o ≡ false) (sym (nat_list_cmp_total.antisymm (string_bytes earlier.item) (string_bytes later.item)))
      (reversed (slice_cmp nat_cmp (string_bytes later.item) (string_bytes earlier.item)) none),
)
by_bounds Greater earlier later bounds none = inl bounds

-- rows that a sort by this comparison left
pub order_from_sort : {F : Type 0} {g : Mut F (Bor Row × (Bor Row × Unit {0})) Ordering} {f : F} (rows : List Row) → ((lt : Row → Row → Bool) → IsStrictWeakOrder lt → ComparesAs g lt f → IsSortedBy lt rows)
    → ((a : Bor Row × (Bor Row × Unit {0})) (r : Ordering) (f' : F) → Called g f a r f' → (r ≡ row_cmp a.0.now a.1.0.now) × (f' ≡ f)) → AllPairs Precedes rows
order_from_sort {F} {g} {f} rows sorted answers = λ i j d below within.
    let lt : Row → Row → Bool = λ a b. is_lt (row_cmp a b) in
    let order : IsStrictWeakOrder lt = ranks_by rows_total (λ (row : Row). row) in
    let up = sorted lt order (always_returns_same g (λ a r. is_lt r ≡ lt a.0.now a.1.0.now) f (λ a r f' k. (ap is_lt (answers a r f' k).0, (answers a r f' k).1))) in
    by_bounds (nat_cmp (get_or rows i d).upper_bound (get_or rows j d).upper_bound) (get_or rows i d) (get_or rows j d) (ranked (get_or rows i d).upper_bound (get_or rows j d).upper_bound _ refl)
    (sorted_far lt order rows up i j d (omega (arith, below)) within)
