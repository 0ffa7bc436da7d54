-- What the rows of a report say of the true weights.
use Rattle.std.proofs.Common.{◌≡◌, ℕ, ◌<◌, max, Bool, true, List, ap, sym, ◌∙◌, arith}
use Rattle.std.proofs.lemmas.Bool.{lt-ltb, ltb-true}
use Rattle.std.proofs.lemmas.List.Elements.{All-weaker}
use Rattle.counter_table.specs.Tables.{count_of, is_tracked}
use Rattle.sketch_frequencies.specs.History.{true_weight}
use Rattle.sketch_frequencies.specs.State.{FrequentState}
use Rattle.sketch_frequencies.specs.RowValue.{RowValue}
use Rattle.sketch_frequencies.specs.Rows.{passes, Shows, ShowsExactly, MissesNone, ShowsNoneBelow}
use Rattle.sketch_frequencies.specs.declared.error_type.ErrorType.{ErrorType}
use Rattle.sketch_frequencies.specs.declared.error_type.ErrorType.TheVariants.{NoFalseNegatives, NoFalsePositives}
use Rattle.sketch_frequencies.proofs.Estimates.{some_from_count}
use Rattle.std.specs.Map.{lookup}

-- an item that is not tracked has no count
untracked_count : {T : Type 0} (eq : T → T → Bool) (s : FrequentState T) (x : T) → 0 < count_of eq s.counters x → is_tracked eq s.counters x ≡ true
untracked_count eq s x some = some_from_count (lookup (eq x) s.counters) (λ none. absurd (omega (arith, some, none)))

-- an item of a true weight above the threshold and the error is tracked, and its upper bound is above them
pub misses_none : {T : Type 0} (eq : T → T → Bool) (kind : ErrorType) (threshold : ℕ) (s : FrequentState T) (rows : List (RowValue T)) → kind ≡ NoFalseNegatives → ShowsExactly eq kind threshold s rows → MissesNone eq threshold s rows
misses_none eq kind threshold s rows is exact = λ h stands x heavy.
    let some : 0 < count_of eq s.counters x = omega (arith, heavy, stands.at_most x) in
    let pass : passes NoFalseNegatives threshold s (count_of eq s.counters x) ≡ true = lt-ltb _ _ (omega (arith, heavy, stands.at_most x)) in
    exact.whole x (untracked_count eq s x some) (ap (λ k. passes k threshold s (count_of eq s.counters x)) is ∙ pass)

-- an item whose lower bound is above them has such a true weight
pub shows_none_below : {T : Type 0} (eq : T → T → Bool) (kind : ErrorType) (threshold : ℕ) (s : FrequentState T) (rows : List (RowValue T)) → kind ≡ NoFalsePositives → ShowsExactly eq kind threshold s rows → ShowsNoneBelow eq threshold s rows
shows_none_below {T} eq kind threshold s rows is exact = λ h stands.
    All-weaker (Shows eq kind threshold s) (λ (row : RowValue T). max threshold s.error < true_weight eq h row.item)
    (λ row shown.
    let pass : passes NoFalsePositives threshold s (count_of eq s.counters row.item) ≡ true = ap (λ k. passes k threshold s (count_of eq s.counters row.item)) (sym is) ∙ shown.passing in
    let above : max threshold s.error < count_of eq s.counters row.item = ltb-true _ _ pass in
    omega (arith, above, stands.at_least row.item)) rows exact.shown
