use Rattle.std.proofs.Common.{◌≡◌, ℕ, ◌+◌, List, ◌∷◌, subst, arith}
use Rattle.std.proofs.lemmas.List.Sums.{sum_by-cons}
use Rattle.std.specs.VecDeque.Iter.{deque_iter_rest}
use Rattle.sketch_frequencies.specs.State.{FrequentState}
use Rattle.heavy_windows.specs.State.{windows_total}
use Rattle.heavy_windows.proofs.windows.Windows.check_total.Goals as goal

-- one more weight is added up
one_more : {T : Type 0} (total weight whole : ℕ) (window : FrequentState T) (left rest : List (FrequentState T)) → left ≡ window ∷ rest → weight ≡ window.total
    → total + windows_total left ≡ whole → (total + weight) + windows_total rest ≡ whole
one_more total weight whole window left rest left_is weight_is so_far =
    let parts : total + windows_total (window ∷ rest) ≡ whole = subst (λ (l : List (FrequentState _)). total + windows_total l ≡ whole) left_is so_far in
    omega (arith, parts, weight_is, sum_by-cons (λ (w : FrequentState _). w.total) window rest)

pub overflow_sub-total : goal.overflow_sub-total
overflow_sub-total g c = omega (arith, c.loop-window.invariant.3)

pub overflow_add-total : goal.overflow_add-total
overflow_add-total g c = omega (arith, c.if-weight-total.false, c.loop-window.invariant.3)

pub loop-window-preserved : goal.loop-window-preserved
loop-window-preserved g c = (
  tt,
  tt,
  one_more c.loop-window.total c.total_weight-weight.result _ c.in-Some.window.now _ (deque_iter_rest c.next.new.self) c.in-Some.ensures.steps c.total_weight-weight.ensures c.loop-window.invariant.2,
  omega (arith, c.if-weight-total.false, c.loop-window.invariant.3),
)

pub returns-then-weight-total-clause-overflow : goal.returns-then-weight-total-clause-overflow
returns-then-weight-total-clause-overflow g c =
    let whole = one_more c.loop-window.total c.total_weight-weight.result _ c.in-Some.window.now _ (deque_iter_rest c.next.new.self) c.in-Some.ensures.steps c.total_weight-weight.ensures c.loop-window.invariant.2 in
    omega (arith, whole, c.if-weight-total.true)
