use Rattle.std.proofs.Common.{[], ◌∷◌, ◌++◌, subst, arith}
use Rattle.std.proofs.lemmas.Result.{err_from_is_err_and}
use Rattle.std.specs.VecDeque.Iter.{deque_iter_rest}
use Rattle.heavy_windows.proofs.Merging.{Continues, goes_on, next_fits, one_left, ends_so, chain_merged}
use Rattle.heavy_windows.proofs.windows.Windows.merged.Goals as goal

pub loop-window-preserved : goal.loop-window-preserved
loop-window-preserved g c =
    let eq = g.T.PartialEq.eq in
    let newest = c.self.inside.newest in
    let left = subst (λ l. Continues eq c.in_ok-merged.merged c.args.self.now c.loop-window.merged (l ++ newest ∷ [])) c.in-Some.ensures.steps c.loop-window.invariant.2 in (
      tt,
      tt,
      goes_on eq c.in_ok-merged.merged c.loop-window.merged c.merge.new.self c.in-Some.window.now c.args.self.now (deque_iter_rest c.next.new.self ++ newest ∷ []) left
          (record { join = c.in_ok-merge.ensures.join; stands = c.in_ok-merge.ensures.stands; budget = c.in_ok-merge.ensures.budget }),
      c.merge.ensures.state,
    )

pub returns-in_err-merge-clause-memory : goal.returns-in_err-merge-clause-memory
returns-in_err-merge-clause-memory g c = λ below.
    let eq = g.T.PartialEq.eq in
    let newest = c.self.inside.newest in
    let left = subst (λ l. Continues eq c.in_ok-merged.merged c.args.self.now c.loop-window.merged (l ++ newest ∷ [])) c.in-Some.ensures.steps c.loop-window.invariant.2 in
    let p = err_from_is_err_and c.from_residual-in_err-merge.result c.from_residual-in_err-merge.ensures.1 in
    rw (p.1, p.2) (c.in_err-merge.ensures.memory (next_fits eq c.args.max_map_size c.args.key c.in_ok-merged.merged c.loop-window.merged c.in-Some.window.now c.args.self.now (deque_iter_rest c.next.new.self ++ newest ∷ []) c.in_ok-merged.ensures.ok below left))

pub returns-clause-merged : goal.returns-clause-merged
returns-clause-merged g c =
    let eq = g.T.PartialEq.eq in
    let newest = c.self.inside.newest in
    let first = c.in_ok-merged.merged in
    let windows = c.args.self.now in
    let left = one_left eq first c.loop-window.merged newest windows (deque_iter_rest c.loop-window.window-iterator) c.in-None.ensures.steps.0 c.loop-window.invariant.2 in
    let done = goes_on eq first c.loop-window.merged c.merge-2.new.self newest windows [] left
    (record { join = c.in_ok-merge-2.ensures.join; stands = c.in_ok-merge-2.ensures.stands; budget = c.in_ok-merge-2.ensures.budget }) in
    chain_merged eq c.args.max_map_size c.args.key first windows c.merge-2.new.self c.in_ok-merged.ensures.ok (ends_so eq first c.merge-2.new.self windows done) c.merge-2.ensures.state c.in_ok-merged.ensures.stands c.in_ok-merged.ensures.budget

pub returns-in_err-merge-2-clause-memory : goal.returns-in_err-merge-2-clause-memory
returns-in_err-merge-2-clause-memory g c = λ below.
    let eq = g.T.PartialEq.eq in
    let newest = c.self.inside.newest in
    let first = c.in_ok-merged.merged in
    let windows = c.args.self.now in
    let left = one_left eq first c.loop-window.merged newest windows (deque_iter_rest c.loop-window.window-iterator) c.in-None.ensures.steps.0 c.loop-window.invariant.2 in
    let p = err_from_is_err_and c.from_residual-in_err-merge-2.result c.from_residual-in_err-merge-2.ensures.1 in
    rw (p.1, p.2) (c.in_err-merge-2.ensures.memory (next_fits eq c.args.max_map_size c.args.key first c.loop-window.merged newest windows [] c.in_ok-merged.ensures.ok below left))

-- the windows' total was found to fit before
pub returns-in_err-merged-clause-overflow : goal.returns-in_err-merged-clause-overflow
returns-in_err-merged-clause-overflow g c = λ passes. absurd (omega (arith, passes, c.in_ok-check_total.ensures.ok))

pub returns-in_err-merge-clause-overflow : goal.returns-in_err-merge-clause-overflow
returns-in_err-merge-clause-overflow g c = λ passes. absurd (omega (arith, passes, c.in_ok-check_total.ensures.ok))

pub returns-in_err-merge-2-clause-overflow : goal.returns-in_err-merge-2-clause-overflow
returns-in_err-merge-2-clause-overflow g c = λ passes. absurd (omega (arith, passes, c.in_ok-check_total.ensures.ok))

pub returns-clause-overflow : goal.returns-clause-overflow
returns-clause-overflow g c = λ passes. absurd (omega (arith, passes, c.in_ok-check_total.ensures.ok))
