use Rattle.std.proofs.Common.{rules, arith, ◌≡◌, [], unwrap_or, refl, ap, sym, ◌∙◌, subst}
use Rattle.std.proofs.lemmas.Grind.{common_steps}
use Rattle.std.proofs.lemmas.Result.{err_from_is_err_and, on_ok_weaker, on_err_weaker}
use Rattle.std.specs.Result.{OnOk}
use Rattle.heavy_windows.specs.Histories.{turned_history}
use Rattle.heavy_windows.specs.Stands.{ExtendsEach}
use Rattle.heavy_windows.specs.State.{WindowsState, IsWindows, at_tenant, windows_of}
use Rattle.heavy_windows.proofs.Kept.{kept_either}
use Rattle.heavy_windows.proofs.Standing.{fresh_window, opened_at}
use Rattle.heavy_windows.proofs.Tenants.{PutsWindows, kept_of, put_in, put_at, put_kept, put_others_of, put_back, same_changes}
use Rattle.heavy_windows.proofs.heavy_windows.HeavyWindows.turn.Given as given
use Rattle.heavy_windows.proofs.heavy_windows.HeavyWindows.turn.Goals as goal

-- a window was refused: the windows were written back as they were
same : (g : given.Over) (c : goal.After-from_residual g)
    → windows_of c.self.inside.limit c.self.inside.max_map_size c.self.inside.key (c.get_mut.follows.lender c.in-Some.windows.now) ≡ c.args.self.now
same g c =
    put_back c.args.tenant c.self.inside.limit c.self.inside.max_map_size c.self.inside.key c.self.inside.tenants (c.get_mut.follows.lender c.in-Some.windows.now) c.in-Some.windows.now c.args.self.now c.self.view_is (sym c.in-Some.ensures.value) (c.get_mut.follows.holds c.in-Some.windows.now).0 (c.get_mut.follows.holds c.in-Some.windows.now).5

pub invariant_of-self-in_err-window : goal.invariant_of-self-in_err-window
invariant_of-self-in_err-window g c =
    subst (λ s. IsWindows s) (c.self.view_is ∙ sym (same g c)) c.self.invariant

pub returns-in_err-window-clause-state : goal.returns-in_err-window-clause-state
returns-in_err-window-clause-state g c = invariant_of-self-in_err-window g c

pub returns-in_err-window-clause-call : goal.returns-in_err-window-clause-call
returns-in_err-window-clause-call g c = record {
  turned = search rules;
  stands = search rules;
  others = same_changes c.args.tenant c.args.self.now _ (same g c);
  unknown = search rules;
  err =
      let p = err_from_is_err_and c.from_residual.result c.from_residual.ensures.1 in
      rw p.1 (same g c);
  memory = grind (arith, common_steps);
}

-- the windows were turned, or left as they were
put : (g : given.Over) (c : goal.After-self-2-1 g)
    → PutsWindows c.args.tenant c.turn.new.self (windows_of c.self.inside.limit c.self.inside.max_map_size c.self.inside.key c.self.inside.tenants) (windows_of c.self.inside.limit c.self.inside.max_map_size c.self.inside.key (c.get_mut.follows.lender c.turn.new.self))
put g c = put_in c.args.tenant _ _ _ c.self.inside.tenants (c.get_mut.follows.lender c.turn.new.self) c.turn.new.self ((c.get_mut.follows.holds c.turn.new.self).3 (rw (sym c.in-Some.ensures.value) refl)).0 (c.get_mut.follows.holds c.turn.new.self).5

pub invariant_of-self-2 : goal.invariant_of-self-2
invariant_of-self-2 g c =
    let old = windows_of c.self.inside.limit c.self.inside.max_map_size c.self.inside.key c.self.inside.tenants in
    put_kept c.args.tenant c.turn.new.self old _ (put g c)
    (kept_either c.self.inside.limit c.self.inside.max_map_size c.self.inside.key c.in-Some.windows.now c.turn.new.self c.in_ok-window.window c.turn.result
    (kept_of c.args.tenant old c.in-Some.windows.now c.self.invariant (sym c.in-Some.ensures.value))
    (record { size_is = ap (λ s. s.max_size) c.in_ok-window.ensures.ok; key_is = ap (λ s. s.key) c.in_ok-window.ensures.ok }) c.turn.ensures.turned c.turn.ensures.err)
    c.self.invariant

pub returns-clause-state : goal.returns-clause-state
returns-clause-state g c = invariant_of-self-2 g c

pub returns-clause-call : goal.returns-clause-call
returns-clause-call g c =
    let tenant = c.args.tenant in
    let new = windows_of c.self.inside.limit c.self.inside.max_map_size c.self.inside.key (c.get_mut.follows.lender c.turn.new.self) in
    let before = ap (λ o. unwrap_or o []) (sym c.in-Some.ensures.value) in
    let after = put_at tenant c.turn.new.self _ new (put g c) in
    record {
      turned = search rules;
      stands = subst (λ (s : WindowsState g.row.T.Denot). OnOk c.turn.result (ExtendsEach g.T.PartialEq.eq s.max_map_size (at_tenant tenant s) (at_tenant tenant new) (turned_history s.limit s.max_map_size))) c.self.view_is
          (on_ok_weaker c.turn.result
          (λ done. opened_at g.T.PartialEq.eq c.self.inside.limit c.self.inside.max_map_size c.in_ok-window.window c.in-Some.windows.now _ (at_tenant tenant new) before (after ∙ done)
          (fresh_window g.T.PartialEq.eq c.self.inside.max_map_size c.in_ok-window.window c.in_ok-window.ensures.stands c.in_ok-window.ensures.budget))
          c.turn.ensures.turned);
      others = put_others_of tenant c.turn.new.self _ c.args.self.now _ c.self.view_is (put g c);
      unknown = search rules;
      err = on_err_weaker c.turn.result
          (λ e. put_back tenant c.self.inside.limit c.self.inside.max_map_size c.self.inside.key c.self.inside.tenants (c.get_mut.follows.lender c.turn.new.self) c.in-Some.windows.now c.args.self.now c.self.view_is (sym c.in-Some.ensures.value) (rw e (c.get_mut.follows.holds c.in-Some.windows.now).0) (c.get_mut.follows.holds c.turn.new.self).5)
          c.turn.ensures.err;
      memory = search rules;
    }

-- an unknown tenant stays unknown
pub returns-in_default-clause-call : goal.returns-in_default-clause-call
returns-in_default-clause-call g c =
    let unknown : at_tenant c.args.tenant c.args.self.now ≡ [] = ap (λ (s : WindowsState g.row.T.Denot). at_tenant c.args.tenant s) (sym c.self.view_is) ∙ ap (λ o. unwrap_or o []) (sym c.in_default.ensures.value) in
    search rules
