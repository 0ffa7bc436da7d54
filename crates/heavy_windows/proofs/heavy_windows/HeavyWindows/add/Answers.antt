use Rattle.std.proofs.Common.{rules, ◌≡◌, ◌<◌, arith, [], ◌∷◌, unwrap_or, refl, ap, sym, ◌∙◌, subst}
use Rattle.std.proofs.lemmas.Result.{err_from_is_err_and, on_err_weaker}
use Rattle.std.specs.HashMap.{hasher_of}
use Rattle.sketch_base.specs.Errors.{refusal_of}
use Rattle.sketch_frequencies.specs.State.{FrequentState}
use Rattle.sketch_frequencies.specs.Steps.{Steps}
use Rattle.heavy_windows.specs.Fresh.{fresh_state}
use Rattle.heavy_windows.specs.Histories.{added_history}
use Rattle.heavy_windows.specs.Stands.{ExtendsEach}
use Rattle.heavy_windows.specs.State.{IsWindows, WindowsState, at_tenant, windows_of}
use Rattle.heavy_windows.specs.Steps.{AddsToNewest}
use Rattle.heavy_windows.proofs.Kept.{kept_added_either, kept_first, size_is_good}
use Rattle.heavy_windows.proofs.Refusals.{fits_none, refused_unknown}
use Rattle.heavy_windows.proofs.Standing.{fresh_window, first_at}
use Rattle.heavy_windows.proofs.Steps.{adds_first}
use Rattle.heavy_windows.proofs.Tenants.{PutsWindows, kept_of, put_in, put_at, put_kept, put_others_of, put_back, put_none}
use Rattle.heavy_windows.proofs.heavy_windows.HeavyWindows.add.Given as given
use Rattle.heavy_windows.proofs.heavy_windows.HeavyWindows.add.Goals as goal

-- the newest window was updated, or left as it was
put : (g : given.Over) (c : goal.After-self-in-Some-1 g)
    → PutsWindows c.args.tenant c.add.new.self (windows_of c.self.inside.limit c.self.inside.max_map_size c.self.inside.key c.self.inside.tenants) (windows_of c.self.inside.limit c.self.inside.max_map_size c.self.inside.key (c.get_mut.follows.lender c.add.new.self))
put g c = put_in c.args.tenant _ _ _ c.self.inside.tenants (c.get_mut.follows.lender c.add.new.self) c.add.new.self ((c.get_mut.follows.holds c.add.new.self).3 (rw (sym c.in-Some.ensures.value) refl)).0 (c.get_mut.follows.holds c.add.new.self).5

pub invariant_of-self : goal.invariant_of-self
invariant_of-self g c =
    let old = windows_of c.self.inside.limit c.self.inside.max_map_size c.self.inside.key c.self.inside.tenants in
    put_kept c.args.tenant c.add.new.self old _ (put g c)
    (kept_added_either g.T.PartialEq.eq c.self.inside.limit c.self.inside.max_map_size c.self.inside.key (fresh_state c.self.inside.max_map_size c.self.inside.key) c.in-Some.windows.now c.add.new.self c.args.item c.args.weight c.add.result
    (kept_of c.args.tenant old c.in-Some.windows.now c.self.invariant (sym c.in-Some.ensures.value))
    (record { size_is = refl; key_is = refl }) c.add.ensures.adds c.add.ensures.err)
    c.self.invariant

pub returns-in-Some-clause-state : goal.returns-in-Some-clause-state
returns-in-Some-clause-state g c = invariant_of-self g c

pub returns-in-Some-clause-call : goal.returns-in-Some-clause-call
returns-in-Some-clause-call g c = let is_put = put g c in record {
  zero = search rules;
  adds = search rules;
  stands = search rules;
  others = put_others_of c.args.tenant c.add.new.self _ c.args.self.now _ c.self.view_is is_put;
  err = on_err_weaker c.add.result
      (λ e. put_back c.args.tenant c.self.inside.limit c.self.inside.max_map_size c.self.inside.key c.self.inside.tenants (c.get_mut.follows.lender c.add.new.self) c.in-Some.windows.now c.args.self.now c.self.view_is (sym c.in-Some.ensures.value) (rw e (c.get_mut.follows.holds c.in-Some.windows.now).0) (c.get_mut.follows.holds c.add.new.self).5)
      c.add.ensures.err;
  overflow = search rules;
  memory = search rules;
  succeeds = search rules;
}

-- the first window was refused, or the weight

pub returns-in_err-window-clause-call : goal.returns-in_err-window-clause-call
returns-in_err-window-clause-call g c =
    let p = err_from_is_err_and c.from_residual.result c.from_residual.ensures.1 in
    refused_unknown g.T.PartialEq.eq c.args.tenant c.args.weight c.args.item (windows_of c.self.inside.limit c.self.inside.max_map_size c.self.inside.key c.self.inside.tenants) c.args.self.now _ c.from_residual.result _
    c.if-weight-eq0.false c.ranges.weight.fits (ap (λ o. unwrap_or o []) (sym c.in_default.ensures.value)) c.self.view_is
    (put_none c.self.inside.limit c.self.inside.max_map_size c.self.inside.key c.self.inside.tenants c.get_mut.follows.lender-at-none c.args.self.now c.self.view_is (rw c.get_mut.follows.holds-at-none refl) (rw c.get_mut.follows.holds-at-none refl)) p.1
    (p.2 ∙ c.in_err-window.ensures.refused ∙ ap refusal_of (size_is_good c.self.inside.limit c.self.inside.max_map_size c.self.invariant.limits))

pub returns-in_err-update_with_count-clause-call : goal.returns-in_err-update_with_count-clause-call
returns-in_err-update_with_count-clause-call g c =
    let p = err_from_is_err_and c.from_residual-in_err-update_with_count.result c.from_residual-in_err-update_with_count.ensures.1 in
    let fresh : c.in_ok-window.window.total ≡ 0 = ap (λ (s : FrequentState g.row.T.Denot). s.total) c.in_ok-window.ensures.ok in
    refused_unknown g.T.PartialEq.eq c.args.tenant c.args.weight c.args.item (windows_of c.self.inside.limit c.self.inside.max_map_size c.self.inside.key c.self.inside.tenants) c.args.self.now _ c.from_residual-in_err-update_with_count.result _
    c.if-weight-eq0.false c.ranges.weight.fits (ap (λ o. unwrap_or o []) (sym c.in_default.ensures.value)) c.self.view_is
    (put_none c.self.inside.limit c.self.inside.max_map_size c.self.inside.key c.self.inside.tenants c.get_mut.follows.lender-at-none c.args.self.now c.self.view_is (rw c.get_mut.follows.holds-at-none refl) (rw c.get_mut.follows.holds-at-none refl)) p.1
    (p.2 ∙ c.in_err-update_with_count.ensures.memory (fits_none c.in_ok-window.window.total c.args.weight fresh c.ranges.weight.fits))

pub returns-in_err-insert-clause-call : goal.returns-in_err-insert-clause-call
returns-in_err-insert-clause-call g c =
    let p = err_from_is_err_and c.from_residual-in_err-insert.result c.from_residual-in_err-insert.ensures.1 in
    let same : c.insert.new.self.entries ≡ c.self.inside.tenants.entries = rw c.get_mut.follows.holds-at-none at c.in_err-insert.ensures.err in
    let hasher : hasher_of c.insert.new.self ≡ hasher_of c.self.inside.tenants = rw c.get_mut.follows.holds-at-none at c.insert.ensures.hasher in
    refused_unknown g.T.PartialEq.eq c.args.tenant c.args.weight c.args.item (windows_of c.self.inside.limit c.self.inside.max_map_size c.self.inside.key c.self.inside.tenants) c.args.self.now _ c.from_residual-in_err-insert.result _
    c.if-weight-eq0.false c.ranges.weight.fits (ap (λ o. unwrap_or o []) (sym c.in_default.ensures.value)) c.self.view_is
    (put_none c.self.inside.limit c.self.inside.max_map_size c.self.inside.key c.self.inside.tenants c.insert.new.self c.args.self.now c.self.view_is same hasher) p.1 p.2

-- in each of these the windows are as they were

pub invariant_of-self-in_err-window : goal.invariant_of-self-in_err-window
invariant_of-self-in_err-window g c =
    subst (λ map. IsWindows (windows_of c.self.inside.limit c.self.inside.max_map_size c.self.inside.key map)) (sym c.get_mut.follows.holds-at-none) c.self.invariant

pub invariant_of-self-in_err-update_with_count : goal.invariant_of-self-in_err-update_with_count
invariant_of-self-in_err-update_with_count g c =
    subst (λ map. IsWindows (windows_of c.self.inside.limit c.self.inside.max_map_size c.self.inside.key map)) (sym c.get_mut.follows.holds-at-none) c.self.invariant

pub invariant_of-self-in_err-insert : goal.invariant_of-self-in_err-insert
invariant_of-self-in_err-insert g c =
    let same : c.insert.new.self.entries ≡ c.self.inside.tenants.entries = rw c.get_mut.follows.holds-at-none at c.in_err-insert.ensures.err in
    let hasher : hasher_of c.insert.new.self ≡ hasher_of c.self.inside.tenants = rw c.get_mut.follows.holds-at-none at c.insert.ensures.hasher in
    let old = windows_of c.self.inside.limit c.self.inside.max_map_size c.self.inside.key c.self.inside.tenants in
    subst (λ s. IsWindows s) (sym (put_none c.self.inside.limit c.self.inside.max_map_size c.self.inside.key c.self.inside.tenants c.insert.new.self old refl same hasher)) c.self.invariant

-- an unknown tenant got a first window
put_first : (g : given.Over) (c : goal.Joined-branch-4 g)
    → PutsWindows c.args.tenant (c.update_with_count.new.self ∷ []) (windows_of c.self.inside.limit c.self.inside.max_map_size c.self.inside.key c.self.inside.tenants) (windows_of c.self.inside.limit c.self.inside.max_map_size c.self.inside.key c.insert.new.self)
put_first g c =
    put_in c.args.tenant _ _ _ c.self.inside.tenants c.insert.new.self (c.update_with_count.new.self ∷ []) (rw (c.new-windows.ensures, c.get_mut.follows.holds-at-none) at c.in_ok-insert.ensures.updates.0) (rw c.get_mut.follows.holds-at-none at c.insert.ensures.hasher)

pub invariant_of-self-2 : goal.invariant_of-self-2
invariant_of-self-2 g c =
    let old = windows_of c.self.inside.limit c.self.inside.max_map_size c.self.inside.key c.self.inside.tenants in
    let some : 0 < c.args.weight = omega arith in
    put_kept c.args.tenant (c.update_with_count.new.self ∷ []) old _ (put_first g c)
    (kept_first g.T.PartialEq.eq c.self.inside.limit c.self.inside.max_map_size c.self.inside.key c.in_ok-window.window c.update_with_count.new.self c.args.item c.args.weight c.self.invariant.limits c.in_ok-window.ensures.ok (c.in_ok-update_with_count.ensures.step some))
    c.self.invariant

pub returns-clause-state : goal.returns-clause-state
returns-clause-state g c = invariant_of-self-2 g c

pub returns-clause-call : goal.returns-clause-call
returns-clause-call g c =
    let eq = g.T.PartialEq.eq in
    let max_map_size = c.self.inside.max_map_size in
    let tenant = c.args.tenant in
    let old = windows_of c.self.inside.limit c.self.inside.max_map_size c.self.inside.key c.self.inside.tenants in
    let new = windows_of c.self.inside.limit c.self.inside.max_map_size c.self.inside.key c.insert.new.self in
    let before : at_tenant tenant old ≡ [] = ap (λ o. unwrap_or o []) (sym c.in_default.ensures.value) in
    let after = put_at tenant (c.update_with_count.new.self ∷ []) old new (put_first g c) in
    record {
      zero = search rules;
      adds = λ some.
          let step = subst (λ s. Steps eq s c.args.item c.args.weight c.update_with_count.new.self) c.in_ok-window.ensures.ok (c.in_ok-update_with_count.ensures.step some) in
          subst (λ (s : WindowsState g.row.T.Denot). AddsToNewest eq (fresh_state s.max_map_size s.key) (at_tenant tenant s) c.args.item c.args.weight (at_tenant tenant new)) c.self.view_is
          (adds_first eq (fresh_state max_map_size c.self.inside.key) (at_tenant tenant old) (at_tenant tenant new) c.update_with_count.new.self c.args.item c.args.weight before after step);
      stands = λ some.
          subst (λ (s : WindowsState g.row.T.Denot). ExtendsEach eq s.max_map_size (at_tenant tenant s) (at_tenant tenant new) (added_history s.max_map_size c.args.item c.args.weight)) c.self.view_is
          (first_at eq max_map_size c.in_ok-window.window c.update_with_count.new.self c.args.item c.args.weight (at_tenant tenant old) (at_tenant tenant new) before after
          (c.in_ok-update_with_count.ensures.stands some) (c.in_ok-update_with_count.ensures.budget some)
          (fresh_window eq max_map_size c.in_ok-window.window c.in_ok-window.ensures.stands c.in_ok-window.ensures.budget));
      others = put_others_of tenant (c.update_with_count.new.self ∷ []) _ c.args.self.now _ c.self.view_is (put_first g c);
      err = search rules;
      overflow = search rules;
      memory = search rules;
      succeeds = search rules;
    }
