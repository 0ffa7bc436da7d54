use Rattle.std.proofs.Common.{rules, ◌≡◌, [], unwrap_or, ap, sym, ◌∙◌}
use Rattle.heavy_windows.specs.State.{WindowsState, at_tenant}
use Rattle.heavy_windows.proofs.heavy_windows.HeavyWindows.merged.Given as given
use Rattle.heavy_windows.proofs.heavy_windows.HeavyWindows.merged.Goals as goal

-- the windows that were found are the tenant's
found : (g : given.Over) (c : goal.After-merged g) → at_tenant c.args.tenant c.args.self.now ≡ c.in-Some.windows.now
found g c =
    ap (λ (s : WindowsState g.row.T.Denot). at_tenant c.args.tenant s) (sym c.self.view_is)
    ∙ ap (λ o. unwrap_or o []) (sym c.in-Some.ensures.value)

size : (g : given.Over) (c : goal.After-merged g) → c.args.self.now.max_map_size ≡ c.self.inside.max_map_size
size g c = ap (λ (s : WindowsState g.row.T.Denot). s.max_map_size) (sym c.self.view_is)

key : (g : given.Over) (c : goal.After-merged g) → c.args.self.now.key ≡ c.self.inside.key
key g c = ap (λ (s : WindowsState g.row.T.Denot). s.key) (sym c.self.view_is)

pub returns-in-Some-clause-merged : goal.returns-in-Some-clause-merged
returns-in-Some-clause-merged g c = rw (found g c, size g c, key g c) c.merged.ensures.merged

pub returns-in-Some-clause-overflow : goal.returns-in-Some-clause-overflow
returns-in-Some-clause-overflow g c = rw (found g c) c.merged.ensures.overflow

pub returns-in-Some-clause-memory : goal.returns-in-Some-clause-memory
returns-in-Some-clause-memory g c = rw (found g c) c.merged.ensures.memory

-- none was found: the tenant has none
none : (g : given.Over) (c : goal.After-with_key g) → at_tenant c.args.tenant c.args.self.now ≡ []
none g c =
    ap (λ (s : WindowsState g.row.T.Denot). at_tenant c.args.tenant s) (sym c.self.view_is)
    ∙ ap (λ o. unwrap_or o []) (sym c.in-None.ensures.value)

pub returns-in-None-clause-merged : goal.returns-in-None-clause-merged
returns-in-None-clause-merged g c =
    let unknown = none g c in
    search rules

pub returns-in-None-clause-overflow : goal.returns-in-None-clause-overflow
returns-in-None-clause-overflow g c =
    let unknown = none g c in
    search rules
