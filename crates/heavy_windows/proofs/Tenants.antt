-- The windows of one tenant among those of all.
use Rattle.std.proofs.Common.{◌≡◌, ◌≢◌, ℕ, ◌==◌, Bool, false, cond, List, [], Some, unwrap_or, refl, sym, ◌∙◌, ap, subst, arith, ⊎_elim}
use Rattle.std.proofs.lemmas.Bool.{cases_eq, eq-eqb}
use Rattle.std.proofs.Math.Dec.{eqb}
use Rattle.std.proofs.lemmas.Map.Steps.{set_value_same}
use Rattle.std.proofs.lemmas.Bool.Decides.{nat_tests}
use Rattle.std.specs.HashMap.{HashMap, hasher_of}
use Rattle.std.specs.Map.{lookup, set_value}
use Rattle.counter_table.specs.declared.table_key.TableKey.{TableKey}
use Rattle.sketch_base.specs.declared.map_state.MapState.{MapState}
use Rattle.sketch_frequencies.specs.State.{FrequentState}
use Rattle.heavy_windows.specs.State.{WindowsState, known, at_tenant, windows_of, AreKept, IsWindows, OnlyChanges}

eqb_apart : (a b : ℕ) → (a ≡ b → ⊥) → (a == b) ≡ false
eqb_apart a b apart = grind (arith, nat_tests)

-- a map from tenants to their windows
abbrev Tenants : Type 0 → Type 0
Tenants T = HashMap ℕ (List (FrequentState T)) MapState

module _ {T : Type 0} where
  -- a tenant has these windows now, and the others have theirs
  pub record PutsWindows (tenant : ℕ) (windows : List (FrequentState T)) (old new : WindowsState T) : Type 0 where
    pub limit : new.limit ≡ old.limit
    pub max_map_size : new.max_map_size ≡ old.max_map_size
    pub key : new.key ≡ old.key
    pub hasher : new.hasher ≡ old.hasher
    pub each : (other : ℕ) → known other new ≡ cond (tenant == other) (Some windows) (known other old)

  pub put_known : (tenant : ℕ) (windows : List (FrequentState T)) (old new : WindowsState T)
      → PutsWindows tenant windows old new → known tenant new ≡ Some windows
  put_known tenant windows old new p =
      p.each tenant ∙ ap (λ (b : Bool). cond b (Some windows) (known tenant old)) (eq-eqb tenant tenant refl)

  known_other : (tenant : ℕ) (windows : List (FrequentState T)) (old new : WindowsState T)
      → PutsWindows tenant windows old new → (other : ℕ) → other ≢ tenant → known other new ≡ known other old
  known_other tenant windows old new p other apart =
      p.each other ∙ ap (λ (b : Bool). cond b (Some windows) (known other old)) (eqb_apart tenant other (λ e. apart (sym e)))

  pub put_at : (tenant : ℕ) (windows : List (FrequentState T)) (old new : WindowsState T)
      → PutsWindows tenant windows old new → at_tenant tenant new ≡ windows
  put_at tenant windows old new p = ap (λ o. unwrap_or o []) (put_known tenant windows old new p)

  pub put_others : (tenant : ℕ) (windows : List (FrequentState T)) (old new : WindowsState T)
      → PutsWindows tenant windows old new → OnlyChanges tenant old new
  put_others tenant windows old new p = record {
    limit = p.limit;
    max_map_size = p.max_map_size;
    key = p.key;
    hasher = p.hasher;
    others = λ other apart. ap (λ o. unwrap_or o []) (known_other tenant windows old new p other apart);
  }

  pub put_kept : (tenant : ℕ) (windows : List (FrequentState T)) (old new : WindowsState T)
      → PutsWindows tenant windows old new → AreKept old.limit old.max_map_size old.key windows → IsWindows old → IsWindows new
  put_kept tenant windows old new p kept is = record {
    limits = rw (p.limit, p.max_map_size) is.limits;
    each = λ other. rw (p.limit, p.max_map_size, p.key)
        (⊎_elim
        (λ (same : other ≡ tenant). rw (same, put_known tenant windows old new p) kept)
        (λ (apart : other ≡ tenant → ⊥). rw (known_other tenant windows old new p other apart) (is.each other))
        (cases_eq other tenant));
  }

  -- the same of a map that was written
  pub put_in : (tenant limit max_map_size : ℕ) (key : TableKey) (old new : Tenants T) (windows : List (FrequentState T))
      → ((other : ℕ) → lookup (eqb other) new.entries ≡ cond (eqb tenant other) (Some windows) (lookup (eqb other) old.entries))
      → hasher_of new ≡ hasher_of old
      → PutsWindows tenant windows (windows_of limit max_map_size key old) (windows_of limit max_map_size key new)
  put_in tenant limit max_map_size key old new windows e hasher =
      record { limit = refl; max_map_size = refl; key = refl; hasher = hasher; each = e }

  -- no other tenant's windows changed, of windows that are seen as these
  pub put_others_of : (tenant : ℕ) (windows : List (FrequentState T)) (old seen new : WindowsState T)
      → old ≡ seen → PutsWindows tenant windows old new → OnlyChanges tenant seen new
  put_others_of tenant windows old seen new e p = subst (λ (s : WindowsState T). OnlyChanges tenant s new) e (put_others tenant windows old new p)

  -- the map was left as it was
  pub put_none : (limit max_map_size : ℕ) (key : TableKey) (old new : Tenants T) (now : WindowsState T)
      → windows_of limit max_map_size key old ≡ now → new.entries ≡ old.entries → hasher_of new ≡ hasher_of old
      → windows_of limit max_map_size key new ≡ now
  put_none limit max_map_size key old new now e same hasher = rw (same, hasher) e

  -- what was found, written back, changes nothing
  pub put_back : (tenant limit max_map_size : ℕ) (key : TableKey) (old new : Tenants T)
      (windows : List (FrequentState T)) (now : WindowsState T)
      → windows_of limit max_map_size key old ≡ now → lookup (eqb tenant) old.entries ≡ Some windows
      → new.entries ≡ set_value (eqb tenant) old.entries windows → hasher_of new ≡ hasher_of old
      → windows_of limit max_map_size key new ≡ now
  put_back tenant limit max_map_size key old new windows now e found written hasher =
      put_none limit max_map_size key old new now e (written ∙ set_value_same (eqb tenant) old.entries windows found) hasher

  pub same_changes : (tenant : ℕ) (old new : WindowsState T) → new ≡ old → OnlyChanges tenant old new
  same_changes tenant old new e = subst (λ s. OnlyChanges tenant old s) (sym e)
      (record { limit = refl; max_map_size = refl; key = refl; hasher = refl; others = λ other apart. refl })

  -- a known tenant's windows
  pub kept_of : (tenant : ℕ) (s : WindowsState T) (windows : List (FrequentState T)) → IsWindows s
      → known tenant s ≡ Some windows → AreKept s.limit s.max_map_size s.key windows
  kept_of tenant s windows is e = rw e at (is.each tenant)
