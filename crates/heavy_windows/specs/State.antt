-- The windows of each tenant.
use Rattle.std.specs.Prelude.{◌≡◌, ◌≢◌, ℕ, ◌<◌, ◌≤◌, ◌==◌, List, [], length, sum_by, All, Option, None, unwrap_or, IfSome}
use Rattle.std.specs.HashMap.{HashMap, hasher_of}
use Rattle.std.specs.Map.{lookup}
use Rattle.counter_table.specs.declared.table_key.TableKey.{TableKey}
use Rattle.sketch_base.specs.declared.map_state.MapState.{MapState}
use Rattle.sketch_frequencies.specs.State.{FrequentState}
use Rattle.heavy_windows.specs.Fresh.{fresh_state}
use Rattle.heavy_windows.specs.Newest.{newest}
use Rattle.heavy_windows.specs.Sizes.{limits_fault}

-- the maximum number of windows, the maximum table size and the key of all their tables, the hash builder of the tenants,
-- and the windows of each known tenant, oldest first, in some order of the tenants
pub record WindowsState (T : Type 0) : Type 0 where
  pub limit : ℕ
  pub max_map_size : ℕ
  pub key : TableKey
  pub hasher : MapState
  pub tenants : List (ℕ × List (FrequentState T))

module _ {T : Type 0} where
  -- the windows of a tenant, oldest first, if it is known
  abbrev pub known : ℕ → WindowsState T → Option (List (FrequentState T))
  known tenant s = lookup (λ key. tenant == key) s.tenants

  -- the windows of a tenant, oldest first; an unknown tenant has none
  abbrev pub at_tenant : ℕ → WindowsState T → List (FrequentState T)
  at_tenant tenant s = unwrap_or (known tenant s) []

  -- the newest window of a tenant, or a fresh one
  abbrev pub newest_of : ℕ → WindowsState T → FrequentState T
  newest_of tenant s = newest (fresh_state s.max_map_size s.key) (at_tenant tenant s)

  -- the windows in a map from tenants
  abbrev pub windows_of : ℕ → ℕ → TableKey → HashMap ℕ (List (FrequentState T)) MapState → WindowsState T
  windows_of limit max_map_size key map = record {
    limit = limit;
    max_map_size = max_map_size;
    key = key;
    hasher = hasher_of map;
    tenants = map.entries;
  }

  -- no tenant
  abbrev pub nothing_added : ℕ → ℕ → TableKey → MapState → WindowsState T
  nothing_added limit max_map_size key hasher =
      record { limit = limit; max_map_size = max_map_size; key = key; hasher = hasher; tenants = [] }

  -- the weight of all items of all windows
  abbrev pub windows_total : List (FrequentState T) → ℕ
  windows_total windows = sum_by (λ window. window.total) windows

  -- the window has this maximum size and this key
  pub record HasSizeAndKey (max_map_size : ℕ) (key : TableKey) (window : FrequentState T) : Type 0 where
    pub size_is : window.max_size ≡ max_map_size
    pub key_is : window.key ≡ key

  -- there is at least one window, at most the limit, and each has this maximum size and this key
  pub record AreKept (limit max_map_size : ℕ) (key : TableKey) (windows : List (FrequentState T)) : Type 0 where
    pub some : 0 < length windows
    pub few : length windows ≤ limit
    pub each : All (HasSizeAndKey max_map_size key) windows

  -- the invariant of the windows of all tenants
  pub record IsWindows (s : WindowsState T) : Type 0 where
    pub limits : limits_fault s.limit s.max_map_size ≡ None
    pub each : (tenant : ℕ) → IfSome (known tenant s) (AreKept s.limit s.max_map_size s.key)

  -- only this tenant's windows change
  pub record OnlyChanges (tenant : ℕ) (old new : WindowsState T) : Type 0 where
    pub limit : new.limit ≡ old.limit
    pub max_map_size : new.max_map_size ≡ old.max_map_size
    pub key : new.key ≡ old.key
    pub hasher : new.hasher ≡ old.hasher
    pub others : (other : ℕ) → other ≢ tenant → at_tenant other new ≡ at_tenant other old
