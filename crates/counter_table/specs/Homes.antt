-- Where a table looks up an item: from its home on, wrapping around at the end. These definitions depend on the entries,
-- the size of the table and the hashes of the items alone.
use Rattle.std.specs.Prelude.{ℕ, ◌+◌, ◌-◌, ◌%◌, ◌<◌, ◌≤◌, nat_le, count_by}
use Rattle.counter_table.specs.Tables.{Table}

-- the home of an item: its hash modulo the size
abbrev pub home_in : {T : Type 0} → (T → ℕ) → ℕ → T → ℕ
home_in hashed size x = hashed x % size

-- the index j steps after p, wrapping around
unfoldable pub ahead : ℕ → ℕ → ℕ → ℕ
ahead size p j = (p + j) % size

-- the number of steps from h to p, wrapping around
unfoldable pub distance : ℕ → ℕ → ℕ → ℕ
distance size h p = (p + (size - h)) % size

-- p is full: for some k below the size, at least k + 1 entries have their home among the k + 1 indices that end at p
pub record IsFullIndex {T : Type 0} (home : T → ℕ) (table : Table T) (p : ℕ) : Type 0 where
  pub back : ℕ
  pub within : back < table.size
  pub many : back + 1 ≤ count_by (λ e. nat_le (distance table.size (home e.0) p) back) table.entries

-- n is the reach of x: the number of indices from its home to the first that is not full, both included
pub record IsReach {T : Type 0} (home : T → ℕ) (table : Table T) (x : T) (n : ℕ) : Type 0 where
  pub some : 1 ≤ n
  pub full : (j : ℕ) → j + 1 < n → IsFullIndex home table (ahead table.size (home x) j)
  pub last : IsFullIndex home table (ahead table.size (home x) (n - 1)) → ⊥

-- n is at least 1, and less than the reach of x
pub record IsShortOfReach {T : Type 0} (home : T → ℕ) (table : Table T) (x : T) (n : ℕ) : Type 0 where
  pub some : 1 ≤ n
  pub reach : ℕ
  pub is_reach : IsReach home table x reach
  pub less : n < reach
