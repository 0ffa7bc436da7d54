-- The state of a Count-Min sketch (Cormode & Muthukrishnan 2005), and what each call does to it.
use Rattle.std.specs.Prelude.{◌≡◌, ◌≢◌, ℕ, ◌+◌, ◌*◌, ◌/◌, ◌^◌, ◌<◌, ◌≤◌, ◌==◌, if◌then◌else◌, List, [], ◌∷◌, length, map, replicate, count_by, All, ℤ, pos, ◌+ℤ◌, ◌≤ℤ◌, unsigned_abs}
use Rattle.std.specs.Int.{int_min}
use Rattle.sketch_base.specs.Hashes.{seed_hash}
use Rattle.sketch_countmin.specs.Values.{scaled, halved}
use Rattle.sketch_countmin.specs.Rows.{cell_at}
use Rattle.sketch_countmin.specs.Buckets.{bucket_of}

-- the number of hashes and of buckets, the seed, the total weight, and the cells: a row for each hash with a cell for
-- each bucket
pub record CountState : Type 0 where
  pub hashes : ℕ
  pub buckets : ℕ
  pub seed : ℕ
  pub total : ℕ
  pub rows : List (List ℤ)

-- what holds of every sketch over a type with this maximum
pub record IsCountState (greatest : ℕ) (s : CountState) : Type 0 where
  pub some_hashes : 0 < s.hashes
  pub few_hashes : s.hashes ≤ 255
  pub some_buckets : 3 ≤ s.buckets
  pub few_cells : s.hashes * s.buckets < 2 ^ 30
  pub seeded : seed_hash s.seed ≢ 0
  pub height : length s.rows ≡ s.hashes
  pub width : All (λ row. length row ≡ s.buckets) s.rows
  pub fits : s.total ≤ greatest
  -- no cell is further from zero than the total
  pub bounded : (r b : ℕ) → unsigned_abs (cell_at s.rows r b) ≤ s.total

-- two sketches have equal hashes, buckets and seeds
pub record SameShape (s t : CountState) : Type 0 where
  pub hashes : s.hashes ≡ t.hashes
  pub buckets : s.buckets ≡ t.buckets
  pub seed : s.seed ≡ t.seed

-- an empty sketch
abbrev pub empty_state : ℕ → ℕ → ℕ → CountState
empty_state hashes buckets seed = record {
  hashes = hashes;
  buckets = buckets;
  seed = seed;
  total = 0;
  rows = replicate hashes (replicate buckets (pos 0));
}

-- new is old after a weight was counted for a byte list: in each row one cell has it added
pub record Counts (old : CountState) (bytes : List ℕ) (weight : ℤ) (new : CountState) : Type 0 where
  pub shape : SameShape new old
  pub total : new.total ≡ old.total + unsigned_abs weight
  pub cells : (r : ℕ) → r < old.hashes → (b : ℕ) → b < old.buckets
      → cell_at new.rows r b
      ≡ cell_at old.rows r b +ℤ (if bucket_of old.buckets old.seed r bytes == b then weight else pos 0)

-- new is old after each of these byte lists was counted with weight 1
pub record CountsAll (old : CountState) (items : List (List ℕ)) (new : CountState) : Type 0 where
  pub shape : SameShape new old
  pub total : new.total ≡ old.total + length items
  pub cells : (r : ℕ) → r < old.hashes → (b : ℕ) → b < old.buckets
      → cell_at new.rows r b
      ≡ cell_at old.rows r b +ℤ pos (count_by (λ bytes. bucket_of old.buckets old.seed r bytes == b) items)

-- new is old after each byte list was counted with its weight, one after another
abbrev pub CountsEach : CountState → List (List ℕ × ℤ) → CountState → Type 0
CountsEach old [] new = new ≡ old
CountsEach old (pair ∷ rest) new = (mid : CountState) × Counts old pair.0 pair.1 mid × CountsEach mid rest new

-- new is old with each cell and the total of another sketch of its shape added
pub record Joins (old other new : CountState) : Type 0 where
  pub same : SameShape old other
  pub shape : SameShape new old
  pub total : new.total ≡ old.total + other.total
  pub cells : (r : ℕ) → r < old.hashes → (b : ℕ) → b < old.buckets
      → cell_at new.rows r b ≡ cell_at old.rows r b +ℤ cell_at other.rows r b

-- new is old with the cells and totals of other sketches added, one after another
abbrev pub JoinsEach : CountState → List CountState → CountState → Type 0
JoinsEach old [] new = new ≡ old
JoinsEach old (other ∷ rest) new = (mid : CountState) × Joins old other mid × JoinsEach mid rest new

-- each cell and the total halved, rounded down
abbrev pub halved_state : CountState → CountState
halved_state s = record s { total = s.total / 2; rows = map (map halved) s.rows }

-- each cell and the total multiplied by n over d, rounded down
abbrev pub decayed_state : ℕ → ℕ → CountState → CountState
decayed_state n d s = record s { total = s.total * n / d; rows = map (map (scaled n d)) s.rows }

-- the cell of a byte list in a row
abbrev pub item_cell : CountState → List ℕ → ℕ → ℤ
item_cell s bytes r = cell_at s.rows r (bucket_of s.buckets s.seed r bytes)

-- z is the minimum of the first n numbers
pub record IsMin (n : ℕ) (f : ℕ → ℤ) (z : ℤ) : Type 0 where
  pub below : (r : ℕ) → r < n → z ≤ℤ f r
  pub reached : (r : ℕ) × (r < n) × (z ≡ f r)

-- z is the minimum of the cells of a byte list, one in each row
abbrev pub IsMinCell : CountState → List ℕ → ℤ → Type 0
IsMinCell s bytes z = IsMin s.hashes (item_cell s bytes) z

-- the upper bound minus the estimate: the total times e over the number of buckets, rounded down; e is given as a
-- fraction of whole numbers
abbrev pub margin : CountState → ℕ
margin s = s.total * 2718281828459045235 / (1000000000000000000 * s.buckets)

-- the estimate plus the margin, or the maximum of the type if this exceeds it
abbrev pub upper_bound_of : ℕ → CountState → ℤ → ℤ
upper_bound_of greatest s estimate = int_min (estimate +ℤ pos (margin s)) (pos greatest)
