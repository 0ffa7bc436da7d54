-- A walk over a table, as a caller sees it.
use Rattle.std.specs.Prelude.{◌≡◌, ℕ, ◌<◌, Bool, List, [], ◌++◌, IsPermutation, Option, None, Some, option_to_list, option_map}
use Rattle.std.specs.Borrow.{Bor}
use Rattle.std.specs.Iterator.{YieldsFirstBy}
use Rattle.std.specs.List.{IsDistinct}
use Rattle.std.specs.Map.{keys_of}
use Rattle.counter_table.specs.Tables.{Table}

-- the entries returned so far and the remaining ones, each in the walk's order, the number of slots probed so far, and the
-- size of the table
pub record Walk (T : Type 0) : Type 0 where
  pub given : List (T × ℕ)
  pub rest : List (T × ℕ)
  pub probed : ℕ
  pub size : ℕ

-- a walk over this table that has returned nothing yet
pub record StartsWalk {T : Type 0} (eq : T → T → Bool) (table : Table T) (walk : Walk T) : Type 0 where
  pub entries : IsPermutation table.entries walk.rest
  pub distinct : IsDistinct eq (keys_of walk.rest)
  pub given : walk.given ≡ []
  pub probed : walk.probed ≡ 0
  pub size : walk.size ≡ table.size

-- the entry that an item of the walk is
abbrev pub entry_of : {T : Type 0} → Bor T × ℕ → T × ℕ
entry_of item = (item.0.now, item.1)

-- an item takes at least one probe, and the end takes none
abbrev pub ReadsOn : {I : Type 0} → Option I → ℕ → ℕ → Type 0
ReadsOn None old new = new ≡ old
ReadsOn (Some item) old new = old < new

-- the first remaining entry was returned, or none remained
abbrev pub WalkGives : {T : Type 0} → Walk T → Option (Bor T × ℕ) → Walk T → Type 0
WalkGives {T} old item new =
    YieldsFirstBy entry_of (λ (walk : Walk T). walk.rest) old item new
    × (new.given ≡ old.given ++ option_to_list (option_map entry_of item))
    × (new.size ≡ old.size) × ReadsOn item old.probed new.probed
